use Rattle.root.proofs.Turns.{AfterTurns}
use Rattle.root.proofs.first_digits.Given as goal

abbrev pub invariant-loop-turn : goal.invariant-loop-turn
invariant-loop-turn l = AfterTurns l.digits l.feed l.whole l.rest l._turn
