use Rattle.pattern.specs.Word.{bit}
use Rattle.base.specs.Cat.{Wrote}
use Rattle.pair_lists.specs.Kept.{kept}
use Rattle.pair_lists.proofs.list_row.Given as goal

abbrev pub invariant-loop-k : goal.invariant-loop-k
invariant-loop-k l = Wrote l.initial.lindices l.lindices l.start (kept (bit l.p l.i) l.k) l.at
