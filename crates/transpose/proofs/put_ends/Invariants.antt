use Rattle.transpose.proofs.Count as law
use Rattle.transpose.proofs.put_ends.Given as goal
use Rattle.std.proofs.Common.{get_or}

abbrev pub invariant-loop-e : goal.invariant-loop-e
invariant-loop-e l = law.Ending (λ c. get_or l.fn.next c 0) l.initial.index l.index l.fn.next l.next l.again l.initial.at l.at l.t l.e l.n
