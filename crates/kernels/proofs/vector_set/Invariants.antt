use Rattle.lanes.specs.Lists.{at}
use Rattle.lanes.specs.Region.{Grows}
use Rattle.kernels.proofs.vector_set.Given as goal

abbrev pub invariant-loop-e : goal.invariant-loop-e
invariant-loop-e l = Grows l.width l.o l.e (λ t _ _. at l.v t) l.initial.work l.work
