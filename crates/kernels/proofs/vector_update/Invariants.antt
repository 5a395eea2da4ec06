use Rattle.lanes.specs.Region.{Grows}
use Rattle.kernels.proofs.Loops.{moved_lane}
use Rattle.kernels.proofs.vector_update.Given as goal

abbrev pub invariant-loop-e : goal.invariant-loop-e
invariant-loop-e l = Grows l.width l.p l.e (λ t _. moved_lane l.width l.p l.dp l.k l.h l.initial.work t) l.initial.work l.work
