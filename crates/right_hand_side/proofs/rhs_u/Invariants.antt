use Rattle.kernels.specs.Kernels.{Laid}
use Rattle.right_hand_side.proofs.Turns.{UpTo}
use Rattle.right_hand_side.proofs.rhs_u.Given as goal

abbrev pub invariant-loop-e : goal.invariant-loop-e
invariant-loop-e l = record {
  laid : Laid l.width l.mem l.work;
  done : UpTo l.width l.mem l.columns.atindptr.now l.columns.atindices.now l.columns.atmap.now l.columns.vals.now l.block l.c l.mu l.e l.initial.work l.work;
}
