use Rattle.kernels.specs.Kernels.{Laid}
use Rattle.right_hand_side.proofs.Turns.{RowsUpTo}
use Rattle.right_hand_side.proofs.rhs_f.Given as goal

abbrev pub invariant-loop-i : goal.invariant-loop-i
invariant-loop-i l = record {
  laid : Laid l.width l.mem l.work;
  done : RowsUpTo l.width l.mem l.rows.off.now l.rows.cols.now l.rows.vals.now l.block l.b l.mu l.i l.initial.work l.work;
}
