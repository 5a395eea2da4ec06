use Rattle.lanes.specs.Lanes.{On}
use Rattle.residuals.proofs.Turns.{primal_up_to}
use Rattle.residuals.proofs.primal_squares.Given as goal

abbrev pub invariant-loop-i : goal.invariant-loop-i
invariant-loop-i l = On l.width l.acc (primal_up_to l.width l.mem l.rows.off.now l.rows.cols.now l.rows.vals.now l.block l.b l.work l.i)
