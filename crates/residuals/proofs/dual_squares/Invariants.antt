use Rattle.lanes.specs.Lanes.{On}
use Rattle.residuals.proofs.Turns.{dual_up_to}
use Rattle.residuals.proofs.dual_squares.Given as goal

abbrev pub invariant-loop-e : goal.invariant-loop-e
invariant-loop-e l = On l.width l.acc (dual_up_to l.width l.mem l.columns.atindptr.now l.columns.atindices.now l.columns.atmap.now l.columns.vals.now l.block l.c l.work l.e)
