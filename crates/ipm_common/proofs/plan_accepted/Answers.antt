-- `ipm_common::plan_accepted` meets its contract. Assumes nothing.
use Rattle.ipm_common.proofs.Memories.{enough_few, enough_max}
use Rattle.ipm_common.proofs.plan_accepted.Goals as goal

pub plan_in-requires : goal.plan_in-requires
plan_in-requires c = enough_few c.args.matrix.now.m c.args.matrix.now.n c.if-matrix-le-FEW_ROWS.true c.if-matrix-le-FEW_COLUMNS.true

pub plan_in-requires-else-matrix-le-FEW_ROWS : goal.plan_in-requires-else-matrix-le-FEW_ROWS
plan_in-requires-else-matrix-le-FEW_ROWS c = enough_max c.args.matrix.now.m c.args.matrix.now.n c.args.matrix.now.accepted.csr.few c.args.matrix.now.accepted.wide
