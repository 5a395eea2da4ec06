use Rattle.lanes.proofs.Quads.{on}
use Rattle.sparse.proofs.Spans.{row_less_reg}
use Rattle.residuals.proofs.Turns.{primal_none, primal_turn}
use Rattle.residuals.proofs.primal_squares.Goals as goal

pub loop-i-init : goal.loop-i-init
loop-i-init c = primal_none c.args.width c.args.mem c.args.rows.now.off.now c.args.rows.now.cols.now c.args.rows.now.vals.now c.args.block c.args.b.now c.args.work.now (on c.requires.1.wide c.zero4-acc.ensures)

pub loop-i-preserved : goal.loop-i-preserved
loop-i-preserved c = primal_turn c.args.width c.args.mem c.args.rows.now.off.now c.args.rows.now.cols.now c.args.rows.now.vals.now c.args.block c.args.b.now c.args.work.now c.loop-i.i c.loop-i.invariant c.r_start-v.ensures (row_less_reg c.requires.0 c.loop-i-test.true c.args.width c.args.work.now c.args.mem.x c.r_start-v.result c.less-r.ensures) (on c.requires.1.wide c.plus_in-t.ensures)
