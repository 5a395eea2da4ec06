use Rattle.lanes.proofs.Quads.{on}
use Rattle.sparse.proofs.Spans.{col_less_reg}
use Rattle.residuals.proofs.Turns.{dual_none, dual_turn}
use Rattle.residuals.proofs.dual_squares.Goals as goal

pub loop-e-init : goal.loop-e-init
loop-e-init c = dual_none c.args.width c.args.mem c.args.columns.now.atindptr.now c.args.columns.now.atindices.now c.args.columns.now.atmap.now c.args.columns.now.vals.now c.args.block c.args.c.now c.args.work.now (on c.requires.1.wide c.zero4-acc.ensures)

pub loop-e-preserved : goal.loop-e-preserved
loop-e-preserved c =
    let W = c.requires.1.wide in
    dual_turn c.args.width c.args.mem c.args.columns.now.atindptr.now c.args.columns.now.atindices.now c.args.columns.now.atmap.now c.args.columns.now.vals.now c.args.block c.args.c.now c.args.work.now c.loop-e.invariant c.loop-e-test.true c.get-a.ensures c.get_lanes-g.ensures (on W c.add4-v.ensures) (col_less_reg c.requires.0 c.loop-e-test.true c.args.width c.args.work.now c.args.mem.y c.add4-v.result c.less-q.ensures) (on W c.plus_in-t.ensures)
