use native.Mathlib.Omega.{arith}
use Rattle.lanes.proofs.Quads.{on}
use Rattle.lanes.proofs.Regions.{room_put}
use Rattle.kernels.proofs.Loops.{two_room}
use Rattle.sparse.proofs.Spans.{col_plus_reg}
use Rattle.kernels.proofs.Laid.{laid_room}
use Rattle.changes.proofs.Turns.{columns_none, columns_turn, columns_end}
use Rattle.changes.proofs.column_changes.Goals as goal

pub loop-e-init : goal.loop-e-init
loop-e-init c = record { laid = c.requires.1; done = columns_none _ _ _ _ _ _ _ (on c.requires.1.wide c.zero4-acc.ensures) }

pub put-requires-in-loop-e : goal.put-requires-in-loop-e
put-requires-in-loop-e c = (c.requires.1.wide, omega (arith, c.loop-e.invariant.laid, room_put _ _ _ _ c.put.ensures))

pub loop-e-preserved : goal.loop-e-preserved
loop-e-preserved c =
    let h = c.loop-e-test.true in
    let W = c.requires.1.wide in
    let done = columns_turn c.args.width c.args.mem c.args.columns.now.atindptr.now c.args.columns.now.atindices.now c.args.columns.now.atmap.now c.args.columns.now.vals.now c.args.mu c.requires.1 c.loop-e.invariant.done h (on W c.zero4-zero.ensures) (col_plus_reg c.requires.0 c.loop-e-test.true c.args.width c.loop-e.work c.args.mem.dy c.zero4-zero.result c.plus-da.ensures) c.get-d.ensures c.get-q.ensures c.get-xe.ensures c.get-ze.ensures (on W c.dx_in-dxe.ensures) (on W c.complement_in-dze.ensures) (on W c.ratio_in-t.ensures) c.put.ensures c.put-in-loop-e.ensures in
    record { laid = laid_room c.requires.1 (two_room done.written); done = done }

pub returns : goal.returns
returns c = columns_end c.args.width c.args.mem c.args.columns.now.atindptr.now c.args.columns.now.atindices.now c.args.columns.now.atmap.now c.args.columns.now.vals.now c.args.mu c.requires.1 c.loop-e.invariant.done (omega (arith, c.loop-e-test.false))
