use native.Mathlib.Omega.{arith}
use Rattle.lanes.proofs.Quads.{on}
use Rattle.lanes.proofs.Regions.{kept_room, room_put}
use Rattle.kernels.proofs.Loops.{three_none}
use Rattle.sparse.proofs.Spans.{col_plus_reg}
use Rattle.kernels.proofs.Laid.{laid_room}
use Rattle.right_hand_side.proofs.Turns.{right_turn}
use Rattle.right_hand_side.proofs.rhs_u.Goals as goal

pub loop-e-init : goal.loop-e-init
loop-e-init c = record { laid = c.requires.1; done = three_none _ _ _ _ _ _ _ _ _ }

pub put-requires-in-loop-e : goal.put-requires-in-loop-e
put-requires-in-loop-e c = (c.requires.1.wide, omega (arith, c.loop-e.invariant.laid, room_put _ _ _ _ c.put.ensures))

pub put-requires-in-loop-e-2 : goal.put-requires-in-loop-e-2
put-requires-in-loop-e-2 c = (c.requires.1.wide, omega (arith, c.loop-e.invariant.laid, room_put _ _ _ _ c.put.ensures, room_put _ _ _ _ c.put-in-loop-e.ensures))

pub loop-e-preserved : goal.loop-e-preserved
loop-e-preserved c =
    let h = c.loop-e-test.true in
    let W = c.requires.1.wide in
    let done = right_turn c.args.width c.args.mem c.args.columns.now.atindptr.now c.args.columns.now.atindices.now c.args.columns.now.atmap.now c.args.columns.now.vals.now c.args.block c.args.c.now c.args.mu c.requires.1 c.loop-e.invariant.done h (on W c.zero4-zero.ensures) (col_plus_reg c.requires.0 c.loop-e-test.true c.args.width c.loop-e.work c.args.mem.y c.zero4-zero.result c.plus-a.ensures) c.get_lanes-ce.ensures c.get-xe.ensures c.get-ze.ensures (on W c.sub4-d.ensures) (on W c.div4-q.ensures) (on W c.u_in-v.ensures) c.put.ensures c.put-in-loop-e.ensures c.put-in-loop-e-2.ensures in
    record { laid = laid_room c.requires.1 (kept_room done.kept); done = done }
