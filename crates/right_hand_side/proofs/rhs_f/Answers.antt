use native.Mathlib.Omega.{arith}
use Rattle.lanes.proofs.Quads.{on}
use Rattle.lanes.proofs.Regions.{kept_room, grows_none}
use Rattle.sparse.proofs.Spans.{row_plus_reg}
use Rattle.kernels.proofs.Laid.{laid_room}
use Rattle.right_hand_side.proofs.Turns.{f_turn, f_end}
use Rattle.right_hand_side.proofs.rhs_f.Goals as goal

pub loop-i-init : goal.loop-i-init
loop-i-init c = record { laid = c.requires.1; done = grows_none _ _ _ _ }

pub loop-i-preserved : goal.loop-i-preserved
loop-i-preserved c =
    let h = c.loop-i-test.true in
    let W = c.requires.1.wide in
    let sums = c.plus_two-sums.ensures in
    let done = f_turn c.args.width c.args.mem c.args.rows.now.off.now c.args.rows.now.cols.now c.args.rows.now.vals.now c.args.block c.args.b.now c.args.mu c.requires.1 c.loop-i.invariant.done h (on W c.zero4-zero.ensures) c.v_start-q.ensures (row_plus_reg c.requires.0 h c.args.width c.loop-i.work c.args.mem.x c.v_start-q.result sums.first) (row_plus_reg c.requires.0 h c.args.width c.loop-i.work c.args.mem.tmp c.zero4-zero.result sums.second) c.get_lanes-be.ensures (on W c.f_in-v.ensures) c.put.ensures in
    record { laid = laid_room c.requires.1 (kept_room done.kept); done = done }

pub returns : goal.returns
returns c = f_end c.args.width c.args.mem c.args.rows.now.off.now c.args.rows.now.cols.now c.args.rows.now.vals.now c.args.block c.args.b.now c.args.mu c.loop-i.invariant.done (omega (arith, c.loop-i-test.false))
