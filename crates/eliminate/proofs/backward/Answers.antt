-- `eliminate::backward` meets its contract. Assumes nothing.
use Rattle.std.proofs.Common.{arith}
use Rattle.lanes.proofs.Regions.{room_le, kept_room}
use Rattle.eliminate.proofs.Turns.{falls_turn, falls_end, factor_apart, back_still}
use Rattle.eliminate.proofs.backward.Goals as goal

pub regions-mem-requires : goal.regions-mem-requires
regions-mem-requires c = omega (arith, room_le c.args.width c.args.work.now, c.requires.fits, c.well_formed.0)

pub back_entry-u-requires : goal.back_entry-u-requires
back_entry-u-requires c = (back_still c.requires (kept_room c.loop-i.invariant.kept), omega (arith, rw c.regions-mem.ensures at c.loop-i.auto.i, c.loop-i-test.true))

pub put-requires : goal.put-requires
put-requires c = rw c.regions-mem.ensures (c.requires.wide, omega (arith, c.requires.fits, rw c.regions-mem.ensures at c.loop-i.auto.i, c.loop-i-test.true, kept_room c.loop-i.invariant.kept))

pub loop-i-preserved : goal.loop-i-preserved
loop-i-preserved c =
    let m = c.regions-mem.ensures in
    falls_turn c.loop-i.invariant c.loop-i-test.true (rw m at c.loop-i.auto.i) (factor_apart c.args.lists.now.plan) (omega (arith, c.requires.fits)) c.back_entry-u.ensures (rw m at c.put.ensures)

pub returns : goal.returns
returns c = falls_end c.loop-i.invariant c.loop-i-test.false
