use Rattle.lanes.proofs.Quads.{on}
use Rattle.lanes.proofs.Regions.{room_le, kept_room}
use native.Mathlib.Omega.{arith}
use Rattle.lanes.specs.Region.{after}
use Rattle.step.proofs.Steps.{advanced}
use Rattle.step.proofs.advance.Goals as goal

pub regions-mem-requires : goal.regions-mem-requires
regions-mem-requires c = omega (arith, room_le c.args.width c.args.work.now, c.requires.1, c.well_formed)

pub vector_update-requires-2 : goal.vector_update-requires-2
vector_update-requires-2 c = rw c.regions-mem.ensures (after (omega arith), omega (arith, c.requires.1, c.requires.0, kept_room c.vector_update.ensures.kept), omega (arith, c.requires.1, c.requires.0, kept_room c.vector_update.ensures.kept), c.requires.2)

pub vector_update-requires-3 : goal.vector_update-requires-3
vector_update-requires-3 c = rw c.regions-mem.ensures (after (omega arith), omega (arith, c.requires.1, c.requires.0, kept_room c.vector_update.ensures.kept, kept_room c.vector_update-2.ensures.kept), omega (arith, c.requires.1, c.requires.0, kept_room c.vector_update.ensures.kept, kept_room c.vector_update-2.ensures.kept), c.requires.2)

pub vector_update-requires-4 : goal.vector_update-requires-4
vector_update-requires-4 c = rw c.regions-mem.ensures (after (omega arith), omega (arith, c.requires.1, c.requires.0, kept_room c.vector_update.ensures.kept, kept_room c.vector_update-2.ensures.kept, kept_room c.vector_update-3.ensures.kept), omega (arith, c.requires.1, c.requires.0, kept_room c.vector_update.ensures.kept, kept_room c.vector_update-2.ensures.kept, kept_room c.vector_update-3.ensures.kept), c.requires.2)

pub returns : goal.returns
returns c =
    let m = c.regions-mem.ensures in
    advanced _ _ _ _ _ _ (on c.requires.2 c.step_length4-g.ensures) (on c.requires.2 c.pick4-h.ensures) (rw m at c.vector_update.ensures) (rw m at c.vector_update-2.ensures) (rw m at c.vector_update-3.ensures) (rw m at c.vector_update-4.ensures)
