use Rattle.lanes.proofs.Regions.{room_le, kept_room}
use native.Mathlib.Omega.{arith}
use Rattle.step.proofs.Statuses.{starts, fresh}
use Rattle.step.proofs.normal_eqn_init.Goals as goal

pub regions-mem-requires : goal.regions-mem-requires
regions-mem-requires c = omega (arith, room_le c.args.width c.args.work.now, c.requires.0, c.well_formed)

pub vector_set-requires-2 : goal.vector_set-requires-2
vector_set-requires-2 c = rw c.regions-mem.ensures (omega (arith, c.requires.0, kept_room c.vector_set.ensures.kept), c.requires.1)

pub vector_set-requires-3 : goal.vector_set-requires-3
vector_set-requires-3 c = rw c.regions-mem.ensures (omega (arith, c.requires.0, kept_room c.vector_set.ensures.kept, kept_room c.vector_set-2.ensures.kept), c.requires.1)

pub vector_set-requires-4 : goal.vector_set-requires-4
vector_set-requires-4 c = rw c.regions-mem.ensures (omega (arith, c.requires.0, kept_room c.vector_set.ensures.kept, kept_room c.vector_set-2.ensures.kept, kept_room c.vector_set-3.ensures.kept), c.requires.1)

pub returns : goal.returns
returns c =
    let m = c.regions-mem.ensures in
    let v = c.new-start.ensures in
    fresh _ _ _ _
    (starts c.requires.1 c.splat.ensures v.0)
    (starts c.requires.1 c.splat-2.ensures v.1)
    (starts c.requires.1 c.splat-3.ensures v.2)
    (starts c.requires.1 c.splat-4.ensures v.3)
    (rw m at c.vector_set.ensures)
    (rw m at c.vector_set-2.ensures)
    (rw m at c.vector_set-3.ensures)
    (rw m at c.vector_set-4.ensures)
