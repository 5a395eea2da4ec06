-- `eliminate::back_entry` meets its contract. Assumes nothing.
use mathlib.Core.Path.{sym}
use native.Mathlib.Omega.{arith}
use Rattle.lanes.proofs.Regions.{room_le}
use Rattle.layout.specs.Layout.{dy_at, l_in}
use Rattle.layout.specs.Lists.{lindptr_in, ltindptr_in, ltindices_in, ltmap_in}
use Rattle.eliminate.proofs.Turns.{column_reads, back_value}
use Rattle.sparse.proofs.Spans.{fits_in}
use Rattle.eliminate.proofs.back_entry.Goals as goal

pub regions-mem-requires : goal.regions-mem-requires
regions-mem-requires c = omega (arith, room_le c.args.width c.args.work.now, c.requires.0.fits, c.well_formed.0)

pub less_back-v-requires : goal.less_back-v-requires
less_back-v-requires c =
    let p = c.args.lists.now.plan in
    let is = c.args.lists.now.listed in
    let reads = column_reads c.requires.0 c.requires.1 in
    let R = rw (sym is.ltindptr_is, sym is.ltindices_is, sym is.ltmap_is) at reads in
    rw c.regions-mem.ensures (R.sizes, fits_in (dy_at p.n p.m) _ R.rows (omega (arith, c.requires.0.fits)), fits_in (l_in p) _ R.places c.requires.0.fits, c.requires.0.wide)

pub overflow_add-mem-2 : goal.overflow_add-mem-2
overflow_add-mem-2 c = rw (c.regions-mem.ensures, c.args.lists.now.listed.lindptr_is) (omega (arith, room_le c.args.width c.args.work.now, (c.requires.0.ends c.args.i c.requires.1).1, c.requires.0.fits, c.well_formed.0))

pub returns : goal.returns
returns c =
    let p = c.args.lists.now.plan in
    let x = c.args.lists.now.index.now in
    let is = c.args.lists.now.listed in
    let m = c.regions-mem.ensures in
    back_value c.args.width c.requires.0.wide (lindptr_in p x) (ltindptr_in p x) (ltindices_in p x) (ltmap_in p x) c.args.work.now (dy_at p.n p.m) (l_in p) p.m p.stored c.args.i c.requires.1
    (omega (arith, (c.requires.0.ends c.args.i c.requires.1).0, (c.requires.0.ends c.args.i c.requires.1).1)) (column_reads c.requires.0 c.requires.1)
    (rw m at c.get-b.ensures)
    (rw (m, is.ltindptr_is, is.ltindices_is, is.ltmap_is) at c.less_back-v.ensures)
    (rw (m, is.lindptr_is) at c.get-p.ensures) c.div4.ensures
