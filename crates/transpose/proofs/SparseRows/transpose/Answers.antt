-- `transpose::SparseRows::transpose` meets its contract. Assumes nothing.
use mathlib.Core.Path.{refl, ◌∙◌}
use native.Mathlib.Omega.{arith}
use lib.ListN.{length}
use Rattle.base.proofs.Front.{cleared_at}
use Rattle.transpose.proofs.Count as law
use Rattle.transpose.proofs.SparseRows.transpose.Goals as goal

pub count_rows-requires : goal.count_rows-requires
count_rows-requires c = record { n = c.args.self.now.n; grid = c.args.self.now.grid; long = omega (arith, c.requires.1); clear = cleared_at _ _ _ _ _ c.fill_front.ensures }

pub put_ends-a-requires : goal.put_ends-a-requires
put_ends-a-requires c =
    let s = c.args.self.now in
    let few = law.tally_few _ _ _ _ s.grid _ (law.tallied _ _ s.m s.n _ _ _ c.fill_front.ensures c.count_rows.ensures.0) in
    let fit = law.ends_fit _ _ s.m s.n c.args.start (length c.args.index.now) c.requires.0 in
    (omega (arith, c.requires.1), c.requires.2, s.grid.wide, few, fit)

pub scatter-requires : goal.scatter-requires
scatter-requires c =
    let s = c.args.self.now in
    let y = law.tallied _ _ s.m s.n _ _ _ c.fill_front.ensures c.count_rows.ensures.0 in
    law.row_bins _ _ _ _ s.grid _ y _ _ _ _ c.requires.0 c.put_ends-a.ensures.ends _ c.put_ends-a.auto.index (omega (arith, c.requires.1)) c.put_ends-a.ensures.starts.0

pub overflow_add-a : goal.overflow_add-a
overflow_add-a c =
    let s = c.args.self.now in
    let y = law.tallied _ _ s.m s.n _ _ _ c.fill_front.ensures c.count_rows.ensures.0 in
    omega (arith, law.places_fit _ _ _ _ s.grid _ y _ _ _ _ c.requires.0 c.put_ends-a.ensures.ends _ c.put_ends-a.ensures.starts.1 _ refl)

pub scatter-requires-2 : goal.scatter-requires-2
scatter-requires-2 c =
    let s = c.args.self.now in
    let y = law.tallied _ _ s.m s.n _ _ _ c.fill_front.ensures c.count_rows.ensures.0 in
    law.place_bins _ _ _ _ s.grid _ y _ _ _ _ c.requires.0 c.put_ends-a.ensures.ends _ c.put_ends-a.ensures.starts.1 _ refl _ (c.scatter.auto.index ∙ c.put_ends-a.auto.index) (omega (arith, c.requires.2))

pub overflow_add-result : goal.overflow_add-result
overflow_add-result c =
    let s = c.args.self.now in
    let y = law.tallied _ _ s.m s.n _ _ _ c.fill_front.ensures c.count_rows.ensures.0 in
    omega (arith, law.places_fit _ _ _ _ s.grid _ y _ _ _ _ c.requires.0 c.put_ends-a.ensures.ends _ c.put_ends-a.ensures.starts.1 _ refl)

pub overflow_add-result-2 : goal.overflow_add-result-2
overflow_add-result-2 c =
    let s = c.args.self.now in
    let y = law.tallied _ _ s.m s.n _ _ _ c.fill_front.ensures c.count_rows.ensures.0 in
    omega (arith, law.places_fit _ _ _ _ s.grid _ y _ _ _ _ c.requires.0 c.put_ends-a.ensures.ends _ c.put_ends-a.ensures.starts.1 _ refl)

pub returns : goal.returns
returns c =
    let s = c.args.self.now in
    let y = law.tallied _ _ s.m s.n _ _ _ c.fill_front.ensures c.count_rows.ensures.0 in
    law.transposed _ _ _ _ s.grid _ y _ _ _ _ c.requires.0 c.put_ends-a.ensures.ends _ c.put_ends-a.ensures.starts.1 _ refl _ _ c.scatter.ensures c.scatter-2.ensures
