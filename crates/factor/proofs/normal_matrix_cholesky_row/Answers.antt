use Rattle.std.proofs.Common.{◌≡◌, ap, ℕ, List, ◌+◌, ◌-◌, ◌<◌, get_or, arith}
use Rattle.lanes.proofs.Regions.{room_put, kept_room}
use Rattle.lanes.proofs.Quads.{on}
use Rattle.layout.specs.Lists.{lindptr_in}
use Rattle.plan_laws.specs.Factoring.{Given, Stands}
use Rattle.plan_laws.proofs.Entry.{normal_needs, product_needs, finish_needs}
use Rattle.plan_laws.proofs.Fill.{lindices_next, put_room}
use Rattle.factor.specs.Row.{RowDue}
use Rattle.factor.proofs.Along.{word_as, along_given, along_stands, value_below, off_diagonal, row_some, stands_last, along_none, along_more, row_kept, row_filled, row_entry}
use Rattle.factor.proofs.normal_matrix_cholesky_row.Goals.{After-splat-start}
use Rattle.factor.proofs.normal_matrix_cholesky_row.Goals as goal

-- in the loop: all that is given, in the memory as it is then; entry e is in its column
given : (c : After-splat-start) {off cols : List ℕ} → RowDue c.args.width off cols c.args.values.now c.args.lists.now.plan c.args.lists.now.index.now c.args.work.now c.args.i → Given c.args.width off cols c.args.values.now c.args.lists.now.plan c.args.lists.now.index.now c.loop-e.work
given c D = along_given D.given D.row (c.loop-e.invariant _ _ D)

stands : (c : After-splat-start) {off cols : List ℕ} → RowDue c.args.width off cols c.args.values.now c.args.lists.now.plan c.args.lists.now.index.now c.args.work.now c.args.i → Stands off cols c.args.lists.now.plan.m c.args.i (get_or c.args.lists.now.lindices.now c.loop-e.e 0) c.loop-e.e
stands c D =
    let is = c.args.lists.now.listed in
    along_stands D.given D.row (c.loop-e.invariant _ _ D) c.loop-e-test.true (word_as (c.args.i + 1) is.lindptr_is) (word_as c.loop-e.e is.lindices_is)

pub overflow_sub-g : goal.overflow_sub-g
overflow_sub-g c = omega (arith, (row_some c.requires.is.given c.requires.is.row).0, word_as (c.args.i + 1) c.args.lists.now.listed.lindptr_is)

pub normal_sum-diag-requires : goal.normal_sum-diag-requires
normal_sum-diag-requires c =
    let D = c.requires.is in
    rw (c.regions-mem.ensures, c.args.lists.now.listed.lindptr_is) (normal_needs D.given (stands_last D.given D.row))

pub loop-e-init : goal.loop-e-init
loop-e-init c =
    λ off cols D.
    along_none D.given D.row c.normal_sum-diag.result c.get-side.result (word_as c.args.i c.args.lists.now.listed.lindptr_is) D.filled

pub bounds-columns-e : goal.bounds-columns-e
bounds-columns-e c =
    let D = c.requires.is in
    let is = c.args.lists.now.listed in
    rw is.lindices_is (lindices_next D.given D.row (c.loop-e.invariant _ _ D).from (omega (arith, c.loop-e-test.true, word_as (c.args.i + 1) is.lindptr_is)))

pub normal_sum-sum-requires : goal.normal_sum-sum-requires
normal_sum-sum-requires c =
    let p = (goal.at.normal_sum-sum-requires c).After-splat-start in
    rw c.regions-mem.ensures (normal_needs (given p c.requires.is) (stands p c.requires.is))

pub less_products-reduced-requires : goal.less_products-reduced-requires
less_products-reduced-requires c =
    let p = (goal.at.less_products-reduced-requires c).After-splat-start in
    rw c.regions-mem.ensures (product_needs (given p c.requires.is) (stands p c.requires.is))

pub over_diagonal-v-requires : goal.over_diagonal-v-requires
over_diagonal-v-requires c =
    let p = (goal.at.over_diagonal-v-requires c).After-splat-start in
    rw c.regions-mem.ensures (finish_needs (given p c.requires.is) (stands p c.requires.is))

pub put-requires : goal.put-requires
put-requires c =
    let p = (goal.at.put-requires c).After-splat-start in
    rw c.regions-mem.ensures (c.requires.is.given.wide, put_room (given p c.requires.is) (stands p c.requires.is))

pub get-u-requires : goal.get-u-requires
get-u-requires c =
    let p = (goal.at.get-u-requires c).After-splat-start in
    let st = stands p c.requires.is in
    rw c.regions-mem.ensures (c.requires.is.given.wide, omega (arith, st.row, st.low, (given p c.requires.is).fits, room_put c.args.width c.loop-e.work _ c.over_diagonal-v.result (rw c.regions-mem.ensures at c.put.ensures)))

pub loop-e-preserved : goal.loop-e-preserved
loop-e-preserved c =
    λ off cols D.
    let p = (goal.at.loop-e-preserved c).After-splat-start in
    let is = c.args.lists.now.listed in
    let R = c.loop-e.invariant off cols D in
    let W = D.given.wide in
    let m = c.regions-mem.ensures in
    let below : c.loop-e.e < get_or (lindptr_in c.args.lists.now.plan c.args.lists.now.index.now) (c.args.i + 1) 0 - 1 = omega (arith, c.loop-e-test.true, word_as (c.args.i + 1) is.lindptr_is) in
    let column = word_as c.loop-e.e is.lindices_is in
    let v = value_below (given p D) (stands p D) (off_diagonal D.given D.row R.from below column) c.normal_sum-sum.result c.less_products-reduced.result (on W c.splat-start.ensures) (rw m at c.normal_sum-sum.ensures) (rw m at c.less_products-reduced.ensures) (rw m at c.over_diagonal-v.ensures) in
    along_more D.given D.row R below column v (rw m at c.put.ensures) (rw m at c.get-u.ensures) (on W c.less_in-p.ensures) (on W c.less_in-q.ensures)

pub put-requires-2 : goal.put-requires-2
put-requires-2 c =
    let D = c.requires.is in
    rw (c.regions-mem.ensures, c.args.lists.now.listed.lindptr_is) (D.given.wide, omega (arith, put_room D.given (stands_last D.given D.row), kept_room (c.loop-e.invariant _ _ D).kept))

pub returns : goal.returns
returns c =
    λ off cols D.
    let R = c.loop-e.invariant off cols D in
    let m = c.regions-mem.ensures in
    let end = word_as (c.args.i + 1) c.args.lists.now.listed.lindptr_is in
    let last = ap (λ (k : ℕ). k - 1) end in
    let z : c.loop-e.e ≡ get_or c.args.lists.now.lindptr.now (c.args.i + 1) 0 - 1 = omega (arith, R.to, end) in
    let first = rw m at c.start_of-first.ensures in
    let diagonal = rw m at c.normal_sum-diag.ensures in
    let root = on D.given.wide c.root_of-root.ensures in
    let put = rw m at c.put-2.ensures in record {
      kept = row_kept D.given D.row R z last first diagonal root put;
      filled = row_filled D.given D.row R z last first diagonal root put;
      entry = row_entry D.given D.row R z last first diagonal root put (rw m at c.get-side.ensures) c.div4.ensures;
    }
