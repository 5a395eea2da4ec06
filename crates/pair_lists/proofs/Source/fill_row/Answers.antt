-- `pair_lists::Source::fill_row` meets its contract. Assumes nothing.
use Prim.Native.Nat.{◌≤◌}
use native.Mathlib.Omega.{arith}
use lib.ListN.{get_or}
use Rattle.pair_lists.proofs.Turns as turns
use Rattle.pair_lists.proofs.Source.fill_row.Goals as goal

pub row_first-t-requires : goal.row_first-t-requires
row_first-t-requires c = (omega (arith, c.requires.0.at.inside, c.requires.0.rows.offsets), turns.row_some c.requires.0)

pub loop-t-init : goal.loop-t-init
loop-t-init c = (turns.row_begins c.requires.0 c.row_first-t.ensures.last c.row_first-t.ensures.first c.args.index.now c.args.start c.args.count).2

pub bounds-lindices-t : goal.bounds-lindices-t
bounds-lindices-t c =
    let s = turns.row_span c.requires.0 c.row_first-t.ensures.last c.row_first-t.ensures.first in
    turns.pair_in c.requires.0 (omega (arith, s.0)) (omega arith)

pub weigh-n-requires : goal.weigh-n-requires
weigh-n-requires c =
    let s = turns.row_span c.requires.0 c.row_first-t.ensures.last c.row_first-t.ensures.first in
    (c.requires.0.at, turns.pair_left c.requires.0 (omega (arith, s.0)) (omega arith))

pub overflow_add-n : goal.overflow_add-n
overflow_add-n c =
    let s = turns.row_span c.requires.0 c.row_first-t.ensures.last c.row_first-t.ensures.first in
    let few = turns.pair_few c.requires.0 (omega (arith, s.0)) (omega arith) c.loop-t.invariant in
    omega (arith, few, c.loop-t.invariant.small, c.requires.1.few, c.requires.0.at.inside, c.requires.0.rows.few, c.weigh-n.ensures.1)

pub put_piece-at-requires : goal.put_piece-at-requires
put_piece-at-requires c =
    let s = turns.row_span c.requires.0 c.row_first-t.ensures.last c.row_first-t.ensures.first in
    let lo : get_or c.args.self.now.factor.lindptr.now c.args.i 0 ≤ c.loop-t.t = omega (arith, s.0) in
    (c.requires.0, turns.pair_at c.requires.0 lo (omega arith) c.loop-t.invariant c.requires.1 c.weigh-n.ensures.0, turns.pair_room c.requires.0 lo (omega arith) c.loop-t.invariant (omega (arith, c.requires.2)))

pub loop-t-preserved : goal.loop-t-preserved
loop-t-preserved c =
    let s = turns.row_span c.requires.0 c.row_first-t.ensures.last c.row_first-t.ensures.first in
    turns.pair_next c.requires.0 (omega (arith, s.0)) (omega arith) c.loop-t.invariant c.weigh-n.ensures c.put_piece-at.ensures

pub returns : goal.returns
returns c =
    let s = turns.row_span c.requires.0 c.row_first-t.ensures.last c.row_first-t.ensures.first in
    turns.row_over c.requires.0 c.loop-t.t (omega (arith, s.1)) c.requires.1 c.loop-t.invariant
