-- `file_lists::pairs::same_row` meets its contract. Assumes nothing.
use Prim.Native.Nat.{◌<◌, ◌+◌}
use mathlib.Core.Path.{refl, sym, ap, ◌∙◌}
use native.Mathlib.Omega.{arith}
use lib.ListN.{get_or}
use Rattle.pair_lists.proofs.Through as thru
use Rattle.pair_lists.proofs.Stored as st
use Rattle.file_numbers.specs.Agree.{numbers_of, agree}
use Rattle.file_numbers.proofs.Agrees.{few_numbers}
use Rattle.file_lists.proofs.Small.{piece_fits, front}
use Rattle.file_lists.proofs.Compared as turns
use Rattle.file_lists.proofs.pairs.same_row.Goals as goal

pub row_first-t-requires : goal.row_first-t-requires
row_first-t-requires c =
    let r = c.requires.0 in
    (omega (arith, r.at.inside, r.rows.offsets), (st.last_of _ _ _ _ r.at.ready _ _ r.rows c.args.i r.at.inside).some)

pub loop-t-init : goal.loop-t-init
loop-t-init c =
    let a = c.args in
    let r = c.requires.0 in
    let h = turns.met_from _ _ _ _ r.at.ready _ _ r.rows a.which a.i r.at.inside (numbers_of a.body.now) a.spot.at a.spot.n _ c.row_first-t.ensures.last c.row_first-t.ensures.first in
    record { low = h.0; high = h.1; met = h.2 }

pub bounds-factor-t : goal.bounds-factor-t
bounds-factor-t c =
    let r = c.requires.0 in
    thru.t_in _ _ _ _ r.rows c.args.i _ r.at.inside c.loop-t.invariant.low (omega arith)

pub weigh-requires : goal.weigh-requires
weigh-requires c =
    let r = c.requires.0 in
    (r.at, thru.entry_below _ _ _ _ r.rows c.args.i _ r.at.inside c.loop-t.invariant.low (omega arith))

pub overflow_add-spot : goal.overflow_add-spot
overflow_add-spot c =
    let r = c.requires.0 in
    let v = c.loop-t.invariant in
    omega (arith, turns.met_few _ _ _ _ r.at.ready _ _ r.rows _ _ r.at.inside c.loop-t.t _ v.low (omega arith) refl _ _ _ _ _ v.met (omega (arith, r.at.inside, r.rows.few)), v.met.turned.small, c.requires.1.few, r.at.inside, r.rows.few, c.weigh.ensures.1)

pub put_piece-words-requires : goal.put_piece-words-requires
put_piece-words-requires c =
    let a = c.args in
    let r = c.requires.0 in
    let v = c.loop-t.invariant in
    let up : c.loop-t.t < get_or a.source.now.factor.lindptr.now (a.i + 1) 0 = omega arith in (
      r,
      record {
        first = v.low;
        last = up;
        column = refl;
        count = turns.met_count _ _ _ _ r.at.ready _ _ r.rows _ _ r.at.inside c.loop-t.t _ v.low up refl _ _ _ _ _ v.met _ c.requires.1.count c.weigh.ensures.0;
      },
      omega (arith, piece_fits a.source.now.rows.offsets.now a.source.now.rows.columns.now a.i _ (thru.entry_below _ _ _ _ r.rows a.i _ r.at.inside v.low up) a.made.now c.requires.3 a.which),
    )

pub is_same-requires : goal.is_same-requires
is_same-requires c =
    let a = c.args in
    let r = c.requires.0 in
    let v = c.loop-t.invariant in
    let up : c.loop-t.t < get_or a.source.now.factor.lindptr.now (a.i + 1) 0 = omega arith in (
      omega (arith, c.put_piece-words.ensures.next, turns.met_room _ _ _ _ r.at.ready _ _ r.rows _ _ r.at.inside c.loop-t.t _ v.low up refl _ _ _ _ _ v.met c.requires.2),
      omega (arith, c.put_piece-words.ensures.next, c.put_piece-words.auto.index, piece_fits a.source.now.rows.offsets.now a.source.now.rows.columns.now a.i _ (thru.entry_below _ _ _ _ r.rows a.i _ r.at.inside v.low up) a.made.now c.requires.3 a.which),
    )

pub returns-then-not-is_same : goal.returns-then-not-is_same
returns-then-not-is_same c =
    let a = c.args in
    let r = c.requires.0 in
    let v = c.loop-t.invariant in
    let up : c.loop-t.t < get_or a.source.now.factor.lindptr.now (a.i + 1) 0 = omega arith in
    let fits = piece_fits a.source.now.rows.offsets.now a.source.now.rows.columns.now a.i _ (thru.entry_below _ _ _ _ r.rows a.i _ r.at.inside v.low up) a.made.now c.requires.3 a.which in
    turns.met_not _ _ _ _ r.at.ready _ _ r.rows _ _ r.at.inside c.loop-t.t _ v.low up refl _ _ _ _ _ v.met
    (sym (c.if-not-is_same.ensures ∙ ap (agree (numbers_of a.body.now) c.loop-t.spot.at) (front _ _ _ _ (omega (arith, fits)) c.put_piece-words.ensures)))

pub overflow_add-spot-in-loop-t : goal.overflow_add-spot-in-loop-t
overflow_add-spot-in-loop-t c =
    let r = c.requires.0 in
    let v = c.loop-t.invariant in
    omega (arith, few_numbers c.args.body.now, c.put_piece-words.ensures.next, turns.met_room _ _ _ _ r.at.ready _ _ r.rows _ _ r.at.inside c.loop-t.t _ v.low (omega arith) refl _ _ _ _ _ v.met c.requires.2)

pub loop-t-preserved : goal.loop-t-preserved
loop-t-preserved c =
    let a = c.args in
    let r = c.requires.0 in
    let v = c.loop-t.invariant in
    let up : c.loop-t.t < get_or a.source.now.factor.lindptr.now (a.i + 1) 0 = omega arith in
    let fits = piece_fits a.source.now.rows.offsets.now a.source.now.rows.columns.now a.i _ (thru.entry_below _ _ _ _ r.rows a.i _ r.at.inside v.low up) a.made.now c.requires.3 a.which in
    let next = c.put_piece-words.ensures.next in
    record {
      low = omega (arith, v.low);
      high = omega arith;
      met = turns.met_next _ _ _ _ r.at.ready _ _ r.rows _ _ r.at.inside c.loop-t.t _ v.low up refl _ _ _ _ _ v.met _ _ c.weigh.ensures.0 c.weigh.ensures.1 (omega (arith, next))
          (sym (c.if-not-is_same.ensures ∙ ap (agree (numbers_of a.body.now) c.loop-t.spot.at) (front _ _ _ _ (omega (arith, fits)) c.put_piece-words.ensures)));
    }

pub returns : goal.returns
returns c =
    let r = c.requires.0 in
    turns.met_end _ _ _ _ r.at.ready _ _ r.rows _ _ r.at.inside _ _ _ _ _ c.loop-t.t (omega arith) c.requires.1 c.loop-t.invariant.met
