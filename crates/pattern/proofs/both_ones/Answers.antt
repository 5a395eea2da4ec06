-- `pattern::both_ones` meets its contract. Assumes nothing.
use Rattle.std.proofs.Common.{arith, rules, ◌&&◌, refl}
use Rattle.std.proofs.lemmas.Iterator.{YieldsList-from_map, YieldsList-from_range}
use Rattle.std.proofs.lemmas.Iterator.Consumers.{sum_from_yields_List, fits_from_yields_list}
use Rattle.std.specs.Int.Count.{ones}
use Rattle.base.proofs.Sums.{count_le}
use Rattle.pattern.specs.Word.{bit, common_word}
use Rattle.pattern.proofs.Rows.{both_ones_law}
use Rattle.pattern.proofs.both_ones.Goals as goal

pub sum-requires-clause-fits : goal.sum-requires-clause-fits
sum-requires-clause-fits c =
    let p = c.args.p.now in
    let i = c.args.i in
    let j = c.args.j in
    fits_from_yields_list c.map.result _ (YieldsList-from_map _ (λ w. ones (common_word p i j w)) (YieldsList-from_range 0 4 4 c.map.ensures.source refl) c.map.ensures.closure (λ x r q k. search rules))
    (omega (arith, both_ones_law p i j c.fits-p, count_le 256 (λ k. bit p i k && bit p j k)))

pub returns : goal.returns
returns c =
    let p = c.args.p.now in
    let i = c.args.i in
    let j = c.args.j in
    let e = sum_from_yields_List c.map.result c.sum.result c.sum.ensures.ran (YieldsList-from_map _ (λ w. ones (common_word p i j w)) (YieldsList-from_range 0 4 4 c.map.ensures.source refl) c.map.ensures.closure (λ x r q k. search rules)) in
    let law = both_ones_law p i j c.fits-p in
    (cc, omega (arith, e, law, count_le 256 (λ k. bit p i k && bit p j k)))
