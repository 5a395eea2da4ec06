-- `pattern::count` meets its contract. Assumes nothing.
use Rattle.std.proofs.Common.{arith, rules, ◌∙◌}
use Rattle.std.proofs.lemmas.Iterator.{YieldsList-from_map, YieldsList-from_range}
use Rattle.std.proofs.lemmas.Iterator.Consumers.{sum_from_yields_List, fits_from_yields_list}
use Rattle.pattern.specs.Word.{row_ones}
use Rattle.pattern.proofs.Rows.{sum_range, rows_most}
use Rattle.pattern.proofs.count.Goals as goal

pub sum-requires-clause-fits : goal.sum-requires-clause-fits
sum-requires-clause-fits c =
    let m = c.args.m in
    let f = row_ones c.args.p.now in
    fits_from_yields_list c.map.result _ (YieldsList-from_map _ f (YieldsList-from_range 0 m m c.map.ensures.source (omega arith)) c.map.ensures.closure (λ x r q k. search rules))
    (omega (arith, sum_range m f, rows_most c.args.p.now m))

pub returns : goal.returns
returns c =
    let m = c.args.m in
    let f = row_ones c.args.p.now in
    sum_from_yields_List c.map.result c.sum.result c.sum.ensures.ran
    (YieldsList-from_map _ f (YieldsList-from_range 0 m m c.map.ensures.source (omega arith)) c.map.ensures.closure (λ x r q k. search rules))
    ∙ sum_range m f
