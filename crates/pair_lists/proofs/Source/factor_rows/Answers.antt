-- `pair_lists::Source::factor_rows` meets its contract. Assumes nothing.
use Rattle.pattern.specs.Word.{bit}
use Rattle.pair_lists.proofs.Lists.{rows_grid}
use Rattle.pair_lists.proofs.Source.factor_rows.Goals as goal

pub invariant_of-result : goal.invariant_of-result
invariant_of-result c =
    let s = c.args.self.now in
    record { grid = rows_grid (bit s.factor.p.now) s.factor.lindptr.now s.factor.lindices.now s.m s.listing.rows }
