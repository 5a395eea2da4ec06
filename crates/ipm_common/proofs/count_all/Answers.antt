-- `ipm_common::count_all` meets its contract. Assumes nothing.
use mathlib.Core.Path.{◌∙◌}
use native.Mathlib.Omega.{arith}
use Rattle.pattern.proofs.Whole.{count_e_lem}
use Rattle.ipm_common.proofs.Counted.{factor_pairs, pairs_as}
use Rattle.ipm_common.proofs.count_all.Goals as goal

pub overflow_sub-result : goal.overflow_sub-result
overflow_sub-result c =
    let s = c.args.source.now in
    let e = count_e_lem s.rows.offsets.now s.rows.columns.now s.factor.p.now s.m s.listing.ready.csr.few s.listing.ready.rows in
    let d = factor_pairs s.rows.offsets.now s.rows.columns.now s.m s.factor.p.now s.factor.lindptr.now s.factor.lindices.now s.listing.ready s.listing.rows in
    omega (arith, c.count-e.ensures, e, c.count_rows-b.ensures.1, pairs_as c.factor_rows.ensures, d)

pub returns : goal.returns
returns c =
    let s = c.args.source.now in
    let e = count_e_lem s.rows.offsets.now s.rows.columns.now s.factor.p.now s.m s.listing.ready.csr.few s.listing.ready.rows in
    let d = factor_pairs s.rows.offsets.now s.rows.columns.now s.m s.factor.p.now s.factor.lindptr.now s.factor.lindices.now s.listing.ready s.listing.rows in
    record {
      counts = record {
        stored = c.count-e.ensures ∙ e;
        shared = c.count_rows-s.ensures.1 ∙ pairs_as c.matrix_rows.ensures;
        products = omega (arith, c.count-e.ensures, e, c.count_rows-b.ensures.1, pairs_as c.factor_rows.ensures, d);
      };
      few = c.count_rows-s.ensures.2;
    }
