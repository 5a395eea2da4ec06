-- `ipm_common::put_plan` meets its contract. Assumes nothing.
use mathlib.Core.Path.{ap}
use native.Mathlib.Omega.{arith}
use lib.ListN.{length}
use Rattle.base.proofs.Write.{same_text}
use Rattle.ipm_common.proofs.Final as fin
use Rattle.ipm_common.proofs.put_plan.Goals as goal

pub put_ten-a-requires : goal.put_ten-a-requires
put_ten-a-requires c =
    let s = c.args.source.now in
    (omega (arith, c.requires.0, fin.plan_long s.rows.offsets.now s.rows.columns.now s.m s.n s.factor.p.now s.factor.lindptr.now s.factor.lindices.now s.listing.ready s.listing.rows), c.requires.1)

pub transpose-b-requires : goal.transpose-b-requires
transpose-b-requires c =
    let s = c.args.source.now in
    let z = fin.plan_long s.rows.offsets.now s.rows.columns.now s.m s.n s.factor.p.now s.factor.lindptr.now s.factor.lindices.now s.listing.ready s.listing.rows in (
      omega (arith, c.requires.0, z, ap length (fin.side_as c.factor_rows.ensures), c.put_ten-a.auto.index, c.put_ten-a.ensures.next),
      omega (arith, c.requires.2.rows, c.factor_rows.ensures.1),
      omega (arith, c.requires.3.rows, c.factor_rows.ensures.1),
    )

pub transpose-requires : goal.transpose-requires
transpose-requires c =
    let s = c.args.source.now in
    let z = fin.plan_long s.rows.offsets.now s.rows.columns.now s.m s.n s.factor.p.now s.factor.lindptr.now s.factor.lindices.now s.listing.ready s.listing.rows in (
      omega (arith, c.requires.0, z, ap length (fin.side_as c.factor_rows.ensures), ap length (fin.side_as c.matrix_rows.ensures), c.put_ten-a.auto.index, c.put_ten-a.ensures.next, c.transpose-b.auto.index, c.transpose-b.ensures.next),
      omega (arith, c.requires.2.columns, c.matrix_rows.ensures.1, c.transpose-b.auto.next),
      omega (arith, c.requires.3.columns, c.matrix_rows.ensures.1, c.transpose-b.auto.again),
    )

pub returns : goal.returns
returns c =
    let s = c.args.source.now in
    fin.plan_wrote s.rows.offsets.now s.rows.columns.now s.m s.n s.factor.p.now s.factor.lindptr.now s.factor.lindices.now s.listing.ready s.listing.rows c.args.index.now c.put_ten-a.new.index c.transpose-b.new.index c.transpose.new.index c.put_ten-a.result c.transpose-b.result c.transpose.result c.put_ten-a.ensures (same_text (fin.side_as c.factor_rows.ensures) c.transpose-b.ensures) (same_text (fin.side_as c.matrix_rows.ensures) c.transpose.ensures)
