-- `file_lists::Expected::is_column_list` meets its contract. Assumes nothing.
use mathlib.Core.Path.{sym, ap, ◌∙◌}
use lib.ListN.{length}
use Rattle.plan_file.specs.Verdicts.{same}
use Rattle.file_numbers.specs.Agree.{numbers_of}
use Rattle.file_lists.proofs.Numbered.{Sided, factor_sided, matrix_sided}
use Rattle.file_lists.proofs.Expected.is_column_list.Goals as goal
use Rattle.file_lists.proofs.Expected.is_column_list.Goals.{in-Factor, in-Matrix}

pub is_side_list-requires : goal.is_side_list-requires
is_side_list-requires c =
    let a = c.args in
    let x = a.self.now in
    let h : Sided x.source.rows.offsets.now x.source.rows.columns.now x.plan.m x.plan.n a.side a.part c.match-side.rows = elim c.match-side.branch [
      | in-Factor w ↦ let e = w.factor_rows-rows.ensures in factor_sided x.known a.part _ _ w.rows-is _ w.in-Factor.is (e.0 ∙ x.same_m) (e.1 ∙ x.same_m) e.2 e.3
      | in-Matrix w ↦ let e = w.matrix_rows-rows.ensures in matrix_sided x.known a.part _ _ w.rows-is _ w.in-Matrix.is (e.0 ∙ x.same_m) (e.1 ∙ x.same_n) e.2 e.3
    ] in
    (h.fits _ c.requires.1, h.fits _ c.requires.2, h.fits _ c.requires.3, c.requires.0 ∙ sym (ap length h.list))

pub returns : goal.returns
returns c =
    let a = c.args in
    let x = a.self.now in
    let h : Sided x.source.rows.offsets.now x.source.rows.columns.now x.plan.m x.plan.n a.side a.part c.match-side.rows = elim c.match-side.branch [
      | in-Factor w ↦ let e = w.factor_rows-rows.ensures in factor_sided x.known a.part _ _ w.rows-is _ w.in-Factor.is (e.0 ∙ x.same_m) (e.1 ∙ x.same_m) e.2 e.3
      | in-Matrix w ↦ let e = w.matrix_rows-rows.ensures in matrix_sided x.known a.part _ _ w.rows-is _ w.in-Matrix.is (e.0 ∙ x.same_m) (e.1 ∙ x.same_n) e.2 e.3
    ] in
    c.is_side_list.ensures ∙ ap (same (numbers_of a.body.now)) h.list
