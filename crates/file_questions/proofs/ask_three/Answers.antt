-- `file_questions::ask_three` meets its contract. Assumes nothing.
use mathlib.Core.Path.{sym, ap, ◌∙◌}
use mathlib.Core.Bool.{true, false}
use Rattle.std.proofs.lemmas.Result.{err_from_is_err_and}
use Rattle.std.specs.Option.{ok_or}
use Rattle.std.specs.Prelude.{Option}
use Rattle.csr.specs.Verdict.{told_asked}
use Rattle.csr.specs.declared.Refusal.{Refusal}
use Rattle.plan_file.specs.Matrix.{matrix_lists}
use Rattle.plan_file.specs.Tables.{wide}
use Rattle.plan_file.specs.Verdicts.{ordered_file, matrixs_file}
use Rattle.file_walk.specs.declared.walk.WholeFile.{WholeFile}
use Rattle.file_questions.proofs.Three.{cut_short, is_whole, says_14, says_15, says_16}
use Rattle.file_questions.proofs.ask_three.Goals as goal

pub returns-in_err-whole-clause-verdict : goal.returns-in_err-whole-clause-verdict
returns-in_err-whole-clause-verdict c =
    let p = err_from_is_err_and c.from_residual.result c.from_residual.ensures.1 in
    let e = c.in_err-whole.ensures in
    rw (p.1, p.2) (ap told_asked e.value ∙ ap (λ (o : Option WholeFile). told_asked (ok_or o Refusal.CutShort)) e.ok_part ∙ says_14 wide _ c.args.file.now (cut_short c.args.file.now _ c.whole.ensures e.ok_part))

pub returns-then-not-is_ordered-clause-verdict : goal.returns-then-not-is_ordered-clause-verdict
returns-then-not-is_ordered-clause-verdict c =
    let w = is_whole c.args.file.now _ c.whole.ensures _ c.in_ok-whole.ensures.ok_part in
    says_15 wide _ c.args.file.now w.0 (ap (ordered_file wide 1) (sym w.1) ∙ sym c.if-not-is_ordered.ensures)

pub returns-then-not-is_plan-clause-verdict : goal.returns-then-not-is_plan-clause-verdict
returns-then-not-is_plan-clause-verdict c =
    let x = c.args.matrix.now in
    let w = is_whole c.args.file.now _ c.whole.ensures _ c.in_ok-whole.ensures.ok_part in
    says_16 wide _ c.args.file.now w.0 (ap (ordered_file wide 1) (sym w.1) ∙ sym c.if-not-is_ordered.ensures) false
    (ap (matrixs_file wide (matrix_lists x.rows.offsets.now x.rows.columns.now x.m x.n)) (sym w.1) ∙ sym c.if-not-is_plan.ensures)

pub returns-clause-verdict : goal.returns-clause-verdict
returns-clause-verdict c =
    let x = c.args.matrix.now in
    let w = is_whole c.args.file.now _ c.whole.ensures _ c.in_ok-whole.ensures.ok_part in
    says_16 wide _ c.args.file.now w.0 (ap (ordered_file wide 1) (sym w.1) ∙ sym c.if-not-is_ordered.ensures) true
    (ap (matrixs_file wide (matrix_lists x.rows.offsets.now x.rows.columns.now x.m x.n)) (sym w.1) ∙ sym c.if-not-is_plan.ensures)
