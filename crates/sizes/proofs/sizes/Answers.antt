-- `sizes::sizes` meets its contract. Assumes nothing.
use mathlib.Core.Path.{ap, ◌∙◌}
use Rattle.std.proofs.lemmas.Result.{err_from_is_err_and}
use Rattle.csr.specs.Verdict.{Verdict, and_then}
use Rattle.sizes.specs.Sizes.{slack_verdict, sizes_verdict}
use Rattle.sizes.proofs.sizes.Goals as goal

pub returns-in_err-matrix : goal.returns-in_err-matrix
unfolding sizes_verdict
returns-in_err-matrix c =
    let a = c.args in
    let p = err_from_is_err_and c.from_residual.result c.from_residual.ensures.1 in
    rw (p.1, p.2) (ap (λ (v : Verdict). and_then v (slack_verdict a.m a.n a.s a.rows.now.offsets.now a.rows.now.columns.now)) c.in_err-matrix.ensures.verdict)

pub returns : goal.returns
unfolding sizes_verdict
returns c =
    let a = c.args in
    let M = c.in_ok-matrix.ensures.matrix in
    rw (M.0, M.1, M.2) at c.sizes_accepted.ensures ∙ ap (λ (v : Verdict). and_then v (slack_verdict a.m a.n a.s a.rows.now.offsets.now a.rows.now.columns.now)) c.in_ok-matrix.ensures.verdict
