-- `file_calls::write_plan` meets its contract. Assumes nothing.
use mathlib.Core.Path.{sym, ap, ◌∙◌}
use Rattle.std.proofs.lemmas.Result.{err_from_is_err_and}
use Rattle.csr.specs.Verdict.{Verdict}
use Rattle.file_calls.specs.Calls.{words_after, bytes_after}
use Rattle.file_calls.proofs.Carried.{write_on, write_not}
use Rattle.file_calls.proofs.write_plan.Goals as goal

pub returns : goal.returns
returns c =
    let same = c.in_ok-matrix.ensures.matrix in
    let w = rw (same.0, same.1, same.2) at c.write_accepted.ensures in
    let v = write_on _ _ _ _ _ _ _ (sym c.in_ok-matrix.ensures.verdict) w.answer in
    record {
      answer = v;
      words = w.words ∙ ap (λ (x : Verdict). words_after c.args.m c.args.n c.args.rows.now.offsets.now c.args.rows.now.columns.now x c.args.index.now) v;
      bytes = w.bytes ∙ ap (λ (x : Verdict). bytes_after c.args.m c.args.n c.args.rows.now.offsets.now c.args.rows.now.columns.now x c.args.file.now) v;
    }

pub returns-in_err-matrix : goal.returns-in_err-matrix
returns-in_err-matrix c =
    let p = err_from_is_err_and c.from_residual.result c.from_residual.ensures.1 in
    let v = write_not _ _ _ _ _ _ _ _ _ c.in_err-matrix.ensures.verdict in
    record {
      answer = rw (p.1, p.2) v;
      words = ap (λ (x : Verdict). words_after c.args.m c.args.n c.args.rows.now.offsets.now c.args.rows.now.columns.now x c.args.index.now) v;
      bytes = ap (λ (x : Verdict). bytes_after c.args.m c.args.n c.args.rows.now.offsets.now c.args.rows.now.columns.now x c.args.file.now) v;
    }
