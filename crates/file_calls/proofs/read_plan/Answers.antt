-- `file_calls::read_plan` meets its contract. Assumes nothing.
use mathlib.Core.Path.{sym, ap, ◌∙◌}
use Rattle.std.proofs.lemmas.Result.{err_from_is_err_and}
use Rattle.csr.specs.Verdict.{Verdict}
use Rattle.file_calls.specs.Calls.{words_after}
use Rattle.file_calls.proofs.Carried.{read_on, read_not}
use Rattle.file_calls.proofs.read_plan.Goals as goal

pub returns : goal.returns
returns c =
    let same = c.in_ok-asked.ensures.given in
    let w = rw (same.0, same.1, same.2) at c.read_accepted.ensures in
    let v = read_on _ _ _ _ _ _ _ (sym c.in_ok-asked.ensures.verdict) w.says in
    record {
      answer = v;
      words = w.words ∙ ap (λ (x : Verdict). words_after c.args.m c.args.n c.args.rows.now.offsets.now c.args.rows.now.columns.now x c.args.index.now) v;
    }

pub returns-in_err-asked : goal.returns-in_err-asked
returns-in_err-asked c =
    let p = err_from_is_err_and c.from_residual.result c.from_residual.ensures.1 in
    let v = read_not _ _ _ _ _ _ _ _ _ c.in_err-asked.ensures.verdict in
    record {
      answer = rw (p.1, p.2) v;
      words = ap (λ (x : Verdict). words_after c.args.m c.args.n c.args.rows.now.offsets.now c.args.rows.now.columns.now x c.args.index.now) v;
    }
