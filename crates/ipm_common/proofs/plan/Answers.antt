-- `ipm_common::plan` meets its contract: after five yeses question 6, else the first no. Assumes nothing.
use mathlib.Core.Path.{ap, ◌∙◌}
use mathlib.Core.List.{◌++◌}
use lib.ListN.{length, drop}
use Rattle.std.proofs.lemmas.Result.{err_from_is_err_and}
use Rattle.csr.specs.Verdict.{Verdict, and_then}
use Rattle.csr.specs.Counts.{size_w}
use Rattle.lists.specs.Lists.{plan_words}
use Rattle.ipm_common.specs.Plan.{room_verdict, plan_verdict, plan_index, left}
use Rattle.ipm_common.proofs.plan.Goals as goal

pub returns-in_err-matrix-clause-answer : goal.returns-in_err-matrix-clause-answer
unfolding plan_verdict
returns-in_err-matrix-clause-answer c =
    let r = c.args.rows.now in
    let p = err_from_is_err_and c.from_residual.result c.from_residual.ensures.1 in
    rw (p.1, p.2) (ap (λ (v : Verdict). and_then v (room_verdict c.args.m c.args.n r.offsets.now r.columns.now (length c.args.index.now))) c.in_err-matrix.ensures.verdict)

pub returns-in_err-matrix-clause-words : goal.returns-in_err-matrix-clause-words
unfolding plan_verdict plan_index
returns-in_err-matrix-clause-words c =
    let r = c.args.rows.now in
    let room = room_verdict c.args.m c.args.n r.offsets.now r.columns.now (length c.args.index.now) in
    let new = plan_words r.offsets.now r.columns.now c.args.m c.args.n ++ drop (size_w r.offsets.now r.columns.now c.args.m c.args.n) c.args.index.now in
    ap (λ (v : Verdict). left (and_then v room) new c.args.index.now) c.in_err-matrix.ensures.verdict

pub returns-clause-answer : goal.returns-clause-answer
unfolding plan_verdict
returns-clause-answer c =
    let r = c.args.rows.now in
    let e = c.in_ok-matrix.ensures.matrix in
    let a = rw (e.0, e.1, e.2) at c.plan_accepted.ensures in
    a.says ∙ ap (λ (v : Verdict). and_then v (room_verdict c.args.m c.args.n r.offsets.now r.columns.now (length c.args.index.now))) c.in_ok-matrix.ensures.verdict

pub returns-clause-words : goal.returns-clause-words
unfolding plan_verdict plan_index
returns-clause-words c =
    let r = c.args.rows.now in
    let e = c.in_ok-matrix.ensures.matrix in
    let a = rw (e.0, e.1, e.2) at c.plan_accepted.ensures in
    let room = room_verdict c.args.m c.args.n r.offsets.now r.columns.now (length c.args.index.now) in
    let new = plan_words r.offsets.now r.columns.now c.args.m c.args.n ++ drop (size_w r.offsets.now r.columns.now c.args.m c.args.n) c.args.index.now in
    a.words ∙ ap (λ (v : Verdict). left v new c.args.index.now) (a.says ∙ ap (λ (v : Verdict). and_then v room) c.in_ok-matrix.ensures.verdict)
