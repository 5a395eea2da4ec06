use mathlib.Core.Path.{refl}
use Rattle.std.proofs.lemmas.Result.{err_from_is_err_and}
use Rattle.lists.proofs.Few.{few_stored}
use Rattle.counts.proofs.Plans.{words_fit}
use Rattle.ipm_common.proofs.Final.{answered_yes, answered_no}
use Rattle.ipm_simd.specs.Solve.{given_of, lent}
use Rattle.ipm_simd.proofs.Solves.{asked_is, asked_all, asked_on, planned_on, refused_here, go_on}
use Rattle.ipm_simd.proofs.solve_accepted.Goals as goal

-- a no leaves the lent lists as they were
pub returns-in_err-ask_lengths : goal.returns-in_err-ask_lengths
returns-in_err-ask_lengths c =
    let r = c.requires in
    let p = err_from_is_err_and c.from_residual.result c.from_residual.ensures.1 in
    rw (p.1, p.2) (refused_here _ _ _ (asked_is _ _ (rw (r.0, r.1, r.2) at c.plan_sizes-plan.ensures) c.words.ensures c.in_err-ask_lengths.ensures))

pub words-requires : goal.words-requires
words-requires c =
    let M = c.args.matrix.now in
    rw c.plan_sizes-plan.ensures (words_fit M.rows.offsets.now M.rows.columns.now M.m M.n c.args.problem.now.s M.accepted)

pub ask_lengths-requires : goal.ask_lengths-requires
ask_lengths-requires c =
    let k = c.args.matrix.now.accepted in
    rw c.plan_sizes-plan.ensures (k.csr.few, k.wide, few_stored _ _ _ k.csr)

pub returns-in_err-plan_accepted : goal.returns-in_err-plan_accepted
returns-in_err-plan_accepted c =
    let r = c.requires in
    let a = given_of c.args.problem.now c.args.controls in
    let B = lent c.args.output.now c.args.prices.now c.args.index.now c.args.work.now in
    let v = asked_is a B (rw (r.0, r.1, r.2) at c.plan_sizes-plan.ensures) c.words.ensures c.in_ok-ask_lengths.ensures in
    let q = asked_all a B (rw (r.0, r.1, r.2) at c.args.matrix.now.accepted) r.3 v in
    absurd (answered_no (rw (r.0, r.1, r.2) at c.in_err-plan_accepted.ensures) q.index)

pub solve_planned-requires : goal.solve_planned-requires
solve_planned-requires c =
    let r = c.requires in
    let a = given_of c.args.problem.now c.args.controls in
    let B = lent c.args.output.now c.args.prices.now c.args.index.now c.args.work.now in
    let e = rw (r.0, r.1, r.2) at c.plan_sizes-plan.ensures in
    let v = asked_is a B e c.words.ensures c.in_ok-ask_lengths.ensures in
    let q = asked_all a B (rw (r.0, r.1, r.2) at c.args.matrix.now.accepted) r.3 v in
    let y = answered_yes (rw (r.0, r.1, r.2) at c.in_ok-plan_accepted.ensures) q.index in
    rw e (planned_on a q y, refl, refl, refl, asked_on a q c.plan_accepted.auto.index)

pub returns : goal.returns
returns c =
    let r = c.requires in
    let a = given_of c.args.problem.now c.args.controls in
    let B = lent c.args.output.now c.args.prices.now c.args.index.now c.args.work.now in
    let e = rw (r.0, r.1, r.2) at c.plan_sizes-plan.ensures in
    let v = asked_is a B e c.words.ensures c.in_ok-ask_lengths.ensures in
    let q = asked_all a B (rw (r.0, r.1, r.2) at c.args.matrix.now.accepted) r.3 v in
    let y = answered_yes (rw (r.0, r.1, r.2) at c.in_ok-plan_accepted.ensures) q.index in
    go_on a B v ((rw e at c.solve_planned.ensures) c.args.index.now q y)
