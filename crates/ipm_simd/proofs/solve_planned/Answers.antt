-- `ipm_simd::solve_planned` meets its contract. Assumes nothing.
use mathlib.Core.Path.{ap, ◌∙◌}
use Prim.Native.Nat.{ℕ}
use Rattle.lanes.proofs.Consts.{null_bits}
use Rattle.memory.proofs.Plans.{indexed}
use Rattle.run.proofs.Runs.{settings_of, settings_with, settings_norms}
use Rattle.ipm_simd.specs.Solve.{given, call, outcome_verdict}
use Rattle.ipm_simd.proofs.Solves.{lane_under, lent_four, room_four, run_four, finished}
use Rattle.ipm_simd.proofs.solve_planned.Goals as goal

pub lists-requires : goal.lists-requires
lists-requires c = indexed c.requires.0

pub run-outcome-requires : goal.run-outcome-requires
run-outcome-requires c =
    let P = c.args.problem.now in
    let a = given c.args.plan.m c.args.plan.n c.args.plan.s P.rows.offsets.now P.rows.columns.now P.values.now P.b.now P.c.now P.tolerances.now c.args.controls in
    let q = rw (c.requires.1, c.requires.2, c.requires.3) at c.requires.4 in
    rw c.lists.ensures.0 (lent_four a q, room_four a q, q.from)

pub answer-requires : goal.answer-requires
answer-requires c =
    let P = c.args.problem.now in
    let a = given c.args.plan.m c.args.plan.n c.args.plan.s P.rows.offsets.now P.rows.columns.now P.values.now P.b.now P.c.now P.tolerances.now c.args.controls in
    let q = rw (c.requires.1, c.requires.2, c.requires.3) at c.requires.4 in
    let f = c.args.controls in
    let ran = rw c.lists.ensures.0 at c.run-outcome.ensures in
    lane_under (call a) c.args.controls.limit c.run-outcome.result (run_four a q (ran.1 (settings_of f) (settings_with f) (settings_norms f)).0).answer

pub returns : goal.returns
returns c =
    let P = c.args.problem.now in
    let a = given c.args.plan.m c.args.plan.n c.args.plan.s P.rows.offsets.now P.rows.columns.now P.values.now P.b.now P.c.now P.tolerances.now c.args.controls in
    let f = c.args.controls in
    let ran = rw c.lists.ensures.0 at c.run-outcome.ensures in
    let told = c.answer.ensures ∙ ap (λ (n : ℕ). outcome_verdict n c.run-outcome.result) c.write_outputs.auto.prices in
    rw (c.requires.1, c.requires.2, c.requires.3)
    (λ old asked planned. finished a asked planned ran.0 (run_four a asked (ran.1 (settings_of f) (settings_with f) (settings_norms f)).0) told c.write_outputs.ensures.x c.write_outputs.ensures.y (rw (← c.numbers-room.ensures, ← null_bits) c.fill_front.ensures))
