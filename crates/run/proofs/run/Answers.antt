use native.Mathlib.Omega.{arith}
use mathlib.Core.Path.{refl, sym, ◌∙◌}
use Prim.Native.Nat.{ℕ}
use Rattle.machine.specs.Machine.{Settings}
use Rattle.machine.specs.Outcome.{Call}
use Rattle.machine.proofs.Turns.{start_steps}
use Rattle.memory.specs.Calls.{call_in}
use Rattle.memory.specs.Tasks.{task_problem, task_data}
use Rattle.memory.specs.declared.Task.{Task}
use Rattle.lane_test.specs.Measures.{Measured}
use Rattle.step.specs.Steps.{With, Told}
use Rattle.step.proofs.Steps.{untouched_room, untouched_on, untouched_wider}
use Rattle.step.proofs.Statuses.{fresh_frame}
use Rattle.run.specs.Tests.{ByNorms}
use Rattle.run.proofs.Runs.{settings_of, settings_with, settings_norms, bears, ends_ran, ran_tests, goes, goes_on, told_step, stepped}
use Rattle.run.proofs.run.Goals as goal

-- the call of the block's lanes
abbrev call_of : Settings → Task → ℕ → Call
call_of H T width = call_in H T.lists.plan T.block width T.rows.off.now T.rows.cols.now T.rows.vals.now T.b.now T.c.now T.tolerances.now

pub loop-outcome-init : goal.loop-outcome-init
loop-outcome-init c =
    let f = c.normal_eqn_init.ensures in (
      (λ H W D. start_steps (call_of H c.args.task.now c.args.width) c.args.controls.limit _ c.requires.2 f.all),
      record { size = refl; beyond = λ j l. refl },
      omega (arith, c.requires.1, untouched_room (fresh_frame f)),
    )

pub overflow_add-k : goal.overflow_add-k
overflow_add-k c = let f = c.args.controls in let g = (c.loop-outcome.invariant.0 (settings_of f) (settings_with f) (settings_norms f)).under in omega (arith, g, c.well_formed)

pub test_at-statuses-requires : goal.test_at-statuses-requires
test_at-statuses-requires c = (
  c.requires.0,
  c.loop-outcome.invariant.2,
  c.measure-sums.ensures,
  λ H W D.
      let T = c.args.task.now in
      bears H T.lists.plan T.block c.args.width c.requires.0.wide T.rows.off.now T.rows.cols.now T.rows.vals.now T.b.now T.c.now T.tolerances.now c.args.controls.limit c.loop-outcome.k _ (c.loop-outcome.invariant.0 H W D),
)

pub returns-in-Some : goal.returns-in-Some
returns-in-Some c = (
  untouched_on (untouched_wider (fresh_frame c.normal_eqn_init.ensures) (omega arith)) c.loop-outcome.invariant.1,
  λ H W D.
      let C = call_of H c.args.task.now c.args.width in
      ran_tests C c.args.controls.limit c.requires.2 _ _ (ends_ran C c.args.controls.limit c.loop-outcome.k _ c.test_at-statuses.result (c.loop-outcome.invariant.0 H W D) (c.test_at-statuses.ensures H W D).says _ (sym c.turn_after.ensures ∙ c.in-Some.is)),
)

pub loop-outcome-smaller : goal.loop-outcome-smaller
loop-outcome-smaller c = let f = c.args.controls in let g = (c.loop-outcome.invariant.0 (settings_of f) (settings_with f) (settings_norms f)).under in omega (arith, g)

pub loop-outcome-preserved : goal.loop-outcome-preserved
loop-outcome-preserved c =
    let F = c.args.controls in
    let T = c.args.task.now in
    let wide = c.requires.0.wide in
    let r = c.measure-sums.result in
    let A = task_problem T in
    let d = task_data T T.tolerances.now in
    let on = goes c.args.width c.test_at-statuses.result c.args.controls.limit _ (sym c.turn_after.ensures ∙ c.in_default.is) in
    let told : (H : Settings) → With F H → ByNorms A H → Told c.args.width A H d c.test_at-statuses.result r.mu c.loop-outcome.work =
    λ H W D.
    let m : Measured c.args.width A.m A.n A.s H.centring c.loop-outcome.work r.nx r.ny r.g r.mu = rw W.centring c.measure-sums.ensures in
    told_step H T.lists.plan T.block c.args.width wide T.rows.off.now T.rows.cols.now T.rows.vals.now T.b.now T.c.now T.tolerances.now (c.test_at-statuses.ensures H W D).says on m in
    let step = c.step_lanes.ensures in
    let f = (step (settings_of F) T.tolerances.now (settings_with F) (told (settings_of F) (settings_with F) (settings_norms F))).frame in (
      (λ H W D. goes_on (call_of H T c.args.width) c.args.controls.limit c.loop-outcome.k _ c.test_at-statuses.result (c.loop-outcome.invariant.0 H W D) (c.test_at-statuses.ensures H W D).says _ on (stepped H T.lists.plan T.block c.args.width wide T.rows.off.now T.rows.cols.now T.rows.vals.now T.b.now T.c.now T.tolerances.now (step H T.tolerances.now W (told H W D)))),
      untouched_on c.loop-outcome.invariant.1 f,
      omega (arith, c.loop-outcome.invariant.2, untouched_room f),
    )
