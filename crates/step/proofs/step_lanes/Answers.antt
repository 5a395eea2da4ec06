use mathlib.Core.List.{[]}
use native.Mathlib.Omega.{arith}
use Rattle.machine.specs.Machine.{standard}
use Rattle.memory.specs.Numbers.{data_at}
use Rattle.step.proofs.Steps.{untouched_room, took}
use Rattle.step.proofs.Statuses.{by_statuses}
use Rattle.step.proofs.step_lanes.Goals as goal

pub advance-requires : goal.advance-requires
advance-requires c = (c.requires.0.slack, omega (arith, c.requires.1, untouched_room (c.directions-theta.ensures standard []).still.frame), c.requires.0.wide)

pub returns : goal.returns
returns c =
    λ H tol e K.
    let T = c.args.task.now in
    let d = data_at T.block T.lists.plan.m T.lists.plan.n T.b.now T.c.now tol in
    let X = took _ _ H d _ _ e.damping (c.directions-theta.ensures H tol) c.advance.ensures (omega arith) in
    by_statuses _ _ H d c.args.statuses X K (λ l h. c.lanes_done-done.ensures l (omega (arith, h, c.requires.0.wide.most)))
