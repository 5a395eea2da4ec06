use mathlib.Core.List.{[]}
use Rattle.machine.specs.Machine.{standard}
use Rattle.eliminate.proofs.Rows.{two_room}
use native.Mathlib.Omega.{arith}
use Rattle.plan_laws.proofs.Follows.{low_for, high_for}
use Rattle.memory.specs.Numbers.{data_at}
use Rattle.memory.proofs.Plans.{prepared}
use Rattle.memory.proofs.Tasks.{planned_in}
use Rattle.step.proofs.Steps.{untouched_room, directed, readied}
use Rattle.step.proofs.Held.{held_for}
use Rattle.step.proofs.directions.Goals as goal

pub factor_solve-requires : goal.factor_solve-requires
factor_solve-requires c = (record { off = _; cols = _; is = planned_in c.args.task.now.planned }, omega (arith, c.requires.1, untouched_room (c.normal_eqn_rhs.ensures standard []).still.frame), c.requires.0.wide)

pub compute_dx_dz_dw-requires : goal.compute_dx_dz_dw-requires
compute_dx_dz_dw-requires c =
    let P = planned_in c.args.task.now.planned in
    let k = (c.factor_solve.ensures _ _ P).kept in
    (record { off = _; cols = _; is = P }, omega (arith, c.requires.1, two_room k, untouched_room (c.normal_eqn_rhs.ensures standard []).still.frame), c.requires.0.wide)

pub returns : goal.returns
returns c =
    let T = c.args.task.now in
    let P = planned_in T.planned in
    λ H tol.
    let d = data_at T.block T.lists.plan.m T.lists.plan.n T.b.now T.c.now tol in
    let a = c.normal_eqn_rhs.ensures H tol in
    let f = c.factor_solve.ensures _ _ P in
    let x = c.compute_dx_dz_dw.ensures _ _ H d P (readied _ _ d _ a.ready f.kept) in
    directed _ _ H d _ _ _ _ _ _ _ (low_for (prepared P)) (high_for (prepared P)) a f (held_for P f.factored) x
