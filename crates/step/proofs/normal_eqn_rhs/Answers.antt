use mathlib.Core.Path.{◌∙◌}
use Rattle.lanes.proofs.Regions.{kept_room}
use native.Mathlib.Omega.{arith}
use Rattle.kernels.proofs.Laid.{laid}
use Rattle.plan_laws.proofs.Follows.{rows_for, cols_for}
use Rattle.memory.proofs.Plans.{prepared}
use Rattle.memory.proofs.Tasks.{planned_in}
use Rattle.memory.specs.Numbers.{data_at}
use Rattle.step.proofs.Steps.{right_side}
use Rattle.step.proofs.normal_eqn_rhs.Goals as goal

pub rhs_u-requires : goal.rhs_u-requires
rhs_u-requires c =
    let T = c.args.task.now in
    let I = T.lists.listed in
    let e = c.columns.ensures in
    let F = c.requires.0 in
    rw (c.regions-mem.ensures, e.0 ∙ I.atindptr_is, e.1 ∙ I.atindices_is, e.2 ∙ I.atmap_is, e.3)
    ((cols_for (prepared (planned_in T.planned))).ranges, laid F.wide c.requires.1, record { lanes = F.within; long = F.c_long })

pub rhs_f-requires : goal.rhs_f-requires
rhs_f-requires c =
    let F = c.requires.0 in
    let z = kept_room c.rhs_u.ensures.kept in
    rw c.regions-mem.ensures
    ((rows_for (prepared (planned_in c.args.task.now.planned))).ranges, laid F.wide (omega (arith, c.requires.1, z)), record { lanes = F.within; long = F.b_long })

pub returns : goal.returns
returns c =
    let T = c.args.task.now in
    let I = T.lists.listed in
    let e = c.columns.ensures in
    let P = prepared (planned_in T.planned) in
    let u = rw (c.regions-mem.ensures, e.0 ∙ I.atindptr_is, e.1 ∙ I.atindices_is, e.2 ∙ I.atmap_is, e.3) at c.rhs_u.ensures in
    let f = rw c.regions-mem.ensures at c.rhs_f.ensures in
    λ H tol. right_side _ _ H (data_at T.block T.lists.plan.m T.lists.plan.n T.b.now T.c.now tol) _ _ _ _ (rows_for P) (cols_for P) u f
