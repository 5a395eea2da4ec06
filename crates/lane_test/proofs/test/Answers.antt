use mathlib.Core.Path.{◌∙◌}
use Rattle.lanes.proofs.Quads.{on}
use Rattle.plan_laws.proofs.Follows.{rows_for, cols_for}
use Rattle.memory.specs.Numbers.{data_at}
use Rattle.memory.proofs.Plans.{prepared}
use Rattle.memory.proofs.Tasks.{planned_in}
use Rattle.kernels.proofs.Laid.{laid}
use Rattle.lane_test.proofs.Tests.{roots_on, tested}
use Rattle.lane_test.proofs.test.Goals as goal

pub primal_squares-primal-requires : goal.primal_squares-primal-requires
primal_squares-primal-requires c =
    let L = c.requires.0 in
    rw c.regions-mem.ensures ((rows_for (prepared (planned_in c.args.task.now.planned))).ranges, laid L.wide c.requires.1, record { lanes = L.within; long = L.b_long })

pub dual_squares-dual-requires : goal.dual_squares-dual-requires
dual_squares-dual-requires c =
    let L = c.requires.0 in
    let I = c.args.task.now.lists.listed in
    let e = c.columns.ensures in
    rw (c.regions-mem.ensures, e.0 ∙ I.atindptr_is, e.1 ∙ I.atindices_is, e.2 ∙ I.atmap_is, e.3) ((cols_for (prepared (planned_in c.args.task.now.planned))).ranges, laid L.wide c.requires.1, record { lanes = L.within; long = L.c_long })

pub returns : goal.returns
returns c =
    let W = c.requires.0.wide in
    let T = c.args.task.now in
    let I = T.lists.listed in
    let e = c.columns.ensures in
    let P = prepared (planned_in T.planned) in
    let r = roots_on W _ _ c.root_over-r.ensures (rw c.regions-mem.ensures at c.primal_squares-primal.ensures) in
    let q = roots_on W _ _ c.root_over-q.ensures (rw (c.regions-mem.ensures, e.0 ∙ I.atindptr_is, e.1 ∙ I.atindices_is, e.2 ∙ I.atmap_is, e.3) at c.dual_squares-dual.ensures) in
    λ H M D l h. tested c.args.width _ H (data_at T.block T.lists.plan.m T.lists.plan.n T.b.now T.c.now T.tolerances.now) _ M _ _ _ (rows_for P) (cols_for P) D r q (on W c.gap_in.ensures) l h (c.judge4.ensures l h)
