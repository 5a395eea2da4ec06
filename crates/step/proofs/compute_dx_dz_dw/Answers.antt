use mathlib.Core.Path.{◌∙◌}
use Rattle.lanes.proofs.Quads.{on}
use Rattle.lanes.proofs.Regions.{kept_room}
use native.Mathlib.Omega.{arith}
use Rattle.kernels.proofs.Laid.{laid}
use Rattle.plan_laws.proofs.Follows.{cols_for}
use Rattle.memory.proofs.Plans.{prepared}
use Rattle.step.proofs.Steps.{changed}
use Rattle.step.proofs.compute_dx_dz_dw.Goals as goal

pub column_changes-p-requires : goal.column_changes-p-requires
column_changes-p-requires c =
    let I = c.args.task.now.lists.listed in
    let e = c.columns.ensures in
    rw (c.regions-mem.ensures, e.0 ∙ I.atindptr_is, e.1 ∙ I.atindices_is, e.2 ∙ I.atmap_is, e.3)
    ((cols_for (prepared c.requires.0.is)).ranges, laid c.requires.2 c.requires.1)

pub slack_changes-q-requires : goal.slack_changes-q-requires
slack_changes-q-requires c =
    let z = kept_room c.column_changes-p.ensures.0.kept in
    rw c.regions-mem.ensures
    (laid c.requires.2 (omega (arith, c.requires.1, z)))

pub returns : goal.returns
returns c =
    let I = c.args.task.now.lists.listed in
    let e = c.columns.ensures in
    let p = rw (c.regions-mem.ensures, e.0 ∙ I.atindptr_is, e.1 ∙ I.atindices_is, e.2 ∙ I.atmap_is, e.3) at c.column_changes-p.ensures in
    let q = rw c.regions-mem.ensures at c.slack_changes-q.ensures in
    λ off cols H d P Y. changed _ _ H d _ _ _ _ (cols_for (prepared P)) P.slack Y p.0 p.1 q.0 q.1 (on c.requires.2 c.larger4.ensures)
