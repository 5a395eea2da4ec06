-- `file_questions::sixteen::is_plan` meets its contract. Assumes nothing.
use mathlib.Core.Path.{sym, ap}
use Rattle.layout.specs.declared.Plan.{Plan}
use Rattle.pattern.proofs.Whole.{clear_zeros, rows_ready}
use Rattle.pattern.proofs.Links.{inside}
use Rattle.ipm_common.proofs.Memories.{enough_few, enough_max}
use Rattle.file_questions.proofs.Three.{sized_of}
use Rattle.file_questions.proofs.sixteen.is_plan.Goals as goal

pub pattern-requires : goal.pattern-requires
pattern-requires c =
    let x = c.args.matrix.now in
    (x.accepted.csr, inside x.rows.offsets.now x.rows.columns.now x.m x.n x.accepted, λ i h. clear_zeros 1024 i)

pub is_plan_in-requires : goal.is_plan_in-requires
is_plan_in-requires c =
    let x = c.args.matrix.now in
    let ok = x.accepted in
    let is = c.requires in
    (sized_of ok is, sym (ap (λ (p : Plan). p.m) is), sym (ap (λ (p : Plan). p.n) is), rows_ready _ _ _ _ ok.csr ok.offsets.few c.pattern.array_long c.pattern.ensures, enough_few x.m x.n c.if-matrix-le-FEW_ROWS.true c.if-matrix-le-FEW_COLUMNS.true)

pub is_plan_in-requires-else-matrix-le-FEW_ROWS : goal.is_plan_in-requires-else-matrix-le-FEW_ROWS
is_plan_in-requires-else-matrix-le-FEW_ROWS c =
    let x = c.args.matrix.now in
    let ok = x.accepted in
    let is = c.requires in
    (sized_of ok is, sym (ap (λ (p : Plan). p.m) is), sym (ap (λ (p : Plan). p.n) is), rows_ready _ _ _ _ ok.csr ok.offsets.few c.pattern.array_long c.pattern.ensures, enough_max x.m x.n ok.csr.few ok.wide)
