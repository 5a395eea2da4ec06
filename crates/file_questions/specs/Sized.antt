-- A matrix that has passed questions 1 to 5, and the sizes of its plan. Definitions only.
use Rattle.std.specs.Prelude.{◌≡◌, List, ℕ, length}
use Rattle.layout.specs.declared.Plan.{Plan}
use Rattle.csr.specs.Csr.{Accepted}
use Rattle.csr.specs.Counts.{Counted, count_e, count_s, count_d}
use Rattle.csr.specs.declared.Matrix.{Matrix}
use Rattle.layout.specs.Layout.{plan_of}

pub record Sized (off cols : List ℕ) (plan : Plan) : Type 0 where
  pub accepted : Accepted off cols plan.m plan.n
  pub counts : Counted off cols plan.m plan.stored plan.shared plan.products
  pub entries : plan.t ≡ length cols

-- the sizes of a matrix's plan, with no slack rows, as they are counted
abbrev pub counted_plan : Matrix → Plan
counted_plan x =
    let off = x.rows.offsets.now in
    let cols = x.rows.columns.now in
    plan_of x.m x.n 0 (length cols) (count_e off cols x.m) (count_s off cols x.m) (count_d off cols x.m)
