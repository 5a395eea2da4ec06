-- What question 16 starts from: a matrix with a yes at 1 to 5, its pattern as bits and as rows, and the sizes of its plan. Definitions only.
use Rattle.std.specs.Prelude.{◌≡◌, List, ℕ, length}
use Rattle.layout.specs.declared.Plan.{Plan}
use Rattle.csr.specs.Csr.{Accepted}
use Rattle.csr.specs.Counts.{Counted}
use Rattle.pattern.specs.Word.{bit}
use Rattle.pattern.specs.Ready.{Ready}
use Rattle.pair_lists.specs.Kept.{Rows}

pub record Known (off cols : List ℕ) (plan : Plan) (p lindptr lindices : List ℕ) : Type 0 where
  pub accepted : Accepted off cols plan.m plan.n
  pub ready : Ready off cols plan.m p
  pub rows : Rows (bit p) lindptr lindices plan.m
  pub counts : Counted off cols plan.m plan.stored plan.shared plan.products
  pub entries : plan.t ≡ length cols
