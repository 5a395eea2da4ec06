-- An index memory that begins with the plan of a matrix. Definitions only.
use Rattle.std.specs.Prelude.{◌≡◌, List, ◌++◌, ℕ, ◌≤◌, length, take, Float}
use Rattle.csr.specs.Csr.{Accepted}
use Rattle.csr.specs.Counts.{Counted}
use Rattle.lists.specs.Lists.{plan_words}
use Rattle.machine.specs.Machine.{Problem, LaneData}
use Rattle.machine.specs.Work.{problem_of}
use Rattle.layout.specs.declared.Block.{Block}
use Rattle.layout.specs.declared.Plan.{Plan}
use Rattle.memory.specs.Numbers.{data_at}

-- by the plan's sizes: a problem, and what a block's lanes are fed
abbrev pub problem_in : Plan → List ℕ → List ℕ → List Float → Problem
problem_in p off cols vals = problem_of p.m p.n p.s off cols vals

abbrev pub data_in : Plan → Block → List Float → List Float → List Float → ℕ → LaneData
data_in p k b c tol = data_at k p.m p.n b c tol

-- an accepted matrix with its values, its sizes and counts, and an index memory that begins with its plan
pub record Planned (off cols : List ℕ) (vals : List Float) (p : Plan) (index : List ℕ) : Type 0 where
  pub ok : Accepted off cols p.m p.n
  pub values : length vals ≡ length cols
  pub entries : p.t ≡ length cols
  pub slack : p.s ≤ p.m
  pub counts : Counted off cols p.m p.stored p.shared p.products
  pub rest : List ℕ
  pub plan : index ≡ plan_words off cols p.m p.n ++ rest

-- the same, said without the rest of the memory
pub record PlanIn (off cols : List ℕ) (vals : List Float) (p : Plan) (index : List ℕ) : Type 0 where
  pub ok : Accepted off cols p.m p.n
  pub values : length vals ≡ length cols
  pub entries : p.t ≡ length cols
  pub slack : p.s ≤ p.m
  pub counts : Counted off cols p.m p.stored p.shared p.products
  pub plan : take (length (plan_words off cols p.m p.n)) index ≡ plan_words off cols p.m p.n

-- the same, of a matrix that is not named
pub record Begins (vals : List Float) (p : Plan) (index : List ℕ) : Type 0 where
  pub off : List ℕ
  pub cols : List ℕ
  pub is : Planned off cols vals p index
