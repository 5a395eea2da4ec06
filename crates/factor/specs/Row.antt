-- A row of the factor: what is due before it, and what is done after it. Definitions only.
use Rattle.std.specs.Prelude.{List, ℕ, ◌+◌, ◌-◌, ◌<◌, get_or, Float}
use Rattle.lanes.specs.Lanes.{On}
use Rattle.lanes.specs.Region.{reg, Kept}
use Rattle.machine.specs.Work.{problem_of}
use Rattle.sparse.specs.Sparse.{front_at}
use Rattle.plan_laws.specs.Factoring.{Given, Factored, state_in}
use Rattle.layout.specs.declared.Plan.{Plan}
use Rattle.layout.specs.Layout.{l_at, dy_at, rhs_at}
use Rattle.layout.specs.Lists.{lindptr_in, lindices_in}

-- the factor's first e entries are the machine's, on the memory's own numbers
abbrev pub FilledTo : ℕ → List ℕ → List ℕ → List Float → Plan → List Float → ℕ → Type 0
FilledTo width off cols vals p work e = Factored width (problem_of p.m p.n p.s off cols vals) (state_in width p work) (l_at p.n p.m p.s) e work

-- lane l of the factor, of the right-hand side, and of the first i entries of the solution
abbrev pub factor_in : ℕ → Plan → List Float → ℕ → List Float
factor_in width p work l = reg width work (l_at p.n p.m p.s) p.stored l

abbrev pub side_in : ℕ → Plan → List Float → ℕ → List Float
side_in width p work l = reg width work (rhs_at p.n p.m) p.m l

abbrev pub solved_in : ℕ → Plan → List Float → ℕ → ℕ → List Float
solved_in width p work i l = reg width work (dy_at p.n p.m) i l

-- row i is due: the rows before it are the machine's
pub record RowDue (width : ℕ) (off cols : List ℕ) (vals : List Float) (p : Plan) (index : List ℕ) (work : List Float) (i : ℕ) : Type 0 where
  pub given : Given width off cols vals p index work
  pub row : i < p.m
  pub filled : FilledTo width off cols vals p work (get_or (lindptr_in p index) i 0)

-- the same, of a matrix that is not named
pub record SomeDue (width : ℕ) (vals : List Float) (p : Plan) (index : List ℕ) (work : List Float) (i : ℕ) : Type 0 where
  pub off : List ℕ
  pub cols : List ℕ
  pub is : RowDue width off cols vals p index work i

-- row i is the machine's too, nothing else has changed, and `r` is entry i of the forward substitution
pub record RowDone (width : ℕ) (off cols : List ℕ) (vals : List Float) (p : Plan) (index : List ℕ) (i : ℕ) (old new r : List Float) : Type 0 where
  pub kept : Kept width (l_at p.n p.m p.s + get_or (lindptr_in p index) i 0) (get_or (lindptr_in p index) (i + 1) 0 - get_or (lindptr_in p index) i 0) old new
  pub filled : FilledTo width off cols vals p new (get_or (lindptr_in p index) (i + 1) 0)
  pub entry : On width r (λ l. front_at (lindptr_in p index) (lindices_in p index) (factor_in width p new l) (side_in width p new l) (solved_in width p new i l) i)
