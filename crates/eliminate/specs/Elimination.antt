-- The factor and the substitutions in one memory: what is given of it, and what is left in it. Definitions only.
use Rattle.std.specs.Prelude.{◌≡◌, ◌⊎◌, List, ℕ, ◌+◌, ◌*◌, ◌≤◌, ◌<◌, length, get_or, Float}
use Rattle.lanes.specs.Lists.{at}
use Rattle.lanes.specs.Lanes.{Width, room}
use Rattle.lanes.specs.Region.{reg}
use Rattle.machine.specs.Machine.{Problem, State}
use Rattle.sparse.specs.Sparse.{High, front, back_at, back}
use Rattle.plan_laws.specs.Factoring.{Factored}
use Rattle.layout.specs.declared.Plan.{Plan}
use Rattle.layout.specs.Layout.{dy_at, l_in, top_in}
use Rattle.layout.specs.Lists.{lindptr_in, lindices_in, ltindptr_in, ltindices_in, ltmap_in, Indexed}
use Rattle.memory.specs.Numbers.{numbers_at}
use Rattle.memory.specs.Planned.{problem_in}
use Rattle.factor.specs.Row.{factor_in, side_in, solved_in}

-- what the backward substitution reads: the factor's columns, and where each row ends, in a memory that has room for the factor
pub record BackIn (width : ℕ) (p : Plan) (index : List ℕ) (work : List Float) : Type 0 where
  pub columns : High p.m p.stored (ltindptr_in p index) (ltindices_in p index) (ltmap_in p index)
  pub ends : (i : ℕ) → i < p.m → (0 < get_or (lindptr_in p index) (i + 1) 0) × (get_or (lindptr_in p index) (i + 1) 0 ≤ p.stored)
  pub indexed : Indexed p index
  pub fits : top_in p ≤ room width work
  pub wide : Width width

-- lane l: entry i of the backward substitution, where the entries behind it stand, and all of them
abbrev pub back_entry : ℕ → Plan → List ℕ → List Float → ℕ → ℕ → Float
back_entry width p index work i l = back_at (lindptr_in p index) (ltindptr_in p index) (ltindices_in p index) (ltmap_in p index) (factor_in width p work l) (solved_in width p work p.m l) i

abbrev pub back_all : ℕ → Plan → List ℕ → List Float → ℕ → List Float → List Float
back_all width p index work l d = back (lindptr_in p index) (ltindptr_in p index) (ltindices_in p index) (ltmap_in p index) (factor_in width p work l) p.m d

-- lane l: the forward substitution of a right-hand side
abbrev pub front_all : ℕ → Plan → List ℕ → List Float → ℕ → List Float → List Float
front_all width p index work l b = front (lindptr_in p index) (lindices_in p index) p.m (factor_in width p work l) b

-- nothing but the n entries from entry o and the k entries from entry p has changed
pub record KeptTwo (width o n p k : ℕ) (old new : List Float) : Type 0 where
  pub size : length new ≡ length old
  pub outside : (j : ℕ) → (j < width * o) ⊎ (width * (o + n) ≤ j) → (j < width * p) ⊎ (width * (p + k) ≤ j) → at new j ≡ at old j

-- ---- THE PROMISE: the factor's E entries are the machine's, lane l of the region at d is the list `G l`, and nothing else has changed
pub record Eliminated (width : ℕ) (A : Problem) (q : ℕ → State) (lo E d : ℕ) (G : ℕ → List Float) (old new : List Float) : Type 0 where
  pub kept : KeptTwo width lo E d A.m old new
  pub factored : Factored width A q lo E new
  pub within : (l : ℕ) → l < width → reg width new d A.m l ≡ G l

-- the factor's and the solution's regions are written, by the plan: lane l of the solution is the list `G l`
abbrev pub EliminatedIn : ℕ → List ℕ → List ℕ → List Float → Plan → (ℕ → List Float) → List Float → List Float → Type 0
EliminatedIn width off cols vals p G old new = Eliminated width (problem_in p off cols vals) (numbers_at width p.m p.n p.s old) (l_in p) p.stored (dy_at p.n p.m) G old new

-- after the rows: the forward substitution's entries, of the right-hand side
abbrev pub Forwarded : ℕ → List ℕ → List ℕ → List Float → Plan → List ℕ → List Float → List Float → Type 0
Forwarded width off cols vals p index old new = EliminatedIn width off cols vals p (λ l. front_all width p index new l (side_in width p old l)) old new

-- after both substitutions: the solution
abbrev pub Solves : ℕ → List ℕ → List ℕ → List Float → Plan → List ℕ → List Float → List Float → Type 0
Solves width off cols vals p index old new = EliminatedIn width off cols vals p (λ l. back_all width p index new l (front_all width p index new l (side_in width p old l))) old new
