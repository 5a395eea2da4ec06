-- The right-hand side of the normal equations, in one lane by the lists that the program reads, and over a block's memory. Definitions only.
use Rattle.std.specs.Prelude.{ℕ, cond, List, ltb, Float}
use Rattle.std.specs.Float.Ieee.{neg}
use Rattle.lanes.specs.Lists.{at, vec}
use Rattle.lanes.specs.Arithmetic.{◌⊕◌, ◌⊖◌, ◌⊗◌, ◌⊘◌, null}
use Rattle.lanes.specs.Region.{Fills}
use Rattle.layout.specs.declared.Block.{Block}
use Rattle.layout.specs.declared.Regions.{Regions}
use Rattle.sparse.specs.Parts.{plus_row, plus_col}
use Rattle.kernels.specs.Kernels.{FillsThree, lane_in, x_in, z_in, tmp_in, y_in}

-- ---- one lane

-- mu over x
abbrev pub over_at : Float → List Float → ℕ → Float
over_at mu x e = mu ⊘ at x e

-- where v_i starts: a slack row's differs
abbrev pub v_start : ℕ → Float → List Float → ℕ → Float
v_start s mu y i = cond (ltb i s) (mu ⊘ at y i) null

module _ (atindptr atindices atmap : List ℕ) (vals : List Float) where
  -- the reduced cost: c less the column's product with y
  unfoldable pub cost_at : List Float → List Float → ℕ → Float
  unfolding plus_col
  cost_at c y e = at c e ⊖ plus_col atindptr atindices atmap vals (at y) e null

  unfoldable pub u_at : List Float → Float → List Float → List Float → List Float → ℕ → Float
  unfolding cost_at
  u_at c mu x z y e = at x e ⊗ (cost_at c y e ⊕ over_at mu x e) ⊘ at z e

-- f_i of b, mu, x, y and u
unfoldable pub f_at : List ℕ → List ℕ → List Float → ℕ → List Float → Float → List Float → List Float → List Float → ℕ → Float
unfolding plus_row
f_at off cols vals s b mu x y u i = neg ((at b i ⊖ plus_row off cols vals (at x) i (v_start s mu y i)) ⊖ plus_row off cols vals (at u) i null)

-- ---- of the numbers in a memory

module _ (width : ℕ) (mem : Regions) where
  abbrev pub over_lane : List Float → List Float → ℕ → ℕ → Float
  over_lane mu ws l = over_at (at mu l) (x_in width mem ws l)

  module _ (atindptr atindices atmap : List ℕ) (vals : List Float) (block : Block) (c : List Float) where
    abbrev pub cost_lane : List Float → ℕ → ℕ → Float
    cost_lane ws l = cost_at atindptr atindices atmap vals (lane_in block mem.n c l) (y_in width mem ws l)

    abbrev pub u_lane : List Float → List Float → ℕ → ℕ → Float
    u_lane mu ws l = u_at atindptr atindices atmap vals (lane_in block mem.n c l) (at mu l) (x_in width mem ws l) (z_in width mem ws l) (y_in width mem ws l)

    -- the reduced costs, mu over x and u, in the regions of dx, dz and tmp
    abbrev pub RightU : List Float → List Float → List Float → Type 0
    RightU mu old new =
        FillsThree width mem.dx mem.dz mem.tmp mem.n (λ l. vec mem.n (cost_lane old l)) (λ l. vec mem.n (over_lane mu old l)) (λ l. vec mem.n (u_lane mu old l)) old new

  module _ (off cols : List ℕ) (vals : List Float) (block : Block) (b : List Float) where
    abbrev pub f_lane : List Float → List Float → ℕ → ℕ → Float
    f_lane mu ws l = f_at off cols vals mem.s (lane_in block mem.m b l) (at mu l) (x_in width mem ws l) (y_in width mem ws l) (tmp_in width mem ws l)

    -- f, in the region of the right-hand side
    abbrev pub RightF : List Float → List Float → List Float → Type 0
    RightF mu old new = Fills width mem.rhs mem.m (λ l. vec mem.m (f_lane mu old l)) old new
