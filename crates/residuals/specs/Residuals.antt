-- The residuals of a test, in one lane by the lists that the program reads, and the sums of their squares over a block's memory. Definitions only.
use Rattle.std.specs.Prelude.{ℕ, cond, List, ltb, Float}
use Rattle.lanes.specs.Lists.{at}
use Rattle.lanes.specs.Arithmetic.{◌⊕◌, ◌⊖◌, ◌⊗◌, Σ}
use Rattle.layout.specs.declared.Block.{Block}
use Rattle.layout.specs.declared.Regions.{Regions}
use Rattle.sparse.specs.Parts.{less_row, less_col}
use Rattle.kernels.specs.Kernels.{lane_in, x_in, z_in, y_in, w_in}

-- ---- one lane

-- where r_i starts: a slack row's differs
abbrev pub r_start : ℕ → List Float → List Float → ℕ → Float
r_start s b w i = cond (ltb i s) (at b i ⊖ at w i) (at b i)

-- r_i of b, x and w
unfoldable pub r_at : List ℕ → List ℕ → List Float → ℕ → List Float → List Float → List Float → ℕ → Float
unfolding less_row
r_at off cols vals s b x w i = less_row off cols vals (at x) i (r_start s b w i)

-- q_e of c, z and y
unfoldable pub q_at : List ℕ → List ℕ → List ℕ → List Float → List Float → List Float → List Float → ℕ → Float
unfolding less_col
q_at atindptr atindices atmap vals c z y e = less_col atindptr atindices atmap vals (at y) e (at z e ⊕ at c e)

-- ---- of the numbers in a memory

module _ (width : ℕ) (mem : Regions) where
  module _ (atindptr atindices atmap : List ℕ) (vals : List Float) (block : Block) (c : List Float) where
    abbrev pub q_lane : List Float → ℕ → ℕ → Float
    q_lane ws l = q_at atindptr atindices atmap vals (lane_in block mem.n c l) (z_in width mem ws l) (y_in width mem ws l)

    -- lane l's sum of squares of the dual residuals
    abbrev pub dual_sum : List Float → ℕ → Float
    dual_sum ws l = Σ mem.n (λ e. q_lane ws l e ⊗ q_lane ws l e)

  module _ (off cols : List ℕ) (vals : List Float) (block : Block) (b : List Float) where
    abbrev pub r_lane : List Float → ℕ → ℕ → Float
    r_lane ws l = r_at off cols vals mem.s (lane_in block mem.m b l) (x_in width mem ws l) (w_in width mem ws l)

    -- lane l's sum of squares of the primal residuals
    abbrev pub primal_sum : List Float → ℕ → Float
    primal_sum ws l = Σ mem.m (λ i. r_lane ws l i ⊗ r_lane ws l i)
