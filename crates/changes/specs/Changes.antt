-- The changes of x, z and w, in one lane by the lists that the program reads, and over a block's memory. Definitions only.
use Rattle.std.specs.Prelude.{ℕ, List, Float}
use Rattle.lanes.specs.Lists.{at, vec}
use Rattle.lanes.specs.Arithmetic.{◌⊕◌, ◌⊖◌, ◌⊗◌, ◌⊘◌, null}
use Rattle.lanes.specs.Lanes.{On}
use Rattle.lanes.specs.Region.{Fills}
use Rattle.layout.specs.declared.Regions.{Regions}
use Rattle.machine.specs.Machine.{complement, largest_ratio}
use Rattle.sparse.specs.Parts.{plus_col}
use Rattle.kernels.specs.Kernels.{FillsTwo, x_in, z_in, dx_in, dz_in, dy_in, w_in, dw_in, slack_y, slack_dy}

-- dx_e of the reduced costs and mu over x
unfoldable pub dx_at : List ℕ → List ℕ → List ℕ → List Float → List Float → List Float → List Float → List Float → List Float → ℕ → Float
unfolding plus_col
dx_at atindptr atindices atmap vals cost over x z dy e = (at cost e ⊖ plus_col atindptr atindices atmap vals (at dy) e null ⊕ at over e) ⊗ at x e ⊘ at z e

module _ (width : ℕ) (mem : Regions) where
  -- dw of w, y, dy; the largest ratio of dw and dy, over the slack rows
  abbrev pub SlackChanged : List Float → List Float → List Float → List Float → Type 0
  SlackChanged mu old new r =
      Fills width mem.dw mem.s (λ l. complement mem.s (at mu l) (w_in width mem old l) (slack_y width mem old l) (slack_dy width mem old l)) old new
      × On width r (λ l. largest_ratio mem.s (w_in width mem new l) (dw_in width mem new l) (slack_y width mem new l) (slack_dy width mem new l))

  module _ (atindptr atindices atmap : List ℕ) (vals : List Float) where
    abbrev pub dx_lane : List Float → ℕ → ℕ → Float
    dx_lane ws l = dx_at atindptr atindices atmap vals (dx_in width mem ws l) (dz_in width mem ws l) (x_in width mem ws l) (z_in width mem ws l) (dy_in width mem ws l)

    -- dx, in place of the reduced costs, and dz, in place of mu over x; the largest ratio of both
    abbrev pub ColumnsChanged : List Float → List Float → List Float → List Float → Type 0
    ColumnsChanged mu old new r =
        FillsTwo width mem.dx mem.dz mem.n (λ l. vec mem.n (dx_lane old l)) (λ l. complement mem.n (at mu l) (z_in width mem old l) (x_in width mem old l) (dx_in width mem new l)) old new
        × On width r (λ l. largest_ratio mem.n (x_in width mem new l) (dx_in width mem new l) (z_in width mem new l) (dz_in width mem new l))
