-- A turn of each loop: the entry that it works out is the definition's. Assumes nothing.
use mathlib.Core.List.{List}
use Prim.Native.Nat.{ℕ, ◌+◌, ◌<◌}
use lib.Ieee.{Float}
use Rattle.lanes.specs.Lists.{at}
use Rattle.lanes.specs.Arithmetic.{◌⊕◌, ◌⊗◌, null, Σ}
use Rattle.lanes.specs.Lanes.{cell, On}
use Rattle.lanes.proofs.Quads.{reg_cell, lane_cell, ◌▹◌}
use Rattle.layout.specs.declared.Block.{Block}
use Rattle.layout.specs.declared.Regions.{Regions}
use Rattle.sparse.specs.Parts.{less_row, less_col}
use Rattle.kernels.specs.Kernels.{lane_in, x_in, y_in, w_in}
use Rattle.kernels.proofs.Loops.{sum_turn, sum_none}
use Rattle.residuals.specs.Residuals.{r_start, q_lane, r_lane, q_at, r_at}

module _ (width : ℕ) (mem : Regions) (atindptr atindices atmap : List ℕ) (vals : List Float) (block : Block) (c work : List Float) where
  -- lane l's sum over the first e columns
  abbrev pub dual_up_to : ℕ → ℕ → Float
  dual_up_to e l = Σ e (λ j. q_lane width mem atindptr atindices atmap vals block c work l j ⊗ q_lane width mem atindptr atindices atmap vals block c work l j)

  pub dual_none : {acc : List Float} → On width acc (λ l. null) → On width acc (dual_up_to 0)
  dual_none e0 = sum_none (q_lane width mem atindptr atindices atmap vals block c work) (q_lane width mem atindptr atindices atmap vals block c work) e0

  pub dual_turn : {acc a g v q r : List Float} {e : ℕ} → On width acc (dual_up_to e) → e < mem.n → On width a (cell width work (mem.z + e)) → On width g (λ l. cell block.total c e (block.first + l))
      → On width v (λ l. at a l ⊕ at g l) → On width q (λ l. less_col atindptr atindices atmap vals (at (y_in width mem work l)) e (at v l)) → On width r (λ l. at acc l ⊕ at q l ⊗ at q l)
      → On width r (dual_up_to (e + 1))
  dual_turn {q = q} {e = e} i h ea eg ev eq er =
      sum_turn (q_lane width mem atindptr atindices atmap vals block c work) (q_lane width mem atindptr atindices atmap vals block c work) i now now er
    where
      now : On width q (λ l. q_lane width mem atindptr atindices atmap vals block c work l e)
      now =
          unfold q_at in
          eq ▹ (λ l b. rw (ev.lane l b, ea.lane l b, reg_cell width work mem.z mem.n e h l b, eg.lane l b, lane_cell block.total block.first width c mem.n e h l b))

module _ (width : ℕ) (mem : Regions) (off cols : List ℕ) (vals : List Float) (block : Block) (b : List Float) where
  -- lane l's sum over the first i rows
  abbrev pub primal_up_to : List Float → ℕ → ℕ → Float
  primal_up_to work i l = Σ i (λ j. r_lane width mem off cols vals block b work l j ⊗ r_lane width mem off cols vals block b work l j)

  pub primal_none : (work : List Float) {acc : List Float} → On width acc (λ l. null) → On width acc (primal_up_to work 0)
  primal_none work e0 = sum_none (r_lane width mem off cols vals block b work) (r_lane width mem off cols vals block b work) e0

  pub primal_turn : (work : List Float) {acc v r t : List Float} (i : ℕ) → On width acc (primal_up_to work i)
      → On width v (λ l. r_start mem.s (lane_in block mem.m b l) (w_in width mem work l) i) → On width r (λ l. less_row off cols vals (at (x_in width mem work l)) i (at v l))
      → On width t (λ l. at acc l ⊕ at r l ⊗ at r l) → On width t (primal_up_to work (i + 1))
  primal_turn work {r = r} i g ev er et =
      sum_turn (r_lane width mem off cols vals block b work) (r_lane width mem off cols vals block b work) g now now et
    where
      now : On width r (λ l. r_lane width mem off cols vals block b work l i)
      now = unfold r_at in er ▹ (λ l z. rw (ev.lane l z))
