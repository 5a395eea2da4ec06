-- A turn of each loop: the entry that it works out is the definition's, of the memory as it was before the loop. Assumes nothing.
use mathlib.Core.Path.{◌≡◌}
use mathlib.Core.List.{List}
use Prim.Native.Nat.{ℕ, ◌+◌, ◌*◌, ◌<◌}
use native.Mathlib.Omega.{arith}
use lib.Ieee.{Float, neg}
use Rattle.lanes.specs.Lists.{at}
use Rattle.lanes.specs.Arithmetic.{◌⊕◌, ◌⊖◌, ◌⊗◌, ◌⊘◌, null}
use Rattle.lanes.specs.Lanes.{cell, put, On}
use Rattle.lanes.specs.Region.{Kept, Grows, Apart, before, after}
use Rattle.lanes.proofs.Regions.{kept_apart, other_cell}
use Rattle.lanes.proofs.Quads.{lane_cell, grows_turn, ◌▹◌}
use Rattle.layout.specs.declared.Block.{Block}
use Rattle.layout.specs.declared.Regions.{Regions}
use Rattle.sparse.specs.Parts.{plus_row, plus_col}
use Rattle.kernels.specs.Kernels.{Laid, x_in, tmp_in, y_in}
use Rattle.kernels.proofs.Loops.{filled, Three, three_turn}
use Rattle.right_hand_side.specs.RightHandSide.{v_start, over_lane, cost_lane, u_lane, f_lane, cost_at, u_at, f_at, RightF}

-- ---- the right-hand side, by columns

module _ (width : ℕ) (mem : Regions) (atindptr atindices atmap : List ℕ) (vals : List Float) (block : Block) (c mu : List Float) where
  -- e columns are worked out
  abbrev pub UpTo : ℕ → List Float → List Float → Type 0
  UpTo e old new =
      Three width mem.dx mem.dz mem.tmp e mem.n (cost_lane width mem atindptr atindices atmap vals block c old) (over_lane width mem mu old) (u_lane width mem atindptr atindices atmap vals block c mu old) old new

  module _ {old new : List Float} {e : ℕ} (P : Laid width mem old) (g : UpTo e old new) (h : e < mem.n) where
    kept_three : Kept width mem.dx (3 * mem.n) old new
    kept_three = g.kept

    x_apart : Apart mem.x mem.n mem.dx (3 * mem.n)
    x_apart = before (omega arith)

    z_apart : Apart mem.z mem.n mem.dx (3 * mem.n)
    z_apart = before (omega arith)

    y_apart : Apart mem.y mem.m mem.dx (3 * mem.n)
    y_apart = after (omega arith)

    cost_now : {a ce d nul : List Float} → On width nul (λ l. null) → On width a (λ l. plus_col atindptr atindices atmap vals (at (y_in width mem new l)) e (at nul l))
        → On width ce (λ l. cell block.total c e (block.first + l)) → On width d (λ l. at ce l ⊖ at a l) → On width d (λ l. cost_lane width mem atindptr atindices atmap vals block c new l e)
    unfolding cost_at
    cost_now e0 ea ec ed = ed ▹ (λ l b. rw (ea.lane l b, e0.lane l b, ec.lane l b, lane_cell block.total block.first width c mem.n e h l b))

    over_now : {xe q : List Float} → On width xe (cell width new (mem.x + e)) → On width q (λ l. at mu l ⊘ at xe l) → On width q (λ l. over_lane width mem mu old l e)
    over_now ex eq = eq ▹ (λ l b. rw (ex.lane l b, other_cell kept_three x_apart e h l b))

    u_now : {xe ze d q v : List Float} → On width xe (cell width new (mem.x + e)) → On width ze (cell width new (mem.z + e))
        → On width d (λ l. cost_lane width mem atindptr atindices atmap vals block c old l e) → On width q (λ l. over_lane width mem mu old l e) → On width v (λ l. at xe l ⊗ (at d l ⊕ at q l) ⊘ at ze l)
        → On width v (λ l. u_lane width mem atindptr atindices atmap vals block c mu old l e)
    unfolding u_at
    u_now ex ez ed eq ev = ev ▹ (λ l b. rw (ed.lane l b, eq.lane l b, ex.lane l b, other_cell kept_three x_apart e h l b, ez.lane l b, other_cell kept_three z_apart e h l b))

    pub right_turn : {a ce d nul xe ze q v w1 w2 w3 : List Float} → On width nul (λ l. null) → On width a (λ l. plus_col atindptr atindices atmap vals (at (y_in width mem new l)) e (at nul l))
        → On width ce (λ l. cell block.total c e (block.first + l)) → On width xe (cell width new (mem.x + e)) → On width ze (cell width new (mem.z + e))
        → On width d (λ l. at ce l ⊖ at a l) → On width q (λ l. at mu l ⊘ at xe l) → On width v (λ l. at xe l ⊗ (at d l ⊕ at q l) ⊘ at ze l)
        → w1 ≡ put width new (mem.dx + e) d → w2 ≡ put width w1 (mem.dz + e) q → w3 ≡ put width w2 (mem.tmp + e) v
        → UpTo (e + 1) old w3
    right_turn {d = d} {q = q} e0 ea ec ex ez ed eq ev e1 e2 e3 =
        three_turn _ _ _ g P.dz P.tmp h (omega arith) costs overs (u_now ex ez costs overs ev) e1 e2 e3
      where
        costs : On width d (λ l. cost_lane width mem atindptr atindices atmap vals block c old l e)
        costs = cost_now e0 ea ec ed ▹ (λ l b. rw (kept_apart kept_three y_apart l b))

        overs : On width q (λ l. over_lane width mem mu old l e)
        overs = over_now ex eq

-- ---- f, by rows

module _ (width : ℕ) (mem : Regions) (off cols : List ℕ) (vals : List Float) (block : Block) (b : List Float) where
  module _ (mu : List Float) where
    -- i rows are worked out
    abbrev pub RowsUpTo : ℕ → List Float → List Float → Type 0
    RowsUpTo i old new = Grows width mem.rhs i (λ l _. f_lane width mem off cols vals block b mu old l) old new

    pub f_turn : {old new q p a be v nul new' : List Float} {i : ℕ} → Laid width mem old → RowsUpTo i old new → i < mem.m
        → On width nul (λ l. null) → On width q (λ l. v_start mem.s (at mu l) (y_in width mem new l) i)
        → On width p (λ l. plus_row off cols vals (at (x_in width mem new l)) i (at q l)) → On width a (λ l. plus_row off cols vals (at (tmp_in width mem new l)) i (at nul l))
        → On width be (λ l. cell block.total b i (block.first + l)) → On width v (λ l. neg ((at be l ⊖ at p l) ⊖ at a l)) → new' ≡ put width new (mem.rhs + i) v
        → RowsUpTo (i + 1) old new'
    f_turn {old} {new} {q} {p} {a} {be} {v} {nul} {new'} {i} P w h e0 eq ep ea eb ev e1 =
        grows_turn w (omega arith)
        (now ▹ (λ l z. rw (kept_apart w.kept ax l z, kept_apart w.kept au l z, kept_apart w.kept ay l z))) e1
      where
        ax : Apart mem.x mem.n mem.rhs i
        ax = before (omega arith)

        au : Apart mem.tmp mem.n mem.rhs i
        au = before (omega arith)

        ay : Apart mem.y mem.m mem.rhs i
        ay = before (omega arith)

        now : On width v (λ l. f_lane width mem off cols vals block b mu new l i)
        now = unfold f_at in ev ▹ (λ l z. rw (ep.lane l z, eq.lane l z, ea.lane l z, e0.lane l z, eb.lane l z, lane_cell block.total block.first width b mem.m i h l z))

    pub f_end : {old new : List Float} {i : ℕ} → RowsUpTo i old new → i ≡ mem.m → RightF width mem off cols vals block b mu old new
    f_end {old} w z = filled (f_lane width mem off cols vals block b mu old) w z
