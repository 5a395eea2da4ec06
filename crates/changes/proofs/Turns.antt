-- A turn of each loop: the entry that it works out is the definition's, of the memory as it was before the loop. Assumes nothing.
use mathlib.Core.Path.{◌≡◌, sym, ap, ◌∙◌}
use mathlib.Core.List.{List}
use Prim.Native.Nat.{ℕ, ◌+◌, ◌*◌, ◌<◌}
use native.Mathlib.Omega.{arith}
use lib.Ieee.{Float, neg}
use Rattle.lanes.specs.Lists.{at, vec}
use Rattle.lanes.specs.Arithmetic.{◌⊕◌, ◌⊖◌, ◌⊗◌, ◌⊘◌, null, larger}
use Rattle.lanes.specs.Lanes.{cell, put, On}
use Rattle.lanes.specs.Region.{Kept, Fills, Grows, Apart, before, after}
use Rattle.lanes.proofs.Regions.{grows_none, kept_apart, apart_front, other_cell}
use Rattle.lanes.proofs.Quads.{grows_turn, ◌▹◌}
use Rattle.layout.specs.declared.Regions.{Regions}
use Rattle.machine.specs.Machine.{complement, largest_ratio}
use Rattle.sparse.specs.Parts.{plus_col}
use Rattle.kernels.specs.Kernels.{Laid, x_in, z_in, dx_in, dz_in, dy_in, w_in, dw_in, slack_y, slack_dy}
use Rattle.kernels.proofs.Loops.{filled, ratio_none, ratio_turn, ratio_same, whole_lanes, Two, two_none, two_turn, two_kept, first_cell, second_cell}
use Rattle.changes.specs.Changes.{dx_lane, dx_at, ColumnsChanged, SlackChanged}

-- ---- dx and dz, in place

module _ (width : ℕ) (mem : Regions) (atindptr atindices atmap : List ℕ) (vals mu : List Float) where
  abbrev dxs : List Float → ℕ → List Float
  dxs ws l = vec mem.n (dx_lane width mem atindptr atindices atmap vals ws l)

  abbrev dz_lane : List Float → ℕ → ℕ → Float
  dz_lane ws l e = (at mu l ⊖ at (z_in width mem ws l) e ⊗ at (dxs ws l) e) ⊘ at (x_in width mem ws l) e ⊖ at (z_in width mem ws l) e

  abbrev dzs : List Float → ℕ → List Float
  dzs ws l = vec mem.n (dz_lane ws l)

  -- e columns are worked out
  pub record Columns (e : ℕ) (old new acc : List Float) : Type 0 where
    pub written : Two width mem.dx mem.dz e (dx_lane width mem atindptr atindices atmap vals old) (dz_lane old) old new
    pub ratio : On width acc (λ l. largest_ratio e (x_in width mem old l) (dxs old l) (z_in width mem old l) (dzs old l))

  pub columns_none : {ws acc : List Float} → On width acc (λ l. null) → Columns 0 ws ws acc
  columns_none {ws} e = record {
    written = two_none width mem.dx mem.dz (dx_lane width mem atindptr atindices atmap vals ws) (dz_lane ws) ws;
    ratio = ratio_none (x_in width mem ws) (dxs ws) (z_in width mem ws) (dzs ws) e;
  }

  module _ {old new acc : List Float} {e : ℕ} (P : Laid width mem old) (w : Columns e old new acc) where
    x_clear : Apart mem.x mem.n mem.dx (2 * mem.n)
    x_clear = before (omega arith)

    z_clear : Apart mem.z mem.n mem.dx (2 * mem.n)
    z_clear = before (omega arith)

    dy_clear : Apart mem.dy mem.m mem.dx (2 * mem.n)
    dy_clear = after (omega arith)

    module _ (h : e < mem.n) where
      kept_both : Kept width mem.dx (2 * mem.n) old new
      kept_both = two_kept w.written P.dz (omega arith)

      dx_now : {da d q xe ze v nul : List Float} → On width nul (λ l. null) → On width da (λ l. plus_col atindptr atindices atmap vals (at (dy_in width mem new l)) e (at nul l))
          → On width d (cell width new (mem.dx + e)) → On width q (cell width new (mem.dz + e)) → On width xe (λ l. at (x_in width mem old l) e) → On width ze (λ l. at (z_in width mem old l) e)
          → On width v (λ l. (at d l ⊖ at da l ⊕ at q l) ⊗ at xe l ⊘ at ze l)
          → On width v (λ l. dx_lane width mem atindptr atindices atmap vals old l e)
      unfolding dx_at
      dx_now {da} {nul = nul} e0 ea ed eq ex ez ev =
          ev ▹
          (λ l b. rw (col.lane l b, ed.lane l b, first_cell w.written P.dz h l b, eq.lane l b, second_cell w.written P.dz h l b, ex.lane l b, ez.lane l b))
        where
          col : On width da (λ l. plus_col atindptr atindices atmap vals (at (dy_in width mem old l)) e null)
          col = ea ▹ (λ l b. rw (e0.lane l b, kept_apart kept_both dy_clear l b))

      pub columns_turn : {w1 w2 da d q xe ze dxe dze r nul : List Float} → On width nul (λ l. null) → On width da (λ l. plus_col atindptr atindices atmap vals (at (dy_in width mem new l)) e (at nul l))
          → On width d (cell width new (mem.dx + e)) → On width q (cell width new (mem.dz + e)) → On width xe (cell width new (mem.x + e)) → On width ze (cell width new (mem.z + e))
          → On width dxe (λ l. (at d l ⊖ at da l ⊕ at q l) ⊗ at xe l ⊘ at ze l)
          → On width dze (λ l. (at mu l ⊖ at ze l ⊗ at dxe l) ⊘ at xe l ⊖ at ze l)
          → On width r (λ l. larger (larger (at acc l) (neg (at dxe l) ⊘ at xe l)) (neg (at dze l) ⊘ at ze l))
          → w1 ≡ put width new (mem.dx + e) dxe → w2 ≡ put width w1 (mem.dz + e) dze
          → Columns (e + 1) old w2 r
      columns_turn {xe = xe} {ze = ze} {dxe = dxe} {dze = dze} e0 ea ed eq ex ez edx edz er e1 e2 =
          record {
            written = two_turn w.written P.dz h (omega arith) dxe_is dze_is e1 e2;
            ratio = ratio_turn (x_in width mem old) (dxs old) (z_in width mem old) (dzs old) e w.ratio xe_is (whole_lanes (dx_lane width mem atindptr atindices atmap vals old) h dxe_is) ze_is (whole_lanes (dz_lane old) h dze_is) er;
          }
        where
          xe_is : On width xe (λ l. at (x_in width mem old l) e)
          xe_is = ex ▹ other_cell kept_both x_clear e h

          ze_is : On width ze (λ l. at (z_in width mem old l) e)
          ze_is = ez ▹ other_cell kept_both z_clear e h

          dxe_is : On width dxe (λ l. dx_lane width mem atindptr atindices atmap vals old l e)
          dxe_is = dx_now e0 ea ed eq xe_is ze_is edx

          dze_is : On width dze (λ l. dz_lane old l e)
          dze_is = edz ▹ (λ l b. rw (ze_is.lane l b, (whole_lanes (dx_lane width mem atindptr atindices atmap vals old) h dxe_is).lane l b, xe_is.lane l b))

    module _ (end : e ≡ mem.n) where
      all : Columns mem.n old new acc
      all = rw end at w

      frame : Kept width mem.dx (2 * mem.n) old new
      frame = two_kept all.written P.dz (omega arith)

      pub columns_end : ColumnsChanged width mem atindptr atindices atmap vals mu old new acc
      unfolding complement
      columns_end = (
        record {
          kept = frame;
          first = all.written.first.within;
          second = λ l b. all.written.second.within l b ∙ ap (complement mem.n (at mu l) (z_in width mem old l) (x_in width mem old l)) (sym (all.written.first.within l b));
        },
        ratio_same mem.n (x_in width mem old) (dxs old) (z_in width mem old) (dzs old) (x_in width mem new) (dx_in width mem new) (z_in width mem new) (dz_in width mem new) all.ratio
            (kept_apart frame x_clear) all.written.first.within (kept_apart frame z_clear) all.written.second.within,
      )

-- ---- dw

module _ (width : ℕ) (mem : Regions) (mu : List Float) where
  abbrev dw_lane : List Float → ℕ → ℕ → Float
  dw_lane ws l i = (at mu l ⊖ at (w_in width mem ws l) i ⊗ at (slack_dy width mem ws l) i) ⊘ at (slack_y width mem ws l) i ⊖ at (w_in width mem ws l) i

  abbrev dws : List Float → ℕ → List Float
  dws ws l = vec mem.s (dw_lane ws l)

  -- i slack rows are worked out
  pub record Slacks (i : ℕ) (old new acc : List Float) : Type 0 where
    pub written : Grows width mem.dw i (λ l _. dw_lane old l) old new
    pub ratio : On width acc (λ l. largest_ratio i (w_in width mem old l) (dws old l) (slack_y width mem old l) (slack_dy width mem old l))

  pub slacks_none : {ws acc : List Float} → On width acc (λ l. null) → Slacks 0 ws ws acc
  slacks_none {ws} e = record {
    written = grows_none width mem.dw (λ l _. dw_lane ws l) ws;
    ratio = ratio_none (w_in width mem ws) (dws ws) (slack_y width mem ws) (slack_dy width mem ws) e;
  }

  module _ {old new acc : List Float} {i : ℕ} (P : Laid width mem old) (g : Slacks i old new acc) where
    slack_w : Apart mem.w mem.s mem.dw mem.s
    slack_w = before (omega arith)

    slack_y_lem : Apart mem.y mem.s mem.dw mem.s
    slack_y_lem = before (omega arith)

    slack_dy_lem : Apart mem.dy mem.s mem.dw mem.s
    slack_dy_lem = before (omega arith)

    pub slacks_turn : {new' wi di yi v r : List Float} → i < mem.s
        → On width wi (cell width new (mem.w + i)) → On width di (cell width new (mem.dy + i)) → On width yi (cell width new (mem.y + i))
        → On width v (λ l. (at mu l ⊖ at wi l ⊗ at di l) ⊘ at yi l ⊖ at wi l)
        → On width r (λ l. larger (larger (at acc l) (neg (at v l) ⊘ at wi l)) (neg (at di l) ⊘ at yi l))
        → new' ≡ put width new (mem.dw + i) v
        → Slacks (i + 1) old new' r
    slacks_turn {wi = wi} {di = di} {yi = yi} {v = v} h ew ed ey ev er ep =
        record {
          written = grows_turn g.written (omega arith) dw_is ep;
          ratio = ratio_turn (w_in width mem old) (dws old) (slack_y width mem old) (slack_dy width mem old) i g.ratio w_is (whole_lanes (dw_lane old) h dw_is) y_is dy_is er;
        }
      where
        w_is : On width wi (λ l. at (w_in width mem old l) i)
        w_is = ew ▹ other_cell g.written.kept (apart_front slack_w (omega arith)) i h

        dy_is : On width di (λ l. at (slack_dy width mem old l) i)
        dy_is = ed ▹ other_cell g.written.kept (apart_front slack_dy_lem (omega arith)) i h

        y_is : On width yi (λ l. at (slack_y width mem old l) i)
        y_is = ey ▹ other_cell g.written.kept (apart_front slack_y_lem (omega arith)) i h

        dw_is : On width v (λ l. dw_lane old l i)
        dw_is = ev ▹ (λ l b. rw (w_is.lane l b, dy_is.lane l b, y_is.lane l b))

    module _ (end : i ≡ mem.s) where
      filled_dw : Fills width mem.dw mem.s (λ l. complement mem.s (at mu l) (w_in width mem old l) (slack_y width mem old l) (slack_dy width mem old l)) old new
      unfolding complement
      filled_dw = filled (dw_lane old) g.written end

      pub slacks_end : SlackChanged width mem mu old new acc
      unfolding complement
      slacks_end = (
        filled_dw,
        ratio_same mem.s (w_in width mem old) (dws old) (slack_y width mem old) (slack_dy width mem old) (w_in width mem new) (dw_in width mem new) (slack_y width mem new) (slack_dy width mem new) (rw end at g.ratio)
            (kept_apart filled_dw.kept slack_w) filled_dw.within (kept_apart filled_dw.kept slack_y_lem) (kept_apart filled_dw.kept slack_dy_lem),
      )
