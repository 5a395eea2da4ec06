-- A part between two offsets, as a sum reads it; and sums over a region by its list. Assumes nothing.
use mathlib.Core.Path.{◌≡◌, refl, ap}
use mathlib.Core.List.{List}
use Prim.Native.Nat.{ℕ, ◌+◌, ◌-◌, ◌<◌, ◌≤◌}
use native.Mathlib.Omega.{arith}
use lib.ListN.{length, get_or}
use lib.Ieee.{Float, binary64, add, sub}
use Rattle.lanes.specs.Lists.{at, fold}
use Rattle.lanes.specs.Arithmetic.{◌⊗◌}
use Rattle.lanes.specs.Lanes.{cell, On}
use Rattle.lanes.specs.Region.{reg}
use Rattle.lanes.proofs.Lists.{fold_same}
use Rattle.lanes.proofs.Quads.{reg_cell, ◌▹◌}
use Rattle.base.specs.Numbers.{span, Part}
use Rattle.base.proofs.Numbers.{cut_length, cut_at}
use Rattle.sparse.specs.Sparse.{plus_all, less_all, Names, Fits, Ranges}
use Rattle.sparse.specs.Parts.{plus_row, less_row, plus_col, less_col, Rows, Cols}

-- ---- what a sum reads

module _ {off : List ℕ} {i size : ℕ} (P : Part off i size) where
  span_length {ℓ} : {A : Type ℓ} (xs : List A) → length xs ≡ size → length (span off xs i) ≡ get_or off (i + 1) 0 - get_or off i 0
  span_length xs e = cut_length (get_or off i 0) (get_or off (i + 1) 0) xs (omega (arith, P.ends))

  span_names : {n : ℕ} (xs : List ℕ) → length xs ≡ size → Names n xs → Names n (span off xs i)
  span_names {n} xs e p k b =
      let b' : k < get_or off (i + 1) 0 - get_or off i 0 = omega (arith, span_length xs e) in
      rw (cut_at (get_or off i 0) (get_or off (i + 1) 0) xs k 0 b') (p (get_or off i 0 + k) (omega (arith, P.ends)))

-- ---- what the matrix's ranges give a row and a column

pub fits_in : {n size : ℕ} (o : ℕ) (es : List ℕ) → Names n es → o + n ≤ size → Fits size o es
fits_in o es b h k l = let q = b k l in omega arith

part_of : {m n i : ℕ} {off cols : List ℕ} → Ranges m n off cols → i < m → Part off i (length cols)
part_of {i = i} R h = record { here = omega (arith, R.rows); rises = R.rises i h; ends = R.ends i h }

-- ---- a region's entries, and its list

all_same : (op : Float → Float → Float) (es : List ℕ) (a u u' : ℕ → Float) (v : Float) → ((k : ℕ) → k < length es → u (get_or es k 0) ≡ u' (get_or es k 0))
    → fold (length es) (λ k r. op r (a k ⊗ u (get_or es k 0))) v ≡ fold (length es) (λ k r. op r (a k ⊗ u' (get_or es k 0))) v
all_same op es a u u' v e = fold_same (length es) (λ k r. op r (a k ⊗ u (get_or es k 0))) (λ k r. op r (a k ⊗ u' (get_or es k 0))) v (λ k b r. ap (λ (t : Float). op r (a k ⊗ t)) (e k b))

module _ {m n i : ℕ} {off cols : List ℕ} {vals : List Float} (R : Rows m n off cols vals) (h : i < m) where
  part_row : Part off i (length cols)
  part_row = part_of R.csr h

  module _ (w : ℕ) (ws : List Float) (x : ℕ) (v : List Float) {r : List Float} where
    pub row_plus_reg : On w r (λ l. plus_row off cols vals (λ e. cell w ws (x + e) l) i (at v l)) → On w r (λ l. plus_row off cols vals (at (reg w ws x n l)) i (at v l))
    unfolding plus_row plus_all
    row_plus_reg e = e ▹ (λ l z. all_same (add binary64) (span off cols i) (at (span off vals i)) (λ e. cell w ws (x + e) l) (at (reg w ws x n l)) (at v l) (λ k b. reg_cell w ws x n (get_or (span off cols i) k 0) (span_names part_row cols refl R.csr.below k b) l z))

    pub row_less_reg : On w r (λ l. less_row off cols vals (λ e. cell w ws (x + e) l) i (at v l)) → On w r (λ l. less_row off cols vals (at (reg w ws x n l)) i (at v l))
    unfolding less_row less_all
    row_less_reg e = e ▹ (λ l z. all_same (sub binary64) (span off cols i) (at (span off vals i)) (λ e. cell w ws (x + e) l) (at (reg w ws x n l)) (at v l) (λ k b. reg_cell w ws x n (get_or (span off cols i) k 0) (span_names part_row cols refl R.csr.below k b) l z))

module _ {n m e : ℕ} {atindptr atindices atmap : List ℕ} {vals : List Float} (C : Cols n m atindptr atindices atmap vals) (h : e < n) where
  part_col : Part atindptr e (length atindices)
  part_col = part_of C.csr h

  abbrev rows : List ℕ
  rows = span atindptr atindices e

  abbrev numbers : ℕ → Float
  numbers k = at vals (get_or (span atindptr atmap e) k 0)

  module _ (w : ℕ) (ws : List Float) (y : ℕ) (v : List Float) {r : List Float} where
    pub col_plus_reg : On w r (λ l. plus_col atindptr atindices atmap vals (λ i. cell w ws (y + i) l) e (at v l)) → On w r (λ l. plus_col atindptr atindices atmap vals (at (reg w ws y m l)) e (at v l))
    unfolding plus_col plus_all
    col_plus_reg g = g ▹ (λ l z. all_same (add binary64) rows numbers (λ i. cell w ws (y + i) l) (at (reg w ws y m l)) (at v l) (λ k b. reg_cell w ws y m (get_or rows k 0) (span_names part_col atindices refl C.csr.below k b) l z))

    pub col_less_reg : On w r (λ l. less_col atindptr atindices atmap vals (λ i. cell w ws (y + i) l) e (at v l)) → On w r (λ l. less_col atindptr atindices atmap vals (at (reg w ws y m l)) e (at v l))
    unfolding less_col less_all
    col_less_reg g = g ▹ (λ l z. all_same (sub binary64) rows numbers (λ i. cell w ws (y + i) l) (at (reg w ws y m l)) (at v l) (λ k b. reg_cell w ws y m (get_or rows k 0) (span_names part_col atindices refl C.csr.below k b) l z))
