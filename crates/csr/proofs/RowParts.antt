-- Laws of the rows of a matrix. Assumes nothing.
use mathlib.Core.Path.{◌≡◌, sym, ap, ap₂, ◌∙◌, subst}
use mathlib.Core.List.{List}
use Prim.Native.Nat.{ℕ, zero, suc, ◌+◌, ◌-◌, ◌<◌, ◌≤◌}
use native.Mathlib.Omega.{arith}
use lib.ListN.{length, get_or}
use Rattle.base.specs.Numbers.{cut, Below}
use Rattle.base.specs.Sums.{sum}
use Rattle.base.proofs.Numbers.{part_le, cut_length, cut_at, below_at}
use Rattle.csr.specs.Csr.{Csr, RowOf}
use Rattle.csr.specs.Pattern.{row}

-- the part that the code lends is the row
pub row_is : (off cols : List ℕ) (i f t : ℕ) → f ≡ get_or off i 0 → t ≡ get_or off (i + 1) 0 → cut f t cols ≡ row off cols i
unfolding row
row_is off cols i f t e g = ap₂ (λ (x y : ℕ). cut x y cols) e g

pub row_length : (off cols : List ℕ) (i : ℕ) → get_or off (i + 1) 0 ≤ length cols → length (row off cols i) ≡ get_or off (i + 1) 0 - get_or off i 0
unfolding row
row_length off cols i h = cut_length (get_or off i 0) (get_or off (i + 1) 0) cols h

pub row_at : (off cols : List ℕ) (i q : ℕ) → q < get_or off (i + 1) 0 - get_or off i 0 → get_or (row off cols i) q 0 ≡ get_or cols (get_or off i 0 + q) 0
unfolding row
row_at off cols i q h = cut_at (get_or off i 0) (get_or off (i + 1) 0) cols q 0 h

-- a row is no longer than the columns of all rows
pub row_le : (off cols : List ℕ) (i : ℕ) → length (row off cols i) ≤ length cols
unfolding row
row_le off cols i = part_le (get_or off (i + 1) 0 - get_or off i 0) (get_or off i 0) cols

-- the first k rows together are no longer than where row k starts
pub rows_le : (off cols : List ℕ) (m k : ℕ) → Csr off cols m → k ≤ m → sum k (λ i. length (row off cols i)) ≤ get_or off k 0
unfolding sum
rows_le off cols m zero g l = omega arith
rows_le off cols m (suc k) g l =
    let z : suc k ≡ k + 1 = omega arith in
    rw z (omega (arith, rows_le off cols m k g (omega arith), row_length off cols k (g.ends (k + 1) (omega arith)), g.order k (omega arith)))

-- ---- row i, whatever the others are
pub row_of : (off cols : List ℕ) (m i n : ℕ) → Csr off cols m → i < m → Below n (row off cols i) → RowOf off cols i n
row_of off cols m i n g l b = record {
  part = record { here = omega (arith, g.offsets); rises = g.order i l; ends = g.ends (i + 1) (omega arith) };
  rising = g.rising i l;
  within = b;
}

module _ (off cols : List ℕ) (i n : ℕ) (ok : RowOf off cols i n) where
  pub row_long : length (row off cols i) ≡ get_or off (i + 1) 0 - get_or off i 0
  row_long = row_length off cols i ok.part.ends

  -- entry k of the columns is one of row i
  module _ (k e : ℕ) (lo : get_or off i 0 ≤ k) (hk : k < get_or off (i + 1) 0) (he : e ≡ get_or cols k 0) where
    pub in_row_lem : k - get_or off i 0 < length (row off cols i)
    in_row_lem = omega (arith, row_long)

    pub entry_at : e ≡ get_or (row off cols i) (k - get_or off i 0) 0
    entry_at =
        let z : get_or off i 0 + (k - get_or off i 0) ≡ k = omega arith in
        he ∙ sym (row_at off cols i (k - get_or off i 0) (omega arith) ∙ ap (λ (y : ℕ). get_or cols y 0) z)

    pub entry_below : e < n
    entry_below = subst (λ (y : ℕ). y < n) (sym entry_at) (below_at n (row off cols i) (k - get_or off i 0) ok.within in_row_lem)
