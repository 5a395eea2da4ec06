-- The matrix's own lists are its rows. Assumes nothing.
use mathlib.Core.Path.{◌≡◌, ap, ◌∙◌, subst}
use mathlib.Core.List.{List}
use Prim.Native.Nat.{ℕ, zero, suc, ◌+◌, ◌-◌, ◌<◌, ◌≤◌}
use native.Mathlib.Omega.{arith}
use native.Mathlib.Numerals.{add-one}
use native.Mathlib.Decide.{dec_lt}
use lib.ListN.{length, get_or}
use lib.Ieee.{Float}
use Rattle.csr.specs.Pattern.{row}
use Rattle.csr.specs.Csr.{Accepted}
use Rattle.machine.specs.Work.{problem_of}
use Rattle.plan_laws.proofs.Picks.{between}
use Rattle.plan_laws.specs.Meaning.{RowsOf}
use Rattle.base.proofs.Numbers.{below_at}
use Rattle.csr.proofs.RowParts.{row_length, row_at}

module _ (off cols : List ℕ) (m n : ℕ) (ok : Accepted off cols m n) where
  row_below : (i : ℕ) → i < m → (k : ℕ) → get_or off i 0 ≤ k → k < get_or off (i + 1) 0 → get_or cols k 0 < n
  row_below i h k a b =
      let c = k - get_or off i 0 in
      let l : c < get_or off (i + 1) 0 - get_or off i 0 = omega arith in
      let z : get_or off i 0 + c ≡ k = omega arith in
      let e : get_or (row off cols i) c 0 ≡ get_or cols k 0 =
      row_at off cols i c l ∙ ap (λ (x : ℕ). get_or cols x 0) z in
      subst (λ (x : ℕ). x < n) e (below_at n (row off cols i) c (ok.within i h) (omega (arith, row_length off cols i (ok.csr.ends (i + 1) (omega arith)))))

  -- each column stands in one of the rows
  column_below : (i : ℕ) → i ≤ m → (k : ℕ) → k < get_or off i 0 → get_or cols k 0 < n
  column_below zero h k l = absurd (omega (arith, ok.offsets.first))
  column_below (suc i) h k l = go (dec_lt k (get_or off i 0)) (column_below i (omega arith) k)
    where
      go : Dec (k < get_or off i 0) → (k < get_or off i 0 → get_or cols k 0 < n) → get_or cols k 0 < n
      go (yes b) ih = ih b
      go (no b) ih = row_below i h k (omega arith) (omega (arith, ap (λ (x : ℕ). get_or off x 0) (add-one i)))

  pub rows_of : (s : ℕ) (vals : List Float) → length vals ≡ length cols → RowsOf (problem_of m n s off cols vals)
  unfolding row
  rows_of s vals e = record {
    ranges = record {
      csr = record {
        rows = omega (arith, ok.csr.offsets);
        rises = ok.csr.order;
        ends = λ i h. ok.csr.ends (i + 1) (omega arith);
        below = λ k h. column_below m (omega arith) k (omega (arith, ok.offsets.last));
      };
      sizes = e;
    };
    rising = λ i h. between n (row off cols i) (ok.csr.rising i h) (ok.within i h);
  }
