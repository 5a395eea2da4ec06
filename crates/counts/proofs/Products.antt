-- S and D by columns. Assumes nothing.
use mathlib.Core.Path.{◌≡◌, refl, sym, ap, ap₂, ◌∙◌}
use mathlib.Core.Bool.{Bool, true, false, ◌&&◌, cond}
use mathlib.Core.List.{List, [], ◌∷◌, ◌++◌}
use Prim.Native.Nat.{ℕ, suc, ◌+◌, ◌<◌, ◌≤◌}
use native.Mathlib.Omega.{arith}
use lib.Dec.{ltb}
use borrow.Author.Tests.{lt-ltb, le-ltb}
use Rattle.csr.specs.Pattern.{has, row}
use Rattle.base.specs.Sums.{sum, one}
use Rattle.base.proofs.Bools.{and_false}
use Rattle.base.proofs.Sums.{sum_ext, sum_zero, sum_cut, sum_plus, sum_swap, sum_if, count_le}
use Rattle.csr.specs.Counts.{common, is_stored, count_e, count_s, count_d}
use Rattle.counts.specs.Climb.{entries_in}
use Rattle.counts.specs.Rows.{rows_with}

-- ---- S: the rows that share each column
unfoldable pub total : List ℕ → (ℕ → ℕ) → ℕ
total [] f = 0
total (x ∷ xs) f = f x + total xs f

pub total_last : (xs : List ℕ) (c : ℕ) (f : ℕ → ℕ) → total (xs ++ (c ∷ [])) f ≡ total xs f + f c
unfolding total
total_last [] c f = omega arith
total_last (x ∷ xs) c f = omega (arith, total_last xs c f)

pub total_none : (f : ℕ → ℕ) → total [] f ≡ 0
unfolding total
total_none f = refl

shared_total : (xs : List ℕ) (n : ℕ) (r : ℕ → List ℕ) → sum n (λ j. common xs (r j)) ≡ total xs (λ c. sum n (λ j. one (has (r j) c)))
unfolding total common
shared_total [] n r = sum_zero n (λ j. 0) (λ k l. refl)
shared_total (x ∷ xs) n r = sum_plus n (λ j. one (has (r j) x)) (λ j. common xs (r j)) ∙ ap (λ (y : ℕ). sum n (λ j. one (has (r j) x)) + y) (shared_total xs n r)

module _ (off cols : List ℕ) where
  pub rows_few : (i c : ℕ) → rows_with off cols i c ≤ i
  unfolding rows_with
  rows_few i c = count_le i (λ r. has (row off cols r) c)

  pub rows_zero : (c : ℕ) → rows_with off cols 0 c ≡ 0
  unfolding rows_with sum
  rows_zero c = refl

  pub rows_next : (i c : ℕ) → rows_with off cols (suc i) c ≡ rows_with off cols i c + one (has (row off cols i) c)
  unfolding rows_with sum
  rows_next i c = refl

  pub S-next : (i : ℕ) → count_s off cols (suc i) ≡ count_s off cols i + total (row off cols i) (rows_with off cols (suc i))
  unfolding count_s sum rows_with
  S-next i = ap (λ (x : ℕ). count_s off cols i + x) (shared_total (row off cols i) (suc i) (λ j. row off cols j))

  pub S-zero : count_s off cols 0 ≡ 0
  unfolding count_s sum
  S-zero = refl

  pub E-next : (i : ℕ) → count_e off cols (suc i) ≡ count_e off cols i + (sum i (λ j. one (is_stored off cols i j)) + one (is_stored off cols i i))
  unfolding count_e sum
  E-next i = refl

  pub E-zero : count_e off cols 0 ≡ 0
  unfolding count_e sum
  E-zero = refl

-- ---- D: the entries of each column
module _ (st : ℕ → ℕ → Bool) where
  pub entries_next : (i k : ℕ) → entries_in st (suc i) k ≡ entries_in st i k + one (ltb k i && st i k)
  unfolding entries_in sum
  entries_next i k = refl

  pub entries_zero : (k : ℕ) → entries_in st 0 k ≡ 0
  unfolding entries_in sum
  entries_zero k = refl

  widen : (i j : ℕ) → j ≤ i → sum j (λ k. one (st i k && st j k)) ≡ sum i (λ k. one (st i k && (ltb k j && st j k)))
  widen i j h =
      sym (sum_cut i j (λ k. one (st i k && (ltb k j && st j k))) (λ k. one (st i k && st j k)) h
      (λ k l. ap (λ (b : Bool). one (st i k && (b && st j k))) (lt-ltb k j l))
      (λ k l u. ap (λ (b : Bool). one (st i k && (b && st j k))) (le-ltb k j l) ∙ ap one (and_false (st i k))))

  products_row : (i : ℕ) → sum (suc i) (λ j. sum j (λ k. one (st i k && st j k))) ≡ sum i (λ k. cond (st i k) (entries_in st (suc i) k) 0)
  unfolding entries_in
  products_row i =
      sum_ext (suc i) (λ j. sum j (λ k. one (st i k && st j k))) (λ j. sum i (λ k. one (st i k && (ltb k j && st j k)))) (λ j l. widen i j (omega arith))
      ∙ sum_swap (suc i) i (λ k j. one (st i k && (ltb k j && st j k)))
      ∙ sum_ext i (λ k. sum (suc i) (λ j. one (st i k && (ltb k j && st j k)))) (λ k. cond (st i k) (sum (suc i) (λ j. one (ltb k j && st j k))) 0)
      (λ k l. sum_if (st i k) (suc i) (λ j. ltb k j && st j k))

  weight : (i k : ℕ) → k < i → (b : Bool) → st i k ≡ b → cond b (entries_in st (suc i) k) 0 ≡ cond b (entries_in st i k + 1) 0
  weight i k l true e = entries_next i k ∙ ap₂ (λ (s t : Bool). entries_in st i k + one (s && t)) (lt-ltb k i l) e
  weight i k l false e = refl

  pub products_met : (i : ℕ) → sum (suc i) (λ j. sum j (λ k. one (st i k && st j k))) ≡ sum i (λ k. cond (st i k) (entries_in st i k + 1) 0)
  products_met i =
      products_row i
      ∙ sum_ext i (λ k. cond (st i k) (entries_in st (suc i) k) 0) (λ k. cond (st i k) (entries_in st i k + 1) 0) (λ k l. weight i k l (st i k) refl)

module _ (off cols : List ℕ) where
  pub D-next : (i : ℕ) → count_d off cols (suc i) ≡ count_d off cols i + sum i (λ k. cond (is_stored off cols i k) (entries_in (is_stored off cols) i k + 1) 0)
  unfolding count_d sum
  D-next i = ap (λ (x : ℕ). count_d off cols i + x) (products_met (is_stored off cols) i)

  pub D-zero : count_d off cols 0 ≡ 0
  unfolding count_d sum
  D-zero = refl
