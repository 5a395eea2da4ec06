-- The costliest pattern of m rows. Assumes nothing.
use mathlib.Core.Path.{◌≡◌, refl, ap, ap₂, ◌∙◌}
use mathlib.Core.Bool.{Bool, true, ◌&&◌}
use mathlib.Core.List.{[], ◌∷◌}
use Prim.Native.Nat.{ℕ, zero, suc, ◌+◌, ◌-◌, ◌*◌, ◌<◌, ◌≤◌}
use native.Mathlib.Omega.{arith}
use lib.ListN.{get_or, take, drop, replicate}
use Rattle.csr.specs.Pattern.{row, neighbours, shares, has}
use Rattle.csr.proofs.Rule.{stored_rule}
use Rattle.base.specs.Sums.{sum, one}
use Rattle.base.proofs.Sums.{sum_ext, sum_ones, triangle}
use Rattle.csr.specs.Counts.{is_stored, count_e, count_d}
use Rattle.lists.proofs.Few.{triples, stored_few, products_few}
use mathlib.Core.Logic.{inl, inr}
use Rattle.sizes.specs.Costliest.{up_from, one_offsets, one_columns, full_e, full_d, Costliest}

-- ---- one column shared by all
up_at : (n a i : ℕ) → i < n → get_or (up_from a n) i 0 ≡ a + i
unfolding up_from
up_at zero a i l = absurd (omega arith)
up_at (suc n) a zero l = omega arith
up_at (suc n) a (suc i) l = up_at n (suc a) i (omega arith) ∙ omega arith

drop_zeros : (i m : ℕ) → i < m → take 1 (drop i (replicate {A = ℕ} m 0)) ≡ 0 ∷ []
drop_zeros i zero l = absurd (omega arith)
drop_zeros zero (suc m) l = refl
drop_zeros (suc i) (suc m) l = drop_zeros i m (omega arith)

module _ (m : ℕ) where
  one_row : (i : ℕ) → i < m → row (one_offsets m) (one_columns m) i ≡ 0 ∷ []
  unfolding row one_offsets one_columns
  one_row i l =
      let p : get_or (up_from 0 (suc m)) i 0 ≡ i = up_at (suc m) 0 i (omega arith) ∙ omega arith in
      let q : get_or (up_from 0 (suc m)) (i + 1) 0 ≡ i + 1 = up_at (suc m) 0 (i + 1) (omega arith) ∙ omega arith in
      let d : i + 1 - i ≡ 1 = omega arith in
      ap₂ (λ (x y : ℕ). take (y - x) (drop x (replicate m 0))) p q
      ∙ ap (λ (k : ℕ). take k (drop i (replicate m 0))) d
      ∙ drop_zeros i m l

  one_near : (i j : ℕ) → i < m → j < m → neighbours (one_offsets m) (one_columns m) i j ≡ true
  unfolding neighbours shares has
  one_near i j l u = ap₂ shares (one_row i l) (one_row j u)

  one_stored : (i j : ℕ) → i < m → j ≤ i → is_stored (one_offsets m) (one_columns m) i j ≡ true
  unfolding is_stored
  one_stored i j l u = (stored_rule (neighbours (one_offsets m) (one_columns m)) i j u).1 (inr (inl (one_near i j l (omega arith))))

  full_e_lem : full_e m ≡ sum m suc
  unfolding full_e count_e
  full_e_lem =
      sum_ext m (λ i. sum (suc i) (λ j. one (is_stored (one_offsets m) (one_columns m) i j))) suc
      (λ i l. sum_ext (suc i) (λ j. one (is_stored (one_offsets m) (one_columns m) i j)) (λ j. 1) (λ j u. ap one (one_stored i j l (omega arith))) ∙ sum_ones (suc i))

  full_d_lem : full_d m ≡ triples m
  unfolding full_d count_d
  full_d_lem =
      sum_ext m (λ i. sum (suc i) (λ j. sum j (λ k. one (is_stored (one_offsets m) (one_columns m) i k && is_stored (one_offsets m) (one_columns m) j k)))) (λ i. sum (suc i) (λ j. j))
      (λ i l. sum_ext (suc i) (λ j. sum j (λ k. one (is_stored (one_offsets m) (one_columns m) i k && is_stored (one_offsets m) (one_columns m) j k))) (λ j. j)
      (λ j u. sum_ext j (λ k. one (is_stored (one_offsets m) (one_columns m) i k && is_stored (one_offsets m) (one_columns m) j k)) (λ k. 1)
      (λ k v. ap₂ (λ (s t : Bool). one (s && t)) (one_stored i k l (omega arith)) (one_stored j k (omega arith) (omega arith))) ∙ sum_ones j))

-- ---- the formulas
all_e : (m : ℕ) → 2 * sum m suc ≡ m * (m + 1)
unfolding sum
all_e zero = refl
all_e (suc m) = omega (arith, all_e m)

all_d : (m : ℕ) → 6 * triples m + m ≡ m * m * m
unfolding sum
all_d zero = refl
all_d (suc m) = omega (arith, all_d m, triangle (suc m))

pub cube : (m : ℕ) → (m - 1) * m * (m + 1) + m ≡ m * m * m
cube zero = refl
cube (suc m) = let z : suc m - 1 ≡ m = omega arith in rw z (omega arith)

-- THE COSTLIEST PATTERN
pub costliest : (m : ℕ) → Costliest m
costliest m = record {
  entries = omega (arith, full_e_lem m, all_e m);
  products = omega (arith, full_d_lem m, all_d m, cube m);
  most_e = λ off cols. omega (arith, full_e_lem m, stored_few off cols m);
  most_d = λ off cols. omega (arith, full_d_lem m, products_few off cols m);
}
