-- From the whole root of N and what is left to the float: the root of N * 4 ^ h of the smallest values, and its bit pattern. Assumes nothing.
use mathlib.Core.Path.{◌≡◌, refl, sym, ap, ◌∙◌, subst}
use mathlib.Core.Logic.{◌⊎◌, inl, inr}
use Prim.Native.Nat.{ℕ, zero, suc, ◌+◌, ◌-◌, ◌*◌, ◌/◌, ◌^◌, ◌≤◌, ◌<◌, compare}
use native.Mathlib.Nat.{le_trans, le_of_eq, lt_of_lt_of_le, lt_of_le_of_lt, le_antisymm, le_of_suc-le-suc, eq-or-lt_of_le, zero-mul, mul-pos, mul_assoc, mul-le-mul_right, mul-lt-mul_of_pos_right, mul-div_cancel, div-eq_of_lt-le, pow-suc}
use native.Mathlib.Omega.{arith}
use mathlib.Core.Bool.{true, false, true≢false}
use lib.Dec.{lit<, lit≤}
use lib.Pow.{pow-add, pow_pos, pow_mono, pow-lt}
use lib.Ieee.{Float, nan, inf, fin, binary64, up, down, size, nearest, units, to_bits, of_bits}
use lib.Ieee.Digits.{size-lt, size-le}
use lib.Ieee.Fits.{down_pos, nearest-le}
use lib.Ieee.Nearest.{nearest-ge}
use lib.Ieee.Exact.{HasValue, units_val}
use Rattle.root.specs.Root.{whole_root, root_units, root, root_bits}
use Rattle.root.specs.Steps.{Halved, Digits, rounded_root, Together}
use Rattle.root.proofs.Squares.{sq_next, sq_lt_back, sq_scaled, pow_lt_back, no_zero}
use Rattle.root.proofs.Whole.{whole_root_lem}
use Rattle.root.proofs.Compares.{compare_scaled}

pub size_exact : (a n : ℕ) → 2 ^ a ≤ n → n < 2 ^ suc a → size n ≡ suc a
size_exact a n lo hi = le_antisymm (size-le n (suc a) hi) (pow_lt_back a (size n) (lt_of_le_of_lt lo (size-lt n)))

regroup : (p : ℕ) → 2 ^ 52 * p * 2 ≡ 2 ^ 53 * p
regroup p = omega arith

-- ---- the root in units

abbrev pub made : (q n k : ℕ) → Float
made q n k = units binary64 false (nearest q (compare (4 * n) ((2 * q + 1) * 2 ^ k * ((2 * q + 1) * 2 ^ k)))) k

pub made_is : (n : ℕ) → root_units binary64 n ≡ made (whole_root n / 2 ^ (size (whole_root n) - 53)) n (size (whole_root n) - 53)
unfolding root_units
made_is n = refl

module _ (n N q r h : ℕ) (is : q * q + r ≡ N) (rest : r ≤ 2 * q) (least : 2 ^ 52 ≤ q) (most : q < 2 ^ 53) (scaled : n ≡ N * (2 ^ h * 2 ^ h)) where
  from : q * 2 ^ h ≤ whole_root n
  from =
      le_of_suc-le-suc (sq_lt_back (q * 2 ^ h) (suc (whole_root n))
      (lt_of_le_of_lt (le_trans (le_of_eq (sq_scaled q (2 ^ h))) (le_trans (mul-le-mul_right (2 ^ h * 2 ^ h) (omega arith)) (le_of_eq (sym scaled)))) (whole_root_lem n).1))

  to : whole_root n < (q + 1) * 2 ^ h
  to =
      sq_lt_back (whole_root n) ((q + 1) * 2 ^ h)
      (lt_of_le_of_lt (le_trans (whole_root_lem n).0 (le_of_eq scaled))
      (lt_of_lt_of_le (mul-lt-mul_of_pos_right (omega (arith, sq_next q)) (mul-pos (pow_pos h) (pow_pos h))) (le_of_eq (sym (sq_scaled (q + 1) (2 ^ h))))))

  the_size : size (whole_root n) - 53 ≡ h
  the_size =
      let z : size (whole_root n) ≡ suc (52 + h) =
      size_exact (52 + h) (whole_root n)
      (le_trans (le_of_eq (pow-add 2 52 h)) (le_trans (mul-le-mul_right (2 ^ h) least) from))
      (lt_of_lt_of_le to (le_trans (mul-le-mul_right (2 ^ h) (omega arith)) (le_of_eq (sym (pow-suc 2 (52 + h) ∙ ap (λ (x : ℕ). x * 2) (pow-add 2 52 h) ∙ regroup (2 ^ h)))))) in
      omega arith

  pub root_units_lem : root_units binary64 n ≡ units binary64 false (nearest q (compare (4 * N) ((2 * q + 1) * (2 * q + 1)))) h
  root_units_lem =
      made_is n
      ∙ ap (λ (k : ℕ). made (whole_root n / 2 ^ k) n k) the_size
      ∙ ap (λ (x : ℕ). made x n h) (div-eq_of_lt-le (2 ^ h) from to)
      ∙ ap (λ (x : ℕ). units binary64 false (nearest q (compare (4 * x) ((2 * q + 1) * 2 ^ h * ((2 * q + 1) * 2 ^ h)))) h) scaled
      ∙ ap (λ (x : ℕ). units binary64 false (nearest q (compare x ((2 * q + 1) * 2 ^ h * ((2 * q + 1) * 2 ^ h)))) h) (sym (mul_assoc 4 N (2 ^ h * 2 ^ h)))
      ∙ ap (λ (x : ℕ). units binary64 false (nearest q (compare (4 * N * (2 ^ h * 2 ^ h)) x)) h) (sq_scaled (2 * q + 1) (2 ^ h))
      ∙ ap (λ o. units binary64 false (nearest q o) h) (compare_scaled (4 * N) ((2 * q + 1) * (2 * q + 1)) (2 ^ h * 2 ^ h) (mul-pos (pow_pos h) (pow_pos h)))

-- ---- the bits of a value

pub bits_of_lem : (x : Float) (a : ℕ) → HasValue x false a (2 ^ 1074) → to_bits binary64 x ≡ (size a - 53) * 2 ^ 52 + a / 2 ^ (size a - 53)
unfolding to_bits
bits_of_lem nan a v = absurd v
bits_of_lem (inf s) a v = absurd v
bits_of_lem (fin true m e) a v = absurd (true≢false v.0)
bits_of_lem (fin false m e) a v =
    ap (λ (n : ℕ). 0 + (size n - 53) * 2 ^ 52 + n / 2 ^ (size n - 53)) (ap (λ (x : ℕ). x / down e) v.1 ∙ mul-div_cancel a (down_pos e))
    ∙ plus_zero ((size a - 53) * 2 ^ 52) (a / 2 ^ (size a - 53))
  where
    plus_zero : (x y : ℕ) → 0 + x + y ≡ x + y
    plus_zero x y = omega arith

bits_at : (x : Float) (v h : ℕ) → 2 ^ 52 ≤ v → v < 2 ^ 53 → HasValue x false (v * 2 ^ h) (2 ^ 1074) → to_bits binary64 x ≡ v + h * 2 ^ 52
bits_at x v h l u k =
    let z : size (v * 2 ^ h) ≡ suc (52 + h) =
    size_exact (52 + h) (v * 2 ^ h)
    (le_trans (le_of_eq (pow-add 2 52 h)) (mul-le-mul_right (2 ^ h) l))
    (lt_of_lt_of_le (mul-lt-mul_of_pos_right u (pow_pos h)) (le_of_eq (sym (pow-suc 2 (52 + h) ∙ ap (λ (y : ℕ). y * 2) (pow-add 2 52 h) ∙ regroup (2 ^ h))))) in
    let w : size (v * 2 ^ h) - 53 ≡ h = omega arith in
    bits_of_lem x (v * 2 ^ h) k
    ∙ ap (λ (y : ℕ). y * 2 ^ 52 + v * 2 ^ h / 2 ^ y) w
    ∙ ap (λ (y : ℕ). h * 2 ^ 52 + y) (mul-div_cancel v (pow_pos h))
    ∙ turned (h * 2 ^ 52) v
  where
    turned : (a b : ℕ) → a + b ≡ b + a
    turned a b = omega arith

one_more : (h : ℕ) → 2 ^ 53 * 2 ^ h ≡ 2 ^ 52 * 2 ^ (h + 1)
one_more h = omega (arith, pow-add 2 h 1)

pub units_bits : (v h : ℕ) → 2 ^ 52 ≤ v → v ≤ 2 ^ 53 → h ≤ 1533 → to_bits binary64 (units binary64 false v h) ≡ v + h * 2 ^ 52
units_bits v h l u t = go (eq-or-lt_of_le u)
  where
    fine : v * 2 ^ h < 2 ^ 2098
    fine = lt_of_le_of_lt (le_trans (mul-le-mul_right (2 ^ h) u) (le_trans (le_of_eq (sym (pow-add 2 53 h))) (pow_mono {i = 53 + h} {j = 1586} (omega arith)))) (pow-lt {i = 1586} {j = 2098} (lit< tt))

    value : HasValue (units binary64 false v h) false (v * 2 ^ h) (2 ^ 1074)
    value = units_val binary64 false v h fine

    go : (v ≡ 2 ^ 53) ⊎ (v < 2 ^ 53) → to_bits binary64 (units binary64 false v h) ≡ v + h * 2 ^ 52
    go (inl e) =
        bits_at (units binary64 false v h) (2 ^ 52) (h + 1) (lit≤ tt) (lit< tt)
        (subst (λ (a : ℕ). HasValue (units binary64 false v h) false a (2 ^ 1074)) (ap (λ (y : ℕ). y * 2 ^ h) e ∙ one_more h) value)
        ∙ omega arith
    go (inr k) = bits_at (units binary64 false v h) v h l k value

-- ---- the root of a value

pub root_of : (x : Float) (a : ℕ) → HasValue x false a (2 ^ 2148) → 0 < a → root binary64 x ≡ root_units binary64 a
unfolding root
root_of nan a v p = absurd v
root_of (inf s) a v p = absurd v
root_of (fin true m e) a v p = absurd (true≢false v.0)
root_of (fin false zero e) a v p = absurd (no_zero a (down e) (sym (ap (λ (x : ℕ). x * 2 ^ 2148) (zero-mul (up e)) ∙ zero-mul (2 ^ 2148)) ∙ v.1) p (down_pos e))
root_of (fin false (suc m) e) a v p = ap (root_units binary64) (ap (λ (x : ℕ). x / down e) v.1 ∙ mul-div_cancel a (down_pos e))

-- ---- the pattern of the root

pub rounded_le : (q r : ℕ) → rounded_root q r ≤ q + 1
rounded_le q r = let h = nearest-le q (compare (4 * (q * q + r)) ((2 * q + 1) * (2 * q + 1))) in omega arith

pub root_bits_is : (b : ℕ) → root_bits b ≡ to_bits binary64 (root binary64 (of_bits binary64 b))
unfolding root_bits
root_bits_is b = refl

module _ (b d h q r : ℕ) (s : Halved b d h) (p : Digits (d * 2 ^ 52) q r) where
  pub whole_lt : q < 2 ^ 53
  whole_lt = sq_lt_back q (2 ^ 53) (omega (arith, s.most, p.is))

  pub whole_ge : 2 ^ 52 ≤ q
  whole_ge =
      let z : 2 ^ 52 < q + 1 = sq_lt_back (2 ^ 52) (q + 1) (omega (arith, sq_next q, s.least, p.is, p.rest)) in
      omega arith

  pub root_is : root binary64 (of_bits binary64 b) ≡ units binary64 false (rounded_root q r) h
  root_is =
      let n = d * 2 ^ 52 * (2 ^ h * 2 ^ h) in
      root_of (of_bits binary64 b) n s.is (mul-pos (omega (arith, s.least)) (mul-pos (pow_pos h) (pow_pos h)))
      ∙ root_units_lem n (q * q + r) q r h refl p.rest whole_ge whole_lt (ap (λ (y : ℕ). y * (2 ^ h * 2 ^ h)) (sym p.is))

  pub rounded_bits : (v : ℕ) → v ≡ rounded_root q r → v + h * 2 ^ 52 ≡ root_bits b
  rounded_bits v e =
      let o = compare (4 * (q * q + r)) ((2 * q + 1) * (2 * q + 1)) in
      ap (λ (x : ℕ). x + h * 2 ^ 52) e
      ∙ sym (root_bits_is b ∙ ap (to_bits binary64) root_is ∙ units_bits (nearest q o) h (le_trans whole_ge (nearest-ge q o)) (le_trans (nearest-le q o) whole_lt) s.high)

pub together : Together
together b d h q r s p = rounded_bits b d h q r s p (rounded_root q r) refl
