-- `root` is IEEE 754's: for every finite x above zero the root of x is the value of the format nearest to √x (`RootNearest`). Assumes nothing.
-- All is counted in the smallest value: x is n / 4 ^ 1074, so √x is √n of them, and a value of the format is p * 2 ^ j of them with p below 2 ^ 53.
use mathlib.Core.Path.{◌≡◌, refl, sym, ap, ◌∙◌, subst}
use mathlib.Core.Logic.{◌⊎◌, inl, inr}
use Prim.Native.Nat.{ℕ, ◌+◌, ◌-◌, ◌*◌, ◌/◌, ◌%◌, ◌^◌, ◌≤◌, ◌<◌}
use native.Mathlib.Nat.{le_trans, le_of_eq, lt_of_lt_of_le, lt_of_le_of_lt, lt_of_mul-lt-mul_right, mul-pos, mul_assoc, add-mul, mul-le-mul, mul-le-mul_right, mul-lt-mul_of_pos_right}
use native.Mathlib.Decide.{dec_le}
use native.Mathlib.Numerals.{add-one}
use native.Mathlib.Omega.{arith}
use mathlib.Core.Bool.{false}
use lib.Dec.{lit<}
use lib.Pow.{pow-add, pow_pos, pow_mono, pow-lt}
use lib.Ieee.{Float, binary64, nearest, units, to_bits, of_bits}
use lib.Ieee.Bits.{of_bits-to_bits, of_bits-fits}
use lib.Ieee.Exact.{HasValue, units_val}
use Rattle.root.specs.Root.{whole_root, root}
use Rattle.root.specs.Nearest.{Nearer, RoundedToNearest, RootNearest}
use Rattle.root.specs.Steps.{Unpacks, Halved, Digits, rounded_root}
use Rattle.root.proofs.Squares.{sq_next, sq_suc, sq_odd, sq_lt, sq_scaled}
use Rattle.root.proofs.Whole.{whole_root_lem}
use Rattle.root.proofs.Compares.{below_middle, above_middle}
use Rattle.root.proofs.Core.{root_is, whole_ge, whole_lt}
use Rattle.root.proofs.Patterns.{normal, subnormal, even_place, odd_place}
use Rattle.root.proofs.Floats.{root_fits}
use Rattle.root.proofs.Values.{on_grid, finite_pattern}

-- what an f64 holds lies on the grid of 2 ^ h, or is below 2 ^ 52 steps of it
grid : (p j h : ℕ) → p < 2 ^ 53 → ((g : ℕ) × (p * 2 ^ j ≡ g * 2 ^ h)) ⊎ (p * 2 ^ j < 2 ^ 52 * 2 ^ h)
grid p j h u = go (dec_le h j)
  where
    back : (k : ℕ) → h ≤ j → k ≡ j - h → k + h ≡ j
    back k l e = omega arith

    go : Dec (h ≤ j) → ((g : ℕ) × (p * 2 ^ j ≡ g * 2 ^ h)) ⊎ (p * 2 ^ j < 2 ^ 52 * 2 ^ h)
    go (yes l) = inl (p * 2 ^ (j - h), ap (λ (x : ℕ). p * x) (ap (λ (x : ℕ). 2 ^ x) (sym (back (j - h) l refl)) ∙ pow-add 2 (j - h) h) ∙ sym (mul_assoc p (2 ^ (j - h)) (2 ^ h)))
    go (no l) =
        inr (lt_of_lt_of_le (mul-lt-mul_of_pos_right u (pow_pos j))
        (le_trans (le_of_eq (sym (pow-add 2 53 j))) (le_trans (pow_mono {i = 53 + j} {j = 52 + h} (omega arith)) (le_of_eq (pow-add 2 52 h)))))

module _ (N q r h : ℕ) (is : q * q + r ≡ N) (rest : r ≤ 2 * q) (least : 2 ^ 52 ≤ q) (p j : ℕ) (u : p < 2 ^ 53) where
  big : 0 < 2 ^ h * 2 ^ h
  big = mul-pos (pow_pos h) (pow_pos h)

  -- no number that an f64 holds is strictly between two steps
  step : (c : ℕ) → q ≤ c → p * 2 ^ j < (c + 1) * 2 ^ h → p * 2 ^ j ≤ c * 2 ^ h
  step c k l = go (grid p j h u)
    where
      go : ((g : ℕ) × (p * 2 ^ j ≡ g * 2 ^ h)) ⊎ (p * 2 ^ j < 2 ^ 52 * 2 ^ h) → p * 2 ^ j ≤ c * 2 ^ h
      go (inl (g, e)) =
          let z : g < c + 1 = lt_of_mul-lt-mul_right (2 ^ h) (lt_of_le_of_lt (le_of_eq (sym e)) l) in
          le_trans (le_of_eq e) (mul-le-mul_right (2 ^ h) (omega arith))
      go (inr k') = le_trans (omega arith) (mul-le-mul_right (2 ^ h) (le_trans least k))

  less : (a b : ℕ) → a < b * 2 ^ h → b * b ≤ 4 * N → a * a < 4 * (N * (2 ^ h * 2 ^ h))
  less a b l k =
      lt_of_lt_of_le (sq_lt a (b * 2 ^ h) l)
      (le_trans (le_of_eq (sq_scaled b (2 ^ h))) (le_trans (mul-le-mul_right (2 ^ h * 2 ^ h) k) (le_of_eq (mul_assoc 4 N (2 ^ h * 2 ^ h)))))

  less' : (a b : ℕ) → a ≤ b * 2 ^ h → b * b < 4 * N → a * a < 4 * (N * (2 ^ h * 2 ^ h))
  less' a b l k =
      lt_of_le_of_lt (le_trans (mul-le-mul l l) (le_of_eq (sq_scaled b (2 ^ h))))
      (lt_of_lt_of_le (mul-lt-mul_of_pos_right k big) (le_of_eq (mul_assoc 4 N (2 ^ h * 2 ^ h))))

  over : (a b : ℕ) → b * 2 ^ h ≤ a → 4 * N < b * b → 4 * (N * (2 ^ h * 2 ^ h)) < a * a
  over a b l k =
      lt_of_lt_of_le (lt_of_le_of_lt (le_of_eq (sym (mul_assoc 4 N (2 ^ h * 2 ^ h)))) (mul-lt-mul_of_pos_right k big))
      (le_trans (le_of_eq (sym (sq_scaled b (2 ^ h)))) (mul-le-mul l l))

  sum : (a b : ℕ) → (a + b) * 2 ^ h ≡ a * 2 ^ h + b * 2 ^ h
  sum a b = add-mul a b (2 ^ h)

  down : r ≤ q → Nearer (N * (2 ^ h * 2 ^ h)) (q * 2 ^ h) (p * 2 ^ j)
  down k = (
    λ l. less (q * 2 ^ h + p * 2 ^ j) (q + q) (omega (arith, sum q q)) (omega (arith, double q)),
    λ l. over (q * 2 ^ h + p * 2 ^ j) (q + (q + 1)) (le_trans (le_of_eq (sum q (q + 1))) (omega (arith, above l))) (omega (arith, odd q)),
  )
    where
      double : (x : ℕ) → (x + x) * (x + x) ≡ 4 * (x * x)
      double x = omega (arith, add-mul x x (x + x))

      odd : (x : ℕ) → (x + (x + 1)) * (x + (x + 1)) ≡ 4 * (x * x) + 4 * x + 1
      odd x = omega (arith, sq_odd x)

      above : q * 2 ^ h < p * 2 ^ j → (q + 1) * 2 ^ h ≤ p * 2 ^ j
      above l = go (dec_le ((q + 1) * 2 ^ h) (p * 2 ^ j))
        where
          go : Dec ((q + 1) * 2 ^ h ≤ p * 2 ^ j) → (q + 1) * 2 ^ h ≤ p * 2 ^ j
          go (yes y) = y
          go (no n) =
              let z : p * 2 ^ j < (q + 1) * 2 ^ h = omega arith in
              let y : p * 2 ^ j ≤ q * 2 ^ h = step q (omega arith) z in
              omega arith

  up : q < r → Nearer (N * (2 ^ h * 2 ^ h)) ((q + 1) * 2 ^ h) (p * 2 ^ j)
  up k = (
    λ l. less' ((q + 1) * 2 ^ h + p * 2 ^ j) ((q + 1) + q) (le_trans (omega (arith, step q (omega arith) l)) (le_of_eq (sym (sum (q + 1) q)))) (omega (arith, odd q)),
    λ l. over ((q + 1) * 2 ^ h + p * 2 ^ j) ((q + 1) + (q + 1)) (le_trans (le_of_eq (sum (q + 1) (q + 1))) (omega arith)) (omega (arith, double (q + 1), sq_next q)),
  )
    where
      double : (x : ℕ) → (x + x) * (x + x) ≡ 4 * (x * x)
      double x = omega (arith, add-mul x x (x + x))

      odd : (x : ℕ) → ((x + 1) + x) * ((x + 1) + x) ≡ 4 * (x * x) + 4 * x + 1
      odd x = omega (arith, sq_odd x)

-- ---- for every pattern of a finite number above zero

scaled_of : (b : ℕ) → 0 < b → b < 0x7FF0_0000_0000_0000 → (d : ℕ) × (h : ℕ) × Halved b d h
scaled_of b l u = go (dec_le 1 (b / 2 ^ 52))
  where
    placed : (d p : ℕ) → Unpacks b d p → (d' : ℕ) × (h : ℕ) × Halved b d' h
    placed d p a = pick (dec_le 1 (p % 2))
      where
        pick : Dec (1 ≤ p % 2) → (d' : ℕ) × (h : ℕ) × Halved b d' h
        pick (yes k) = (d * 2, (p - 52) / 2, odd_place b d p a (λ e. omega arith))
        pick (no k) = (d, (p - 52) / 2, even_place b d p a (omega arith))

    go : Dec (1 ≤ b / 2 ^ 52) → (d : ℕ) × (h : ℕ) × Halved b d h
    go (yes k) = placed _ _ (normal b u (λ e. omega arith))
    go (no k) = placed _ _ (subnormal b l (omega arith))

-- the whole root of a number, with what is left
whole_digits : (n : ℕ) → Digits n (whole_root n) (n - whole_root n * whole_root n)
whole_digits n = record {
  is = omega (arith, (whole_root_lem n).0);
  rest = omega (arith, (whole_root_lem n).1, sq_suc (whole_root n));
}

module _ (b d h q r : ℕ) (s : Halved b d h) (w : Digits (d * 2 ^ 52) q r) where
  value : (v : ℕ) → v ≤ 2 ^ 53 → HasValue (units binary64 false v h) false (v * 2 ^ h) (2 ^ 1074)
  value v k =
      units_val binary64 false v h
      (lt_of_le_of_lt (le_trans (mul-le-mul_right (2 ^ h) k) (le_trans (le_of_eq (sym (pow-add 2 53 h))) (pow_mono {i = 53 + h} {j = 1586} (omega (arith, s.high))))) (pow-lt {i = 1586} {j = 2098} (lit< tt)))

  -- the root is v steps of 2 ^ h, and no other value is as near to √x
  rounded_to : (v : ℕ) → v ≤ 2 ^ 53 → rounded_root q r ≡ v → ((p j : ℕ) → p < 2 ^ 53 → Nearer (d * 2 ^ 52 * (2 ^ h * 2 ^ h)) (v * 2 ^ h) (p * 2 ^ j))
      → RoundedToNearest (of_bits binary64 b) (root binary64 (of_bits binary64 b))
  rounded_to v k e near = record {
    n = d * 2 ^ 52 * (2 ^ h * 2 ^ h);
    a = v * 2 ^ h;
    operand = s.is;
    result = subst (λ (x : Float). HasValue x false (v * 2 ^ h) (2 ^ 1074)) (sym (root_is b d h q r s w ∙ ap (λ (y : ℕ). units binary64 false y h) e)) (value v k);
    held = root_fits (of_bits binary64 b) (of_bits-fits binary64 b);
    nearest = λ x c f g.
        (let u = on_grid x c f g in
        subst (Nearer (d * 2 ^ 52 * (2 ^ h * 2 ^ h)) (v * 2 ^ h)) (sym u.3) (near u.0 u.1 u.2));
  }

  pattern_nearest : RoundedToNearest (of_bits binary64 b) (root binary64 (of_bits binary64 b))
  pattern_nearest = go (dec_le r q)
    where
      ge : 2 ^ 52 ≤ q
      ge = whole_ge b d h q r s w

      lt : q < 2 ^ 53
      lt = whole_lt b d h q r s w

      go : Dec (r ≤ q) → RoundedToNearest (of_bits binary64 b) (root binary64 (of_bits binary64 b))
      go (yes k) = rounded_to q (omega (arith, lt)) (ap (nearest q) (below_middle q r k)) (λ p j t. down (d * 2 ^ 52) q r h w.is w.rest ge p j t k)
      go (no k) =
          rounded_to (q + 1) (omega (arith, lt)) (ap (nearest q) (above_middle q r (omega arith)) ∙ sym (add-one q))
          (λ p j t. up (d * 2 ^ 52) q r h w.is w.rest ge p j t (omega arith))

pub root_nearest : RootNearest
root_nearest x f p =
    let b = to_bits binary64 x in
    let k = finite_pattern x f p in
    let s = scaled_of b k.0 k.1 in
    let n = s.0 * 2 ^ 52 in
    subst (λ (y : Float). RoundedToNearest y (root binary64 y)) (of_bits-to_bits binary64 x f)
    (pattern_nearest b s.0 s.1 (whole_root n) (n - whole_root n * whole_root n) s.2 (whole_digits n))
