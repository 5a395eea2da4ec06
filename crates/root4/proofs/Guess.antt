-- The first guess at 1 / (2 * √x) is less than one binary place off. Assumes nothing.
use mathlib.Core.Path.{◌≡◌, refl, sym, ap, ◌∙◌, subst}
use Prim.Native.Nat.{ℕ, ◌+◌, ◌-◌, ◌*◌, ◌/◌, ◌%◌, ◌^◌, ◌≤◌, ◌<◌}
use native.Mathlib.Nat.{le_trans, le_of_eq, lt_of_lt_of_le, lt_of_le_of_lt, mul-mul-mul_comm, mul-le-mul, mul-le-mul_right, mul-lt-mul_of_pos_right}
use native.Mathlib.Decide.{dec_le}
use native.Mathlib.Omega.{arith}
use mathlib.Core.Bool.{false}
use lib.Dec.{T, lit<, lit≤}
use lib.Pow.{pow-add, pow_pos, pow_mono}
use lib.Ieee.{Float, binary64, fits, to_bits, of_bits}
use lib.Ieee.Bits.{of_bits-to_bits}
use lib.Ieee.Scale.{finite}
use Rattle.root.specs.Classes.{infinity_bits}
use Rattle.root4.specs.Steps.{small_bits, Ample, OnePlace, guess_bits, Halved}
use Rattle.root4.proofs.Rounding.{Is}
use Rattle.root4.proofs.Candidate.{pattern_value, infinity_ends}
use Rattle.root4.proofs.Numbers.{Above, above}

-- ---- the product of an operand and the square of its guess: v * w * w, times 2 ^ e

module _ (v w e : ℕ) where
  from : (j a c : ℕ) → a ≤ v → c ≤ w → 2 ^ j ≤ a * (c * c) → 3222 ≤ 2 + (j + e) → 2 ^ 3222 ≤ 4 * (v * (w * w) * 2 ^ e)
  from j a c l m h t =
      le_trans (pow_mono {i = 3222} {j = 2 + (j + e)} t)
      (le_trans (le_of_eq (pow-add 2 2 (j + e) ∙ ap (λ (y : ℕ). 4 * y) (pow-add 2 j e)))
      (fourfold (mul-le-mul_right (2 ^ e) (le_trans h (mul-le-mul l (mul-le-mul m m))))))
    where
      fourfold : {x y : ℕ} → x ≤ y → 4 * x ≤ 4 * y
      fourfold l = omega arith

  below : (j a c : ℕ) → v ≤ a → w ≤ c → a * (c * c) < 2 ^ j → j + e ≤ 3222 → v * (w * w) * 2 ^ e < 2 ^ 3222
  below j a c l m h t =
      lt_of_lt_of_le (mul-lt-mul_of_pos_right (lt_of_le_of_lt (mul-le-mul l (mul-le-mul m m)) h) (pow_pos e))
      (le_trans (le_of_eq (sym (pow-add 2 j e))) (pow_mono {i = j + e} {j = 3222} t))

product : (v w g h : ℕ) → v * 2 ^ g * (w * 2 ^ h * (w * 2 ^ h)) ≡ v * (w * w) * 2 ^ (g + (h + h))
product v w g h =
    ap (λ (y : ℕ). v * 2 ^ g * y) (mul-mul-mul_comm w (2 ^ h) w (2 ^ h) ∙ ap (λ (y : ℕ). w * w * y) (sym (pow-add 2 h h)))
    ∙ mul-mul-mul_comm v (2 ^ g) (w * w) (2 ^ (h + h))
    ∙ ap (λ (y : ℕ). v * (w * w) * y) (sym (pow-add 2 g (h + h)))

-- ---- a pattern b, and its guess's

-- the leading digit with those below it, and the exponent that goes with them
abbrev lead : ℕ → ℕ
lead b = 2 ^ 52 + b % 2 ^ 52

abbrev place : ℕ → ℕ
place b = b / 2 ^ 52 - 1

abbrev guess : ℕ → ℕ
guess b = guess_bits - b / 2

module _ (b : ℕ) (l : small_bits < b) (u : b < infinity_bits) where
  abbrev v : ℕ
  v = lead b

  abbrev w : ℕ
  w = lead (guess b)

  abbrev e : ℕ
  e = place b + (place (guess b) + place (guess b))

  abbrev Bounds : Type 0
  Bounds = (2 ^ 3222 ≤ 4 * (v * (w * w) * 2 ^ e)) × (v * (w * w) * 2 ^ e < 2 ^ 3222)

  -- an even exponent's field
  even : b / 2 ^ 52 % 2 ≡ 0 → Bounds
  even z = (go (dec_le (2 ^ 51) (b % 2 ^ 52)), below v w e 159 (2 ^ 53) 0x1B_F700_0000_0000 (omega arith) (omega arith) (lit< tt) (omega arith))
    where
      go : Dec (2 ^ 51 ≤ b % 2 ^ 52) → 2 ^ 3222 ≤ 4 * (v * (w * w) * 2 ^ e)
      go (yes k) = from v w e 157 0x18_0000_0000_0000 0x13_F700_0000_0000 (omega arith) (omega arith) (lit≤ tt) (omega arith)
      go (no k) = from v w e 157 (2 ^ 52) 0x17_F700_0000_0000 (omega arith) (omega arith) (lit≤ tt) (omega arith)

  -- an odd one, whose half goes into the digits; they take one from the field where they are more than the constant's
  odd : b / 2 ^ 52 % 2 ≡ 1 → Bounds
  odd z = go (dec_le (2 ^ 51 + b % 2 ^ 52 / 2) 0x0B_F700_0000_0000)
    where
      go : Dec (2 ^ 51 + b % 2 ^ 52 / 2 ≤ 0x0B_F700_0000_0000) → Bounds
      go (yes k) = (
        from v w e 156 (2 ^ 52) (2 ^ 52) (omega arith) (omega arith) (lit≤ tt) (omega arith),
        below v w e 158 (2 ^ 53) 0x13_F700_0000_0000 (omega arith) (omega arith) (lit< tt) (omega arith),
      )
      go (no k) = (
        from v w e 158 0x17_EE00_0000_0000 0x1B_F700_0000_0000 (omega arith) (omega arith) (lit≤ tt) (omega arith),
        below v w e 160 (2 ^ 53) (2 ^ 53) (omega arith) (omega arith) (lit< tt) (omega arith),
      )

  bounds : Bounds
  bounds = go (dec_le 1 (b / 2 ^ 52 % 2))
    where
      go : Dec (1 ≤ b / 2 ^ 52 % 2) → Bounds
      go (yes k) = odd (omega arith)
      go (no k) = even (omega arith)

  one_place : OnePlace (of_bits binary64 b) (of_bits binary64 (guess b))
  one_place = record {
    n = v * 2 ^ place b;
    k = w * 2 ^ place (guess b);
    operand = value b (omega arith) u;
    guess = value (guess b) (omega arith) (omega arith);
    from = le_trans bounds.0 (le_of_eq (ap (λ (y : ℕ). 4 * y) (sym whole)));
    below = lt_of_le_of_lt (le_of_eq whole) bounds.1;
  }
    where
      whole : v * 2 ^ place b * (w * 2 ^ place (guess b) * (w * 2 ^ place (guess b))) ≡ v * (w * w) * 2 ^ e
      whole = product v w (place b) (place (guess b))

      value : (c : ℕ) → 2 ^ 52 ≤ c → c < infinity_bits → Is (of_bits binary64 c) false (lead c * 2 ^ place c)
      value c h k =
          let f : lead c + place c * 2 ^ 52 ≡ c = omega arith in
          subst (λ (y : ℕ). Is (of_bits binary64 y) false (lead c * 2 ^ place c)) f (pattern_value (lead c) (place c) (omega arith) (omega arith) (omega arith))

-- ---- an operand that is taken, and its guess

pub guessed : (x : Float) → T (fits binary64 x) → Ample x → Halved x (of_bits binary64 (guess (to_bits binary64 x)))
guessed x f a = record {
  is = refl;
  near = λ t. subst (λ (y : Float). OnePlace y (of_bits binary64 (guess b))) back (one_place b over.least (under t));
}
  where
    b : ℕ
    b = to_bits binary64 x

    over : Above small_bits x
    over = above small_bits x (omega arith) f a

    back : of_bits binary64 b ≡ x
    back = of_bits-to_bits binary64 x f

    at_end : T (finite x) → b ≡ infinity_bits → ⊥
    at_end t e = infinity_ends (subst (λ (y : ℕ). T (finite (of_bits binary64 y))) e (subst (λ (y : Float). T (finite y)) (sym back) t))

    under : T (finite x) → b < infinity_bits
    under t = omega (arith, over.most, at_end t)
