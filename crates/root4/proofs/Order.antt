-- Values in the order of their patterns, and the patterns of the operands that are left. Assumes nothing.
use mathlib.Core.Path.{◌≡◌, refl, sym, ap, ◌∙◌, subst}
use mathlib.Core.Bool.{Bool, true, false, not, ◌&&◌, cond}
use mathlib.Core.Logic.{◌⊎◌, inl, inr}
use Prim.Native.Nat.{ℕ, zero, suc, ◌+◌, ◌*◌, ◌/◌, ◌%◌, ◌^◌, ◌≤◌, ◌<◌}
use native.Mathlib.Nat.{le_trans, le_of_eq, lt_of_lt_of_le, lt_irrefl, not-le_of_lt, eq-or-lt_of_le, le_of_lt, mul-one, mul-le-mul_right, mul-lt-mul_of_pos_right}
use native.Mathlib.Decide.{dec_le}
use native.Mathlib.Omega.{arith}
use lib.Dec.{leb, ltb, eqb}
use lib.Pow.{pow-add, pow_pos, pow_mono, shl_lt}
use lib.Ieee.{Float, nan, inf, fin, binary64, lt, of_fields, of_bits}
use borrow.Author.Tests.{ltb-true, lt-ltb, le-leb, lt-leb, leb-true, eqb-true, eq-eqb}
use Rattle.base.proofs.Bools.{and_false, and_true, same_if}
use Rattle.root.specs.Classes.{infinity_bits}
use Rattle.root.proofs.Patterns.{sign_clear, sign_set, low_fields, mid_fields}
use Rattle.root4.specs.Steps.{small_bits, LeftPatterns}
use Rattle.root4.proofs.Rounding.{Is, lt_is}

-- ---- a finite number's smallest values, by its exponent's field x and its digits t

unfoldable pub smallest : ℕ → ℕ → ℕ
smallest zero t = t
smallest (suc x) t = (2 ^ 52 + t) * 2 ^ x

finite_fields : (s : Bool) (x t : ℕ) → x < 2047 → Is (of_fields binary64 s x t) s (smallest x t)
unfolding smallest
finite_fields s zero t u = subst (Is (of_fields binary64 s 0 t) s) (mul-one t) (low_fields s t)
finite_fields s (suc x) t u = mid_fields s x t u

-- ---- they are in the order of the patterns

grows : (x t y u : ℕ) → t < 2 ^ 52 → u < 2 ^ 52 → x * 2 ^ 52 + t < y * 2 ^ 52 + u → smallest x t < smallest y u
unfolding smallest
grows zero t zero u a b h = omega arith
grows zero t (suc y) u a b h =
    lt_of_lt_of_le a (le_trans (pow_mono {i = 52} {j = 52 + y} (omega arith)) (le_trans (le_of_eq (pow-add 2 52 y)) (mul-le-mul_right (2 ^ y) (omega arith))))
grows (suc x) t zero u a b h = absurd (omega arith)
grows (suc x) t (suc y) u a b h = go (dec_le y x)
  where
    go : Dec (y ≤ x) → (2 ^ 52 + t) * 2 ^ x < (2 ^ 52 + u) * 2 ^ y
    go (yes l) =
        let e : x ≡ y = omega arith in
        subst (λ (z : ℕ). (2 ^ 52 + t) * 2 ^ x < (2 ^ 52 + u) * 2 ^ z) e (mul-lt-mul_of_pos_right (omega arith) (pow_pos x))
    go (no l) =
        lt_of_lt_of_le (shl_lt 53 x (omega arith))
        (le_trans (pow_mono {i = 53 + x} {j = 52 + y} (omega arith)) (le_trans (le_of_eq (pow-add 2 52 y)) (mul-le-mul_right (2 ^ y) (omega arith))))

same_ltb : (a b c d : ℕ) → (a < b → c < d) → (c < d → a < b) → ltb a b ≡ ltb c d
same_ltb a b c d f g = same_if (ltb a b) (ltb c d) (λ e. lt-ltb c d (f (ltb-true a b e))) (λ e. lt-ltb a b (g (ltb-true c d e)))

pub in_order : (x t y u : ℕ) → t < 2 ^ 52 → u < 2 ^ 52 → ltb (smallest x t) (smallest y u) ≡ ltb (x * 2 ^ 52 + t) (y * 2 ^ 52 + u)
in_order x t y u a b = same_ltb (smallest x t) (smallest y u) (x * 2 ^ 52 + t) (y * 2 ^ 52 + u) (λ h. back h (dec_le (y * 2 ^ 52 + u) (x * 2 ^ 52 + t))) (grows x t y u a b)
  where
    back : smallest x t < smallest y u → Dec (y * 2 ^ 52 + u ≤ x * 2 ^ 52 + t) → x * 2 ^ 52 + t < y * 2 ^ 52 + u
    back h (no l) = omega arith
    back h (yes l) = absurd (go (eq-or-lt_of_le l))
      where
        go : (y * 2 ^ 52 + u ≡ x * 2 ^ 52 + t) ⊎ (y * 2 ^ 52 + u < x * 2 ^ 52 + t) → ⊥
        go (inl e) =
            let p : x ≡ y = omega arith in
            let q : t ≡ u = omega arith in
            lt_irrefl (smallest y u) (subst (λ (z : ℕ). smallest y z < smallest y u) q (subst (λ (z : ℕ). smallest z t < smallest y u) p h))
        go (inr k) = not-le_of_lt h (le_of_lt (grows y u x t b a k))

-- ---- what is above the value of a pattern a, which is finite and not below zero

-- an infinity, or a NaN
over_end : (v : Float) (n : ℕ) (s b : Bool) → Is v false n → lt v (cond b (inf s) nan) ≡ b && not s
unfolding lt
over_end nan n s b h = absurd h
over_end (inf z) n s b h = absurd h
over_end (fin z m e) n s true h = refl
over_end (fin z m e) n s false h = refl

module _ (a : ℕ) (u : a < infinity_bits) where
  pub smallest_of : Is (of_bits binary64 a) false (smallest (a / 2 ^ 52) (a % 2 ^ 52))
  smallest_of = subst (λ (w : Float). Is w false (smallest (a / 2 ^ 52) (a % 2 ^ 52))) (sym (sign_clear a (omega arith))) (finite_fields false (a / 2 ^ 52) (a % 2 ^ 52) (omega arith))

  top_fields : (s : Bool) (x t : ℕ) → x ≡ 2047 → lt (of_bits binary64 a) (of_fields binary64 s x t) ≡ eqb t 0 && not s
  unfolding of_fields
  top_fields s x t e = ap (λ (y : ℕ). lt (of_bits binary64 a) (of_fields binary64 s y t)) e ∙ over_end (of_bits binary64 a) _ s (eqb t 0) smallest_of

  negative : (x t : ℕ) → x < 2048 → lt (of_bits binary64 a) (of_fields binary64 true x t) ≡ false
  negative x t k = go (dec_le 2047 x)
    where
      go : Dec (2047 ≤ x) → lt (of_bits binary64 a) (of_fields binary64 true x t) ≡ false
      go (yes l) = top_fields true x t (omega arith) ∙ and_false (eqb t 0)
      go (no l) = lt_is (of_bits binary64 a) (of_fields binary64 true x t) false true _ _ smallest_of (finite_fields true x t (omega arith))

  positive : (x t : ℕ) → x < 2048 → t < 2 ^ 52 → lt (of_bits binary64 a) (of_fields binary64 false x t) ≡ ltb a (x * 2 ^ 52 + t) && leb (x * 2 ^ 52 + t) infinity_bits
  positive x t k h = go (dec_le 2047 x)
    where
      b : ℕ
      b = x * 2 ^ 52 + t

      whole : a / 2 ^ 52 * 2 ^ 52 + a % 2 ^ 52 ≡ a
      whole = omega arith

      -- of what is not finite only +infinity is above
      ends : x ≡ 2047 → eqb t 0 && true ≡ ltb a b && leb b infinity_bits
      ends e =
          and_true (eqb t 0)
          ∙ same_if (eqb t 0) (leb b infinity_bits) (λ z. le-leb b _ (at_end (eqb-true t 0 z))) (λ z. eq-eqb t 0 (no_more (leb-true b _ z)))
          ∙ ap (λ (c : Bool). c && leb b infinity_bits) (sym (lt-ltb a b (omega arith)))
        where
          at_end : t ≡ 0 → b ≤ infinity_bits
          at_end z = omega arith

          no_more : b ≤ infinity_bits → t ≡ 0
          no_more z = omega arith

      go : Dec (2047 ≤ x) → lt (of_bits binary64 a) (of_fields binary64 false x t) ≡ ltb a b && leb b infinity_bits
      go (yes l) = top_fields false x t (omega arith) ∙ ends (omega arith)
      go (no l) =
          lt_is (of_bits binary64 a) (of_fields binary64 false x t) false false _ _ smallest_of (finite_fields false x t (omega arith))
          ∙ in_order (a / 2 ^ 52) (a % 2 ^ 52) x t (omega arith) h
          ∙ ap (λ (y : ℕ). ltb y b) whole
          ∙ sym (ap (λ (c : Bool). ltb a b && c) (le-leb b infinity_bits (omega arith)) ∙ and_true (ltb a b))

  pub over_patterns : (b : ℕ) → lt (of_bits binary64 a) (of_bits binary64 b) ≡ ltb a b && leb b infinity_bits
  over_patterns b = go (dec_le (2 ^ 63) b)
    where
      go : Dec (2 ^ 63 ≤ b) → lt (of_bits binary64 a) (of_bits binary64 b) ≡ ltb a b && leb b infinity_bits
      go (yes l) =
          ap (lt (of_bits binary64 a)) (sign_set b l) ∙ negative (b % 2 ^ 63 / 2 ^ 52) (b % 2 ^ 52) (omega arith)
          ∙ sym (ap (λ (c : Bool). ltb a b && c) (lt-leb b infinity_bits (omega arith)) ∙ and_false (ltb a b))
      go (no l) =
          let e : b / 2 ^ 52 * 2 ^ 52 + b % 2 ^ 52 ≡ b = omega arith in
          ap (lt (of_bits binary64 a)) (sign_clear b (omega arith)) ∙ positive (b / 2 ^ 52) (b % 2 ^ 52) (omega arith) (omega arith)
          ∙ ap (λ (y : ℕ). ltb a y && leb y infinity_bits) e

pub left_patterns : LeftPatterns
left_patterns b = ap not (over_patterns small_bits (omega arith) b)
