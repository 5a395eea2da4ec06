-- What `compare` answers. Assumes nothing.
use mathlib.Core.Path.{◌≡◌, refl, sym, ap, ◌∙◌, subst}
use Prim.Native.Nat.{ℕ, ◌+◌, ◌*◌, ◌≤◌, ◌<◌, compare, Ordering}
use native.Mathlib.Nat.{mul-lt-mul_of_pos_right}
use native.Mathlib.Omega.{arith}
use mathlib.Core.Bool.{not}
use lib.Dec.{T, is_le, compare_is_eq, eqb, leb→le, nleb→lt, eqb→eq, eqb_refl}
use Rattle.root.specs.Steps.{NoTie}
use Rattle.root.proofs.Squares.{sq_odd}

both : (a b : ℕ) → a < b → b ≤ a → ⊥
both a b h k = omega arith

same : (a b : ℕ) → a < b → a ≡ b → ⊥
same a b h k = omega arith

both' : (a b : ℕ) → a < b → b < a → ⊥
both' a b h k = omega arith

pub compare_lt : (a b : ℕ) → a < b → compare a b ≡ Ordering.lt
compare_lt a b h = go (compare a b) (nleb→lt a b) (eqb→eq a b)
  where
    go : (o : Ordering) → (T (not (is_le o)) → b < a) → (T (compare_is_eq o) → a ≡ b) → o ≡ Ordering.lt
    go Ordering.lt k e = refl
    go Ordering.eq k e = absurd (same a b h (e tt))
    go Ordering.gt k e = absurd (both' a b h (k tt))

pub compare_gt : (a b : ℕ) → b < a → compare a b ≡ Ordering.gt
compare_gt a b h = go (compare a b) (leb→le a b)
  where
    go : (o : Ordering) → (T (is_le o) → a ≤ b) → o ≡ Ordering.gt
    go Ordering.lt k = absurd (both b a h (k tt))
    go Ordering.eq k = absurd (both b a h (k tt))
    go Ordering.gt k = refl

compare_self : (a : ℕ) → compare a a ≡ Ordering.eq
compare_self a = go (compare a a) (eqb_refl a)
  where
    go : (o : Ordering) → T (compare_is_eq o) → o ≡ Ordering.eq
    go Ordering.lt t = absurd t
    go Ordering.eq t = refl
    go Ordering.gt t = absurd t

pub compare_scaled : (a b c : ℕ) → 0 < c → compare (a * c) (b * c) ≡ compare a b
compare_scaled a b c h = go (compare a b) refl (leb→le a b) (nleb→lt a b) (eqb→eq a b) (λ (e : a ≡ b). subst (λ (x : ℕ). T (eqb a x)) e (eqb_refl a))
  where
    strict : a ≤ b → (a ≡ b → ⊥) → a < b
    strict p q = omega arith

    go : (o : Ordering) → compare a b ≡ o → (T (is_le o) → a ≤ b) → (T (not (is_le o)) → b < a) → (T (compare_is_eq o) → a ≡ b) → (a ≡ b → T (compare_is_eq o)) → compare (a * c) (b * c) ≡ o
    go Ordering.lt z l g e n = compare_lt (a * c) (b * c) (mul-lt-mul_of_pos_right (strict (l tt) n) h)
    go Ordering.eq z l g e n = ap (λ (x : ℕ). compare (a * c) (x * c)) (sym (e tt)) ∙ compare_self (a * c)
    go Ordering.gt z l g e n = compare_gt (a * c) (b * c) (mul-lt-mul_of_pos_right (g tt) h)

-- ---- the root of q * q + r against the middle between q and q + 1

pub below_middle : (q r : ℕ) → r ≤ q → compare (4 * (q * q + r)) ((2 * q + 1) * (2 * q + 1)) ≡ Ordering.lt
below_middle q r h = compare_lt (4 * (q * q + r)) ((2 * q + 1) * (2 * q + 1)) (omega (arith, sq_odd q))

pub above_middle : (q r : ℕ) → q < r → compare (4 * (q * q + r)) ((2 * q + 1) * (2 * q + 1)) ≡ Ordering.gt
above_middle q r h = compare_gt (4 * (q * q + r)) ((2 * q + 1) * (2 * q + 1)) (omega (arith, sq_odd q))

-- an odd number is no multiple of four
pub no_tie : NoTie
no_tie n q e = omega (arith, sq_odd q)
