-- The table's answers, by the fields of a pattern. Assumes nothing.
use mathlib.Core.Path.{◌≡◌, refl, sym, ap, ◌∙◌, subst}
use Prim.Native.Nat.{ℕ, zero, suc, ◌/◌, ◌%◌, ◌^◌, ◌≤◌, ◌<◌}
use native.Mathlib.Decide.{dec_le}
use native.Mathlib.Omega.{arith}
use mathlib.Core.Bool.{Bool, true, false, cond}
use lib.Dec.{leb, ltb}
use borrow.Author.Tests.{lt-ltb, le-ltb, le-leb, lt-leb}
use Rattle.std.specs.Prelude.{Some, None}
use Rattle.root.specs.Classes.{signaling_nan, quiet_nan, negative_normal, low_class, high_class, class_at, class_of, nan_answer, infinity_bits, minus_zero_bits, at_once}

-- ---- a pattern's class, by its fields

class_at_lem : (b x : ℕ) (s : Bool) → leb (2 ^ 63) b ≡ s → b % 2 ^ 63 / 2 ^ 52 ≡ x → class_of b ≡ class_at s x (b % 2 ^ 52)
unfolding class_of
class_at_lem b x s e f = ap (λ (y : Bool). class_at y (b % 2 ^ 63 / 2 ^ 52) (b % 2 ^ 52)) e ∙ ap (λ (y : ℕ). class_at s y (b % 2 ^ 52)) f

class_clear : (b x : ℕ) → b < 2 ^ 63 → b % 2 ^ 63 / 2 ^ 52 ≡ x → class_of b ≡ class_at false x (b % 2 ^ 52)
class_clear b x u = class_at_lem b x false (lt-leb (2 ^ 63) b u)

class_set : (b x : ℕ) → 2 ^ 63 ≤ b → b % 2 ^ 63 / 2 ^ 52 ≡ x → class_of b ≡ class_at true x (b % 2 ^ 52)
class_set b x l = class_at_lem b x true (le-leb (2 ^ 63) b l)

high : (s : Bool) (x t : ℕ) → 2047 ≤ x → class_at s x t ≡ high_class s t
unfolding class_at
high s zero t h = absurd (omega arith)
high s (suc x) t h = rw (le-ltb (suc x) 2047 h)

-- ---- the table's row at a class

nan_row : (b : Bool) → Some nan_answer ≡ at_once (cond b signaling_nan quiet_nan)
nan_row true = refl
nan_row false = refl

negative_high : (t : ℕ) → Some nan_answer ≡ at_once (high_class true t)
negative_high zero = refl
negative_high (suc t) = nan_row (ltb (suc t) (2 ^ 51))

positive_high : (t : ℕ) → (t ≡ 0 → ⊥) → Some nan_answer ≡ at_once (high_class false t)
positive_high zero n = absurd (n refl)
positive_high (suc t) n = nan_row (ltb (suc t) (2 ^ 51))

negative_at : (x t : ℕ) → (x ≡ 0 → 0 < t) → Some nan_answer ≡ at_once (class_at true x t)
unfolding class_at
negative_at zero zero n = absurd (none (n refl))
  where
    none : 0 < 0 → ⊥
    none h = omega arith
negative_at zero (suc t) n = refl
negative_at (suc x) t n = go (ltb (suc x) 2047)
  where
    go : (b : Bool) → Some nan_answer ≡ at_once (cond b negative_normal (high_class true t))
    go true = refl
    go false = negative_high t

positive_at : (x t : ℕ) → x < 2047 → (x ≡ 0 → t ≡ 0 → ⊥) → None ≡ at_once (class_at false x t)
unfolding class_at
positive_at zero zero u n = absurd (n refl refl)
positive_at zero (suc t) u n = refl
positive_at (suc x) t u n = rw (lt-ltb (suc x) 2047 u)

-- ---- the table's row at a pattern

pub zero_row : (b : ℕ) → b < 2 ^ 64 → b % 2 ^ 63 / 2 ^ 52 ≡ 0 → b % 2 ^ 52 ≡ 0 → Some b ≡ at_once (class_of b)
unfolding class_at
zero_row b u x t = go (dec_le (2 ^ 63) b)
  where
    at : (s : Bool) (c : ℕ) → class_of b ≡ class_at s 0 (b % 2 ^ 52) → Some c ≡ at_once (low_class s 0) → b ≡ c → Some b ≡ at_once (class_of b)
    at s c e f g = ap Some g ∙ f ∙ sym (ap at_once (e ∙ ap (low_class s) t))

    go : Dec (2 ^ 63 ≤ b) → Some b ≡ at_once (class_of b)
    go (yes l) = at true minus_zero_bits (class_set b 0 l x) refl (omega arith)
    go (no l) = at false 0 (class_clear b 0 (omega arith) x) refl (omega arith)

pub infinity_row : (b : ℕ) → b ≡ infinity_bits → Some b ≡ at_once (class_of b)
unfolding class_of
infinity_row b e = subst (λ (y : ℕ). Some y ≡ at_once (class_of y)) (sym e) refl

pub negative_row : (b : ℕ) → 2 ^ 63 ≤ b → (b % 2 ^ 63 / 2 ^ 52 ≡ 0 → 0 < b % 2 ^ 52) → Some nan_answer ≡ at_once (class_of b)
negative_row b l h = negative_at _ _ h ∙ sym (ap at_once (class_set b _ l refl))

pub positive_row : (b : ℕ) → b < 2 ^ 63 → b % 2 ^ 63 / 2 ^ 52 < 2047 → (b % 2 ^ 63 / 2 ^ 52 ≡ 0 → b % 2 ^ 52 ≡ 0 → ⊥) → None ≡ at_once (class_of b)
positive_row b u x h = positive_at _ _ x h ∙ sym (ap at_once (class_clear b _ u refl))

pub top_row : (b : ℕ) → 2047 ≤ b % 2 ^ 63 / 2 ^ 52 → (b ≡ infinity_bits → ⊥) → Some nan_answer ≡ at_once (class_of b)
top_row b x n = go (dec_le (2 ^ 63) b)
  where
    go : Dec (2 ^ 63 ≤ b) → Some nan_answer ≡ at_once (class_of b)
    go (yes l) = negative_row b l (λ z. omega arith)
    go (no l) = positive_high (b % 2 ^ 52) (λ z. n (omega arith)) ∙ sym (ap at_once (class_clear b _ (omega arith) refl ∙ high false _ _ x))
