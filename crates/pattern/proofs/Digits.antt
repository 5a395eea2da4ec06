-- Laws of a word's digits, and of sums. Assumes nothing.
use mathlib.Core.Path.{◌≡◌, refl, sym, ap, ap₂, ◌∙◌, subst}
use mathlib.Core.Logic.{◌⊎◌, inl, inr}
use mathlib.Core.Bool.{true, false, ◌&&◌, ◌||◌}
use Prim.Native.Nat.{ℕ, zero, suc, ◌+◌, ◌-◌, ◌*◌, ◌/◌, ◌%◌, ◌^◌, ◌<◌, min, max}
use native.Mathlib.Omega.{arith}
use native.Mathlib.Decide.{ℕ_discrete, dec_lt}
use native.Mathlib.Numerals.{add-one}
use native.Mathlib.Nat.{mod-lt, div-eq_of_lt, zero-lt-suc, mul_assoc, one-mul, div-one}
use lib.Dec.{eqb, lit<}
use lib.Bits.{bit_and, bit_or, and_shr, or_shr, and_step, or_step, shifted_even}
use lib.Pow.{pow_pos, pow-add, shl-shr, shl_exact, shr-shr, shr_lt, pow-lt}
use lib.Arith.{digits_mod, lt-one}
use lib.Count.{ones, ones_step}
use borrow.Author.Tests.{ne_eqb, eq-eqb}
use Rattle.base.specs.Sums.{sum, one}
use Rattle.base.proofs.Sums.{sum_ext, sum_front}
use Rattle.pattern.specs.Word.{digit}

two_pos : 0 < 2
two_pos = zero-lt-suc 1

-- ---- the digits of `&` and `|`

min_digit : (x y : ℕ) → x < 2 → y < 2 → (min x y < 2) × (eqb (min x y) 1 ≡ eqb x 1 && eqb y 1)
min_digit zero zero h g = (omega arith, refl)
min_digit zero (suc zero) h g = (omega arith, refl)
min_digit (suc zero) zero h g = (omega arith, refl)
min_digit (suc zero) (suc zero) h g = (omega arith, refl)
min_digit zero (suc (suc y)) h g = absurd (omega arith)
min_digit (suc zero) (suc (suc y)) h g = absurd (omega arith)
min_digit (suc (suc x)) y h g = absurd (omega arith)

max_digit : (x y : ℕ) → x < 2 → y < 2 → (max x y < 2) × (eqb (max x y) 1 ≡ eqb x 1 || eqb y 1)
max_digit zero zero h g = (omega arith, refl)
max_digit zero (suc zero) h g = (omega arith, refl)
max_digit (suc zero) zero h g = (omega arith, refl)
max_digit (suc zero) (suc zero) h g = (omega arith, refl)
max_digit zero (suc (suc y)) h g = absurd (omega arith)
max_digit (suc zero) (suc (suc y)) h g = absurd (omega arith)
max_digit (suc (suc x)) y h g = absurd (omega arith)

pub digit_and : (a b k : ℕ) → digit (bit_and a b) k ≡ digit a k && digit b k
unfolding digit
digit_and a b k =
    let x = a / 2 ^ k in
    let y = b / 2 ^ k in
    let m = min_digit (x % 2) (y % 2) (mod-lt x two_pos) (mod-lt y two_pos) in
    ap (λ (n : ℕ). eqb (n % 2) 1) (and_shr a b k ∙ and_step x y)
    ∙ ap (λ (n : ℕ). eqb n 1) (digits_mod (bit_and (x / 2) (y / 2)) m.0)
    ∙ m.1

pub digit_or : (a b k : ℕ) → digit (bit_or a b) k ≡ digit a k || digit b k
unfolding digit
digit_or a b k =
    let x = a / 2 ^ k in
    let y = b / 2 ^ k in
    let m = max_digit (x % 2) (y % 2) (mod-lt x two_pos) (mod-lt y two_pos) in
    ap (λ (n : ℕ). eqb (n % 2) 1) (or_shr a b k ∙ or_step x y)
    ∙ ap (λ (n : ℕ). eqb n 1) (digits_mod (bit_or (x / 2) (y / 2)) m.0)
    ∙ m.1

pub digit_zero : (k : ℕ) → digit 0 k ≡ false
unfolding digit
digit_zero k = rw (div-eq_of_lt {n = 0} {m = 2 ^ k} (pow_pos k))

-- ---- the digits of `1u64 << k`

even : (k d e : ℕ) → k ≡ suc e + d → 1 * 2 ^ k / 2 ^ d % 2 ≡ 0
even k d e q =
    ap (λ (x : ℕ). x / 2 ^ d % 2) (ap (λ (n : ℕ). 1 * 2 ^ n) q ∙ ap (λ (n : ℕ). 1 * n) (pow-add 2 (suc e) d) ∙ sym (mul_assoc 1 (2 ^ suc e) (2 ^ d)))
    ∙ ap (λ (x : ℕ). x % 2) (shl-shr (1 * 2 ^ suc e) d)
    ∙ shifted_even 1 e

none : (k d : ℕ) → k < d → 1 * 2 ^ k / 2 ^ d % 2 ≡ 0
none k d l = ap (λ (x : ℕ). x % 2) (div-eq_of_lt (subst (λ (x : ℕ). x < 2 ^ d) (sym (one-mul (2 ^ k))) (pow-lt l)))

pub digit_pow : (k d : ℕ) → digit (1 * 2 ^ k) d ≡ eqb d k
unfolding digit
digit_pow k d = go (ℕ_discrete d k) (dec_lt d k)
  where
    go : Dec (d ≡ k) → Dec (d < k) → eqb (1 * 2 ^ k / 2 ^ d % 2) 1 ≡ eqb d k
    go (yes e) l = rw (e, shl-shr 1 k, eq-eqb k k refl)
    go (no n) (yes l) = rw (even k d (k - suc d) (omega arith), ne_eqb d k n)
    go (no n) (no l) = rw (none k d (omega arith), ne_eqb d k n)

-- `1u64 << k` does not wrap
pub shl_one : (k : ℕ) → k < 64 → (1 * 2 ^ k) % 2 ^ 64 ≡ 1 * 2 ^ k
shl_one k h = shl_exact 1 k 64 (lit< tt) (omega arith)

one_digit : (x : ℕ) → x < 2 → x ≡ one (eqb x 1)
one_digit zero h = refl
one_digit (suc zero) h = refl
one_digit (suc (suc x)) h = absurd (omega arith)

low_digit : (n : ℕ) → n % 2 ≡ 1 → digit n 0 ≡ true
unfolding digit
low_digit n e = rw (div-one n, e)

first : (n : ℕ) → n % 2 ≡ one (digit n 0)
unfolding digit
first n = rw (div-one n) (one_digit (n % 2) (mod-lt n two_pos))

-- ---- a number that is not 0 has a digit set

digit_suc : (n d : ℕ) → digit n (suc d) ≡ digit (n / 2) d
unfolding digit
digit_suc n d = ap (λ (x : ℕ). eqb (x % 2) 1) (ap (λ (x : ℕ). n / 2 ^ x) (omega arith) ∙ sym (shr-shr n 1 d))

pub set_digit : (k n : ℕ) → n < 2 ^ k → (n ≡ 0) ⊎ ((d : ℕ) × (d < k) × (digit n d ≡ true))
set_digit zero n h = inl (lt-one h)
set_digit (suc k) n h = go (set_digit k (n / 2) (shr_lt k 1 (subst (λ (x : ℕ). n < 2 ^ x) (sym (add-one k)) h))) (ℕ_discrete (n % 2) 1)
  where
    go : (n / 2 ≡ 0) ⊎ ((d : ℕ) × (d < k) × (digit (n / 2) d ≡ true)) → Dec (n % 2 ≡ 1)
        → (n ≡ 0) ⊎ ((d : ℕ) × (d < suc k) × (digit n d ≡ true))
    go r (yes e) = inr (0, omega arith, low_digit n e)
    go (inl z) (no e) = inl (omega arith)
    go (inr f) (no e) = inr (suc f.0, omega (arith, f.1), digit_suc n f.0 ∙ f.2)

-- ---- the ones of a word are the sum of its digits

pub ones_sum : (k n : ℕ) → n < 2 ^ k → ones n ≡ sum k (λ d. one (digit n d))
unfolding sum ones
ones_sum zero n h = ap ones (lt-one h)
ones_sum (suc k) n h =
    ones_step n
    ∙ ap₂ ◌+◌ (first n) (ones_sum k (n / 2) (shr_lt k 1 (subst (λ (x : ℕ). n < 2 ^ x) (sym (add-one k)) h)) ∙ sum_ext k (λ d. one (digit (n / 2) d)) (λ d. one (digit n (suc d))) (λ d l. ap one (sym (digit_suc n d))))
    ∙ sym (sum_front k (λ d. one (digit n d)))
