-- A value that an f64 holds rounds to itself, whatever fraction it is written as. Assumes nothing.
use mathlib.Core.Path.{◌≡◌, refl, sym, ap, ◌∙◌, subst}
use mathlib.Core.Bool.{Bool, cond, ◌&&◌}
use Prim.Native.Nat.{ℕ, zero, suc, ◌+◌, ◌-◌, ◌*◌, ◌/◌, ◌%◌, ◌^◌, ◌≤◌, ◌<◌}
use native.Mathlib.Nat.{mul-one, one-mul, zero-mul, mul_assoc, mul_comm, mul_right_comm, mul-pos, eq_of_mul-eq-mul_right, lt_of_mul-lt-mul_right, mul-lt-mul_of_pos_right, not-le_of_lt}
use native.Mathlib.Decide.{dec_le}
use native.Mathlib.Omega.{arith}
use lib.IntN.{ℤ, pos, negsuc}
use lib.Dec.{T, leb, ltb, eqb, leb→le, ltb→lt, eqb→eq}
use lib.Pow.{pow-add, pow_pos, pow-lt}
use lib.Ieee.{Float, nan, inf, fin, Format, prec, emax, low, up, down, size, round, to_bits, of_bits, fits, hid, top}
use lib.Ieee.Exact.{HasValue, round_exact}
use lib.Ieee.Fits.{and_l, and_r, down_pos, round-fits}
use lib.Ieee.Bits.{of_bits-to_bits}
use lib.Ieee.Nearest.{div_same}
use lib.Ieee.Digits.{back}

-- ---- two values that fit and have one size and one sign are the same

bits_of : Format → Bool → ℕ → ℕ
bits_of f s n =
    let k = size n - prec f in
    cond s (top f) 0 + k * hid f + n / 2 ^ k

bits_of_lem : (f : Format) (s : Bool) (m : ℕ) (e : ℤ) → to_bits f (fin s m e) ≡ bits_of f s (m * up e * 2 ^ low f / down e)
unfolding to_bits bits_of
bits_of_lem f s m e = refl

value_bits : (f : Format) (x : Float) (s : Bool) (a c : ℕ) → 0 < c → HasValue x s a c → to_bits f x ≡ bits_of f s (a * 2 ^ low f / c)
value_bits f nan s a c h v = absurd v
value_bits f (inf t) s a c h v = absurd v
value_bits f (fin t m e) s a c h v =
    bits_of_lem f t m e
    ∙ ap (λ (b : Bool). bits_of f b (m * up e * 2 ^ low f / down e)) v.0
    ∙ ap (bits_of f s)
    (div_same (m * up e * 2 ^ low f) (down e) (a * 2 ^ low f) c (down_pos e) h
    (mul_right_comm (m * up e) (2 ^ low f) c ∙ ap (λ (n : ℕ). n * 2 ^ low f) v.1 ∙ mul_right_comm a (down e) (2 ^ low f)))

pub same_value : (f : Format) (x y : Float) (s : Bool) (a c : ℕ) → 0 < c → T (fits f x) → T (fits f y) → HasValue x s a c → HasValue y s a c → x ≡ y
same_value f x y s a c h p q v w =
    sym (of_bits-to_bits f x p) ∙ ap (of_bits f) (value_bits f x s a c h v ∙ sym (value_bits f y s a c h w)) ∙ of_bits-to_bits f y q

-- ---- what `fits` says, taken apart

pub down_le : (f : Format) (s : Bool) (m : ℕ) (e : ℤ) → T (fits f (fin s m e)) → down e ≤ 2 ^ low f
unfolding fits
down_le f s zero e t = go e (eqb→eq (up e * down e) 1 t)
  where
    go : (e : ℤ) → up e * down e ≡ 1 → down e ≤ 2 ^ low f
    go (pos k) h = pow_pos (low f)
    go (negsuc k) h = rw (← one-mul (2 ^ suc k)) (rw h (pow_pos (low f)))
down_le f s (suc m) e t =
    leb→le (down e) (2 ^ low f)
    (and_r (eqb (suc m % 2) 1 && ltb (suc m) (2 ^ prec f)) (leb (down e) (2 ^ low f))
    (and_l (eqb (suc m % 2) 1 && ltb (suc m) (2 ^ prec f) && leb (down e) (2 ^ low f)) (ltb (suc m * up e) (2 ^ suc (emax f) * down e)) t))

digits_lt : (f : Format) (s : Bool) (m : ℕ) (e : ℤ) → T (fits f (fin s m e)) → m < 2 ^ prec f
unfolding fits
digits_lt f s zero e t = pow_pos (prec f)
digits_lt f s (suc m) e t =
    ltb→lt (suc m) (2 ^ prec f)
    (and_r (eqb (suc m % 2) 1) (ltb (suc m) (2 ^ prec f))
    (and_l (eqb (suc m % 2) 1 && ltb (suc m) (2 ^ prec f)) (leb (down e) (2 ^ low f))
    (and_l (eqb (suc m % 2) 1 && ltb (suc m) (2 ^ prec f) && leb (down e) (2 ^ low f)) (ltb (suc m * up e) (2 ^ suc (emax f) * down e)) t)))

reach_lt : (f : Format) (s : Bool) (m : ℕ) (e : ℤ) → T (fits f (fin s m e)) → m * up e < 2 ^ suc (emax f) * down e
unfolding fits
reach_lt f s zero e t = subst (λ (n : ℕ). n < 2 ^ suc (emax f) * down e) (sym (zero-mul (up e))) (mul-pos (pow_pos (suc (emax f))) (down_pos e))
reach_lt f s (suc m) e t =
    ltb→lt (suc m * up e) (2 ^ suc (emax f) * down e)
    (and_r (eqb (suc m % 2) 1 && ltb (suc m) (2 ^ prec f) && leb (down e) (2 ^ low f)) (ltb (suc m * up e) (2 ^ suc (emax f) * down e)) t)

-- 2 ^ e is 2 ^ j of the smallest values
pub place : (l : ℕ) (e : ℤ) → down e ≤ 2 ^ l → (j : ℕ) × (up e * 2 ^ l ≡ 2 ^ j * down e)
place l (pos k) h = (k + l, sym (pow-add 2 k l) ∙ sym (mul-one (2 ^ (k + l))))
place l (negsuc k) h = go (dec_le (suc k) l)
  where
    go : Dec (suc k ≤ l) → (j : ℕ) × (1 * 2 ^ l ≡ 2 ^ j * 2 ^ suc k)
    go (yes b) = (l - suc k, one-mul (2 ^ l) ∙ ap (λ (n : ℕ). 2 ^ n) (sym (back l (suc k) b)) ∙ pow-add 2 (l - suc k) (suc k))
    go (no b) = absurd (not-le_of_lt (pow-lt (omega arith)) h)

-- A HELD VALUE ROUNDS TO ITSELF: whatever fraction it is written as
pub round_own : (f : Format) (s : Bool) (m : ℕ) (e : ℤ) (num den : ℕ) → T (fits f (fin s m e)) → 0 < den → m * up e * den ≡ num * down e → round f s num den ≡ fin s m e
round_own f s m e num den t h v =
    let j = place (low f) e (down_le f s m e t) in
    let w : m * up e * 2 ^ low f ≡ m * 2 ^ j.0 * down e = mul_assoc m (up e) (2 ^ low f) ∙ ap (λ (n : ℕ). m * n) j.1 ∙ sym (mul_assoc m (2 ^ j.0) (down e)) in
    let q : num * 2 ^ low f ≡ m * 2 ^ j.0 * den =
    eq_of_mul-eq-mul_right (down e) (down_pos e) (num * 2 ^ low f) (m * 2 ^ j.0 * den)
    (mul_right_comm num (2 ^ low f) (down e) ∙ ap (λ (n : ℕ). n * 2 ^ low f) (sym v) ∙ mul_right_comm (m * up e) den (2 ^ low f) ∙ ap (λ (n : ℕ). n * den) w ∙ mul_right_comm (m * 2 ^ j.0) (down e) den) in
    let r : m * 2 ^ j.0 < 2 ^ (low f + suc (emax f)) =
    lt_of_mul-lt-mul_right (down e)
    (subst (λ (n : ℕ). n < 2 ^ (low f + suc (emax f)) * down e) w
    (subst (λ (n : ℕ). m * up e * 2 ^ low f < n)
    (mul_right_comm (2 ^ suc (emax f)) (down e) (2 ^ low f) ∙ ap (λ (n : ℕ). n * down e) (mul_comm (2 ^ suc (emax f)) (2 ^ low f) ∙ sym (pow-add 2 (low f) (suc (emax f)))))
    (mul-lt-mul_of_pos_right (reach_lt f s m e t) (pow_pos (low f))))) in
    same_value f (round f s num den) (fin s m e) s num den h (round-fits f s num den) t
    (round_exact f s num den m j.0 h (digits_lt f s m e t) r q) (refl, v)
