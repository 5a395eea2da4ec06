-- The root of an f64 is a value that an f64 holds, and what its bit pattern says of it. Assumes nothing.
use mathlib.Core.Path.{◌≡◌, refl, sym, ap, ◌∙◌, subst}
use Prim.Native.Nat.{ℕ, zero, suc, ◌+◌, ◌-◌, ◌*◌, ◌/◌, ◌%◌, ◌^◌, ◌≤◌, ◌<◌, compare}
use native.Mathlib.Nat.{le_trans, le_refl, lt_of_le_of_lt}
use mathlib.Core.Bool.{Bool, true, false, not, cond}
use lib.Dec.{T, ltb, ltb→lt}
use lib.Pow.{pow-lt}
use lib.Ieee.{Float, nan, inf, fin, binary64, up, down, size, nearest, units, odd, to_bits, of_bits, nan_bits, is_nan, fits}
use lib.Ieee.Fits.{odd-fits, nan-fits, inf-fits, nearest-le, kept-lt}
use lib.Ieee.Bits.{of_bits-to_bits, nan_bits_is, nan_bits_above}
use borrow.Author.Tests.{lt-ltb, le-ltb}
use Rattle.root.specs.Root.{whole_root, root_units, root, root_bits}
use Rattle.root.proofs.Core.{made_is, root_bits_is}

units_fits : (s : Bool) (q k : ℕ) → q ≤ 2 ^ 53 → T (fits binary64 (units binary64 s q k))
unfolding units
units_fits s q k a = go (ltb (q * 2 ^ k) (2 ^ 2098)) (ltb→lt (q * 2 ^ k) (2 ^ 2098))
  where
    go : (b : Bool) → (T b → q * 2 ^ k < 2 ^ 2098) → T (fits binary64 (cond b (odd 54 s q k 1074) (inf s)))
    go true h = odd-fits binary64 54 s q k (lt_of_le_of_lt a (pow-lt {i = 53} {j = 54} (le_refl 54))) a (h tt)
    go false h = inf-fits binary64 s

root_units_fits : (n : ℕ) → T (fits binary64 (root_units binary64 n))
root_units_fits n =
    let k = size (whole_root n) - 53 in
    let q = whole_root n / 2 ^ k in
    let o = compare (4 * n) ((2 * q + 1) * 2 ^ k * ((2 * q + 1) * 2 ^ k)) in
    subst (λ (x : Float). T (fits binary64 x)) (sym (made_is n)) (units_fits false (nearest q o) k (le_trans (nearest-le q o) (kept-lt 53 (whole_root n))))

pub root_fits : (x : Float) → T (fits binary64 x) → T (fits binary64 (root binary64 x))
unfolding root
root_fits nan h = nan-fits binary64
root_fits (inf true) h = nan-fits binary64
root_fits (inf false) h = inf-fits binary64 false
root_fits (fin s zero e) h = h
root_fits (fin true (suc m) e) h = nan-fits binary64
root_fits (fin false (suc m) e) h = root_units_fits (suc m * up e * 2 ^ 2148 / down e)

-- ---- a NaN, as a test, as a value and as a pattern

pub nan_made : of_bits binary64 0x7FF8_0000_0000_0000 ≡ nan
unfolding of_bits
nan_made = refl

pub nan_pattern : 0x7FF8_0000_0000_0000 ≡ to_bits binary64 nan
unfolding to_bits
nan_pattern = refl

pub is_nan_lem : (x : Float) → is_nan x ≡ true → nan ≡ x
unfolding is_nan
is_nan_lem nan h = refl
is_nan_lem (inf s) h = cc
is_nan_lem (fin s m e) h = cc

-- a pattern above an infinity's is a NaN's, and any other is not
pub above_infinity : (n : ℕ) → 0x7FF0_0000_0000_0000 < n % 2 ^ 63 → nan ≡ of_bits binary64 n
above_infinity n h = is_nan_lem (of_bits binary64 n) (sym (nan_bits_is binary64 n) ∙ nan_bits_above binary64 n ∙ lt-ltb _ _ h)

pub up_to_infinity : (n : ℕ) → n % 2 ^ 63 ≤ 0x7FF0_0000_0000_0000 → T (not (nan_bits binary64 n))
up_to_infinity n h = subst (λ (b : Bool). T (not b)) (sym (nan_bits_above binary64 n ∙ le-ltb _ _ h)) tt

-- ---- from a value's pattern to its root

pub read_back : (x : Float) → T (fits binary64 x) → (r : ℕ) → r ≡ root_bits (to_bits binary64 x) → of_bits binary64 r ≡ root binary64 x
read_back x h r e =
    ap (of_bits binary64) (e ∙ root_bits_is (to_bits binary64 x) ∙ ap (λ (y : Float). to_bits binary64 (root binary64 y)) (of_bits-to_bits binary64 x h))
    ∙ of_bits-to_bits binary64 (root binary64 x) (root_fits x h)
