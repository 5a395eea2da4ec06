-- What each step of a lane's root promises, in the order and the words of the one-lane root: special operands, exponent halved, root digits, rounding.
-- Definitions only.
use Rattle.std.specs.Prelude.{◌≡◌, Bool, true, false, not, ◌&&◌, cond, ◌⊎◌, ℕ, ◌+◌, ◌-◌, ◌*◌, ◌/◌, ◌%◌, ◌^◌, ◌≤◌, ◌<◌, T, leb, ltb, Float}
use Rattle.std.specs.Float.{binary64}
use Rattle.std.specs.Float.Ieee.{add, sub, mul, lt, is_nan, to_bits, of_bits}
use Rattle.std.specs.Float.Ieee.Exact.{HasValue}
use Rattle.std.specs.Float.Ieee.Scale.{finite}
use Rattle.root.specs.Classes.{infinity_bits}

-- ---- 1. special operands: those left to the one-lane root

-- 2 ^ -959. Near it the squares of a root's last digits come down to the smallest value above zero, 2 ^ -1074, and the rounding's test needs them exact.
abbrev pub small_bits : ℕ
small_bits = 0x0400_0000_0000_0000

abbrev pub small : Float
small = of_bits binary64 small_bits

-- all that is not above it: NaNs, what is below zero, zeros, subnormal numbers, and the normal ones up to it
abbrev pub left_to_one_lane : Float → Bool
left_to_one_lane x = not (lt small x)

-- by patterns: those above its own are taken, up to +infinity's, and no others; `left_patterns` of `proofs/Order` proves it
abbrev pub LeftPatterns : Type 0
LeftPatterns = (b : ℕ) → left_to_one_lane (of_bits binary64 b) ≡ not (ltb small_bits b && leb b infinity_bits)

-- x is taken
-- a clause: a type for such a float would make each use longer
abbrev pub Ample : Float → Type 0
Ample x = lt small x ≡ true

-- ---- 2. exponent halved: a first guess at 1 / (2 * √x)

-- y is from 1 / (2 * √x) up and below 1 / √x: less than a factor of two too large. Counted in the smallest value above zero, 2 ^ -1074, x is n of them and y is k,
-- so x * y * y is n * k * k / 2 ^ 3222: from 1 / 4 up and below 1.
pub record OnePlace (x y : Float) : Type 0 where
  pub n : ℕ
  pub k : ℕ
  pub operand : HasValue x false n (2 ^ 1074)
  pub guess : HasValue y false k (2 ^ 1074)
  pub from : 2 ^ 3222 ≤ 4 * (n * (k * k))
  pub below : n * (k * k) < 2 ^ 3222

-- half of x's pattern taken from this one: the guess's exponent is half of x's, with the sign turned
abbrev pub guess_bits : ℕ
guess_bits = 0x5FDB_F700_0000_0000

abbrev pub guess : Float → Float
guess x = of_bits binary64 (guess_bits - to_bits binary64 x / 2)

pub record Halved (x y : Float) : Type 0 where
  pub is : y ≡ guess x
  pub near : T (finite x) → OnePlace x y

-- ---- 3. root digits: an estimate of √x

-- a step of Newton's toward 1 / (2 * √x): linear * y - cubic * y * y * y
abbrev pub newton : (linear cubic y : Float) → Float
newton linear cubic y = sub binary64 (mul binary64 linear y) (mul binary64 (mul binary64 cubic y) (mul binary64 y y))

-- 1e300
abbrev pub large : Float
large = of_bits binary64 0x7E37_E43C_8800_759C

-- s where it is below that, and that otherwise, also for a NaN
abbrev pub bounded : Float → Float
bounded s = cond (lt s large) s large

pub record Bounded (s r : Float) : Type 0 where
  pub is : r ≡ bounded s
  pub number : T (not (is_nan r))

-- the value of a pattern with its low 27 digits cleared: it has 26 digits at most, so its square is exact
abbrev pub upper : ℕ → Float
upper b = of_bits binary64 (b - b % 2 ^ 27)

-- 1.1910675901925349, 1.50000032 and 1.75000000000019
abbrev first_factor : Float
first_factor = of_bits binary64 0x3FF3_0E9C_E3B3_3D4F

abbrev second_factor : Float
second_factor = of_bits binary64 0x3FF8_0000_55E6_3B89

abbrev third_factor : Float
third_factor = of_bits binary64 0x3FFC_0000_0000_0358

-- √x is high + (x - high * high) / (√x + high), where `high` has the upper digits of 2 * x * y, y is near 1 / (2 * √x), and `slope` is near 1 / (√x + high).
-- How near it comes is not promised: the rounding's test decides whether it is the root.
abbrev pub estimate : (x y₀ : Float) → Float
estimate x y₀ =
    let twice = add binary64 x x in
    let y = newton second_factor twice (newton first_factor x y₀) in
    let high = upper (to_bits binary64 (bounded (mul binary64 twice y))) in
    let rest = sub binary64 x (mul binary64 high high) in
    let square = mul binary64 y y in
    let slope = sub binary64 (sub binary64 (mul binary64 third_factor y) (mul binary64 (mul binary64 x y) square)) (mul binary64 high square) in
    add binary64 high (mul binary64 rest slope)

-- ---- 4. rounding: the test that an estimate is √x, rounded once

-- 2 ^ -480
abbrev pub least_bits : ℕ
least_bits = 0x21F0_0000_0000_0000

abbrev pub least : Float
least = of_bits binary64 least_bits

-- x where it is above that, and that otherwise, also for a NaN
abbrev pub raised : Float → Float
raised x = cond (lt least x) x least

pub record Raised (x r : Float) : Type 0 where
  pub equal : r ≡ raised x
  pub number : T (not (is_nan r))
  pub is : (r ≡ x) ⊎ (to_bits binary64 r ≡ least_bits)
  pub least : least_bits ≤ to_bits binary64 r
  pub most : to_bits binary64 r ≤ infinity_bits

abbrev pub larger : Float → Float → Float
larger a b = cond (lt b a) a b

-- how far a and p are apart: the larger of their two differences
abbrev pub apart : Float → Float → Float
apart a p = larger (sub binary64 a p) (sub binary64 p a)

-- from the pattern of a power of two to that of its last digit's weight, less one part in 2 ^ 22
abbrev pub down_to_unit : ℕ
down_to_unit = 52 * 2 ^ 52 + 2 ^ 31

-- With s = high + low, x - s * s is x - high * high less (high + s) * low. The test asks whether that is less than `high` times the weight of s's last digit,
-- less one part in 2 ^ 22, which is more than what the sum and the product are rounded by.
-- The digits are those of the number before s, so that low is above zero and a power of two has the finer weight of the numbers below it.
abbrev pub passes_at : (x s : Float) → Bool
passes_at x s =
    let before = to_bits binary64 s - 1 in
    let high = upper before in
    let unit = of_bits binary64 (before - before % 2 ^ 52 - down_to_unit) in
    lt (apart (sub binary64 x (mul binary64 high high)) (mul binary64 (add binary64 high s) (sub binary64 s high))) (mul binary64 high unit)

abbrev pub passes : (x near : Float) → Bool
passes x near = passes_at x (raised near)
