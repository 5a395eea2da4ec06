-- IEEE 754-2019's classes of operands, by a pattern's fields, and the table of what squareRoot answers at each. Definitions only.
use Rattle.std.specs.Prelude.{Option, Some, None, Bool, cond, ℕ, zero, suc, ◌/◌, ◌%◌, ◌^◌, leb, ltb}

-- the ten classes of clause 5.7.2
pub data Class : Type 0 where
  signaling_nan quiet_nan : Class
  negative_infinity negative_normal negative_subnormal negative_zero : Class
  positive_zero positive_subnormal positive_normal positive_infinity : Class

-- A pattern's fields are those of clause 3.4: the sign s is the highest bit, the biased exponent e the 11 below it, and the trailing significand t the other 52.
-- e is 0 at zeros and subnormal numbers, 1 to 2046 at normal numbers, and 2047 at infinities and NaNs.
abbrev signed : Bool → Class → Class → Class
signed s negative positive = cond s negative positive

-- where e is 0
abbrev pub low_class : Bool → ℕ → Class
low_class s zero = signed s negative_zero positive_zero
low_class s (suc t) = signed s negative_subnormal positive_subnormal

-- where e is 2047; a quiet NaN has the highest bit of t set (6.2.1)
abbrev pub high_class : Bool → ℕ → Class
high_class s zero = signed s negative_infinity positive_infinity
high_class s (suc t) = cond (ltb (suc t) (2 ^ 51)) signaling_nan quiet_nan

unfoldable pub class_at : Bool → ℕ → ℕ → Class
class_at s zero t = low_class s t
class_at s (suc e) t = cond (ltb (suc e) 2047) (signed s negative_normal positive_normal) (high_class s t)

unfoldable pub class_of : ℕ → Class
unfolding class_at
class_of b = class_at (leb (2 ^ 63) b) (b % 2 ^ 63 / 2 ^ 52) (b % 2 ^ 52)

-- the NaN that is answered: quiet, with the sign clear and no payload
abbrev pub nan_answer : ℕ
nan_answer = 0x7FF8_0000_0000_0000

abbrev pub infinity_bits : ℕ
infinity_bits = 0x7FF0_0000_0000_0000

abbrev pub minus_zero_bits : ℕ
minus_zero_bits = 0x8000_0000_0000_0000

-- The table: what is answered at once, with the clause that says so. What is left is a finite number above zero.
abbrev pub at_once : Class → Option ℕ
-- 6.2 and 7.2 a: an invalid operation, and its answer is a quiet NaN
at_once signaling_nan = Some nan_answer
-- 6.2: a quiet NaN
at_once quiet_nan = Some nan_answer
-- 7.2 g: an operand below zero is invalid
at_once negative_infinity = Some nan_answer
at_once negative_normal = Some nan_answer
at_once negative_subnormal = Some nan_answer
-- 5.4.1 and 6.3: the root of -0 is -0
at_once negative_zero = Some minus_zero_bits
-- 5.4.1 and 6.3: the root of any other number has its sign clear
at_once positive_zero = Some 0
at_once positive_subnormal = None
at_once positive_normal = None
-- 6.1: exact, as the limit of large operands
at_once positive_infinity = Some infinity_bits
