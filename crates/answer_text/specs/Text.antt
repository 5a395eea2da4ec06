-- The text of an answer, as bytes. Definitions only.
use Rattle.std.specs.Prelude.{cond, List, [], ◌∷◌, ◌++◌, ℕ, zero, suc, ◌+◌, ◌*◌, ◌/◌, ◌%◌, ltb, Float}
use Prim.Native.Char.{code}
use Prim.Native.String.{String, [] as empty, ◌∷◌ as ◌then◌}
use Rattle.std.specs.Float.{binary64}
use Rattle.std.specs.Float.Ieee.{to_bits}
use Rattle.io.specs.Digits.{hex_digit_ascii, last_digits}
use Rattle.lanes.specs.Lists.{at}
use Rattle.base.specs.Cat.{cat}

-- the bytes of a text in ASCII
unfoldable pub ascii : String → List ℕ
ascii empty = []
ascii (c then s) = code c ∷ ascii s

-- the decimal digits of a number, the first of them no 0; `most` digits are enough
unfoldable pub decimal_to : ℕ → ℕ → List ℕ
decimal_to zero n = []
decimal_to (suc most) n = cond (ltb n 10) (hex_digit_ascii n ∷ []) (decimal_to most (n / 10) ++ (hex_digit_ascii (n % 10) ∷ []))

-- a u64 has at most 20
unfoldable pub decimal_text : ℕ → List ℕ
unfolding decimal_to
decimal_text n = decimal_to 20 n

-- a pattern as 16 lower-case hexadecimal digits
unfoldable pub hex_text : ℕ → List ℕ
hex_text b = last_digits 16 16 b

abbrev pub space : ℕ
space = 32

abbrev pub line_feed : ℕ
line_feed = 10

-- a number, or a float by its pattern, and the byte after it
unfoldable pub whole_text : ℕ → ℕ → List ℕ
unfolding decimal_text
whole_text n after = decimal_text n ++ (after ∷ [])

unfoldable pub float_text : Float → ℕ → List ℕ
unfolding hex_text
float_text x after = hex_text (to_bits binary64 x) ++ (after ∷ [])

-- the most bytes that a number and the byte after it take, and what a float and a line take
abbrev pub whole_bytes : ℕ
whole_bytes = 21

abbrev pub float_bytes : ℕ
float_bytes = 17

abbrev pub line_bytes : ℕ
line_bytes = 68

-- `a line for each column with four lanes`: that of column e
unfoldable pub line_text : List Float → ℕ → List ℕ
unfolding float_text
line_text x e =
    float_text (at x (4 * e)) space
    ++ (float_text (at x (4 * e + 1)) space ++ (float_text (at x (4 * e + 2)) space ++ float_text (at x (4 * e + 3)) line_feed))

-- `accepted and the test, then a line for each column`
unfoldable pub accepted_text : ℕ → List Float → ℕ → List ℕ
unfolding ascii whole_text line_text cat
accepted_text test x n = ascii "accepted " ++ (whole_text test line_feed ++ cat n (line_text x))

-- the most bytes that it takes with n columns
abbrev pub accepted_bytes : ℕ → ℕ
accepted_bytes n = 9 + whole_bytes + line_bytes * n

-- `refused, question, place, lane`
unfoldable pub refused_text : ℕ → ℕ → ℕ → List ℕ
unfolding ascii whole_text
refused_text question place lane = ascii "refused " ++ (whole_text question space ++ (whole_text place space ++ whole_text lane line_feed))

-- the most bytes that it takes
abbrev pub refused_bytes : ℕ
refused_bytes = 8 + 3 * whole_bytes

-- `it prints input`
unfoldable pub input_text : List ℕ
unfolding ascii
input_text = ascii "input\n"

abbrev pub input_bytes : ℕ
input_bytes = 6
