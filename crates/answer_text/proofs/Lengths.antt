-- No text is longer than its stated most. Assumes nothing.
use mathlib.Core.Path.{◌≡◌, refl, ◌∙◌}
use mathlib.Core.Bool.{Bool, true, false, cond}
use mathlib.Core.List.{List, [], ◌∷◌, ◌++◌}
use Prim.Native.Nat.{ℕ, zero, suc, ◌+◌, ◌*◌, ◌/◌, ◌%◌, ◌≤◌}
use native.Mathlib.Omega.{arith}
use lib.Dec.{ltb}
use lib.ListN.{length, length-append}
use lib.Ieee.{Float, binary64, to_bits}
use Rattle.io.specs.Digits.{hex_digit_ascii}
use Rattle.lanes.specs.Lists.{at}
use Rattle.base.specs.Cat.{cat}
use Rattle.answer_text.specs.Text.{ascii, decimal_to, decimal_text, hex_text, whole_text, float_text, line_text, accepted_text, refused_text, input_text, whole_bytes, accepted_bytes, refused_bytes, input_bytes, space, line_feed}
use Rattle.answer_text.proofs.Texts.{length_digits}

decimal_length : (most n : ℕ) → length (decimal_to most n) ≤ most
unfolding decimal_to
decimal_length zero n = omega arith
decimal_length (suc most) n = go (ltb n 10) (decimal_length most (n / 10))
  where
    go : (t : Bool) → length (decimal_to most (n / 10)) ≤ most → length (cond t (hex_digit_ascii n ∷ []) (decimal_to most (n / 10) ++ (hex_digit_ascii (n % 10) ∷ []))) ≤ suc most
    go true h = omega arith
    go false h = omega (arith, length-append (decimal_to most (n / 10)) (hex_digit_ascii (n % 10) ∷ []), h)

whole_length : (n after : ℕ) → length (whole_text n after) ≤ whole_bytes
unfolding whole_text decimal_text
whole_length n after = omega (arith, length-append (decimal_to 20 n) (after ∷ []), decimal_length 20 n)

float_length : (x : Float) (after : ℕ) → length (float_text x after) ≡ 17
unfolding float_text hex_text
float_length x after = length-append (hex_text (to_bits binary64 x)) (after ∷ []) ∙ omega (arith, length_digits 16 16 (to_bits binary64 x))

line_length : (x : List Float) (e : ℕ) → length (line_text x e) ≡ 68
unfolding line_text
line_length x e =
    let a = float_text (at x (4 * e)) space in
    let b = float_text (at x (4 * e + 1)) space in
    let c = float_text (at x (4 * e + 2)) space in
    let d = float_text (at x (4 * e + 3)) line_feed in
    length-append a (b ++ (c ++ d))
    ∙ omega (
      arith,
      length-append b (c ++ d),
      length-append c d,
      float_length (at x (4 * e)) space,
      float_length (at x (4 * e + 1)) space,
      float_length (at x (4 * e + 2)) space,
      float_length (at x (4 * e + 3)) line_feed,
    )

lines_length : (n : ℕ) (x : List Float) → length (cat n (line_text x)) ≡ 68 * n
unfolding cat
lines_length zero x = refl
lines_length (suc n) x = length-append (cat n (line_text x)) (line_text x n) ∙ omega (arith, lines_length n x, line_length x n)

pub accepted_length : (test n : ℕ) (x : List Float) → length (accepted_text test x n) ≤ accepted_bytes n
unfolding accepted_text ascii
accepted_length test n x =
    omega (arith, length-append (whole_text test line_feed) (cat n (line_text x)), whole_length test line_feed, lines_length n x)

pub refused_length : (q p l : ℕ) → length (refused_text q p l) ≤ refused_bytes
unfolding refused_text ascii
refused_length q p l =
    omega (
      arith,
      length-append (whole_text q space) (whole_text p space ++ whole_text l line_feed),
      length-append (whole_text p space) (whole_text l line_feed),
      whole_length q space,
      whole_length p space,
      whole_length l line_feed,
    )

pub input_length : length input_text ≤ input_bytes
unfolding input_text ascii
input_length = omega arith
