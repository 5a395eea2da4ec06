-- Texts that compute.
use Rattle.std.specs.Prelude.{◌≡◌, refl}
use Rattle.std.specs.Float.{binary64}
use Rattle.std.specs.Float.Ieee.{of_bits, to_bits}
use Rattle.answer_text.specs.Text.{ascii, decimal_to, decimal_text, hex_text, whole_text, float_text, refused_text, line_feed}

not_below_zero : refused_text 12 1 0 ≡ ascii "refused 12 1 0\n"
unfolding refused_text whole_text decimal_text decimal_to ascii
not_below_zero = refl

largest : decimal_text 18446744073709551615 ≡ ascii "18446744073709551615"
unfolding decimal_text decimal_to ascii
largest = refl

a_thousand : float_text (of_bits binary64 0x408f_4000_0000_0000) line_feed ≡ ascii "408f400000000000\n"
unfolding float_text hex_text ascii to_bits of_bits
a_thousand = refl
