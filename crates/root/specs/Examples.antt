-- Document 01's examples on the root, and the special operands, a row for each, under one theorem for values and one for patterns; and the ends of each class of operands.
use Rattle.std.specs.Prelude.{◌≡◌, refl, true, false, List, [], ◌∷◌, map, ℕ, pos, negsuc, Float}
use Rattle.std.specs.Float.{nan, inf, fin, binary64}
use Rattle.root.specs.Root.{root, root_bits}
use Rattle.root.specs.Classes.{Class, signaling_nan, quiet_nan, negative_infinity, negative_normal, negative_subnormal, negative_zero, positive_zero, positive_subnormal, positive_normal, positive_infinity, class_of}

pub record Example : Type 0 where
  pub operand : Float
  pub result : Float

unfoldable pub examples : List Example
examples =
    -- ◆ the root of 4 is 2
    record { operand = fin false 1 (pos 2); result = fin false 1 (pos 1) } ∷
    -- ◆ of 2 ^ -1074 it is 2 ^ -537
    record { operand = fin false 1 (negsuc 1073); result = fin false 1 (negsuc 536) } ∷
    -- ◆ of infinity it is infinity
    record { operand = inf false; result = inf false } ∷
    -- a zero keeps its sign
    record { operand = fin false 0 (pos 0); result = fin false 0 (pos 0) } ∷
    record { operand = fin true 0 (pos 0); result = fin true 0 (pos 0) } ∷
    -- of NaN, of -infinity and of -1 it is NaN
    record { operand = nan; result = nan } ∷
    record { operand = inf true; result = nan } ∷
    record { operand = fin true 1 (pos 0); result = nan } ∷ []

pub examples_hold : map (λ (e : Example). root binary64 e.operand) examples ≡ map (λ (e : Example). e.result) examples
unfolding examples root
examples_hold = refl

pub record BitsExample : Type 0 where
  pub operand : ℕ
  pub result : ℕ

unfoldable pub bits_examples : List BitsExample
bits_examples =
    -- the root of 2
    record { operand = 0x4000_0000_0000_0000; result = 0x3FF6_A09E_667F_3BCD } ∷
    -- ◆ the root of 4 is 2
    record { operand = 0x4010_0000_0000_0000; result = 0x4000_0000_0000_0000 } ∷
    -- -0 gives -0
    record { operand = 0x8000_0000_0000_0000; result = 0x8000_0000_0000_0000 } ∷
    -- NaNs, with or without a sign and a payload, the numbers below zero and -infinity give one NaN
    record { operand = 0x7FF0_0000_0000_0001; result = 0x7FF8_0000_0000_0000 } ∷
    record { operand = 0xFFFF_FFFF_FFFF_FFFF; result = 0x7FF8_0000_0000_0000 } ∷
    record { operand = 0x8000_0000_0000_0001; result = 0x7FF8_0000_0000_0000 } ∷
    record { operand = 0xBFF0_0000_0000_0000; result = 0x7FF8_0000_0000_0000 } ∷
    record { operand = 0xFFF0_0000_0000_0000; result = 0x7FF8_0000_0000_0000 } ∷ []

pub bits_examples_hold : map (λ (e : BitsExample). root_bits e.operand) bits_examples ≡ map (λ (e : BitsExample). e.result) bits_examples
unfolding bits_examples root_bits
bits_examples_hold = refl

-- the first and the last pattern of a class; NaNs have a part with the sign clear and one with it set
pub record ClassEnds : Type 0 where
  pub class : Class
  pub first : ℕ
  pub last : ℕ

unfoldable pub class_ends : List ClassEnds
class_ends =
    record { class = positive_zero; first = 0x0000_0000_0000_0000; last = 0x0000_0000_0000_0000 } ∷
    record { class = positive_subnormal; first = 0x0000_0000_0000_0001; last = 0x000F_FFFF_FFFF_FFFF } ∷
    record { class = positive_normal; first = 0x0010_0000_0000_0000; last = 0x7FEF_FFFF_FFFF_FFFF } ∷
    record { class = positive_infinity; first = 0x7FF0_0000_0000_0000; last = 0x7FF0_0000_0000_0000 } ∷
    record { class = signaling_nan; first = 0x7FF0_0000_0000_0001; last = 0x7FF7_FFFF_FFFF_FFFF } ∷
    record { class = quiet_nan; first = 0x7FF8_0000_0000_0000; last = 0x7FFF_FFFF_FFFF_FFFF } ∷
    record { class = negative_zero; first = 0x8000_0000_0000_0000; last = 0x8000_0000_0000_0000 } ∷
    record { class = negative_subnormal; first = 0x8000_0000_0000_0001; last = 0x800F_FFFF_FFFF_FFFF } ∷
    record { class = negative_normal; first = 0x8010_0000_0000_0000; last = 0xFFEF_FFFF_FFFF_FFFF } ∷
    record { class = negative_infinity; first = 0xFFF0_0000_0000_0000; last = 0xFFF0_0000_0000_0000 } ∷
    record { class = signaling_nan; first = 0xFFF0_0000_0000_0001; last = 0xFFF7_FFFF_FFFF_FFFF } ∷
    record { class = quiet_nan; first = 0xFFF8_0000_0000_0000; last = 0xFFFF_FFFF_FFFF_FFFF } ∷ []

pub class_ends_hold : (map (λ (e : ClassEnds). class_of e.first) class_ends ≡ map (λ (e : ClassEnds). e.class) class_ends)
    × (map (λ (e : ClassEnds). class_of e.last) class_ends ≡ map (λ (e : ClassEnds). e.class) class_ends)
unfolding class_ends class_of
class_ends_hold = (refl, refl)
