-- Estimates of roots and what the test says of them, a row for each, under one theorem.
use Rattle.std.specs.Prelude.{◌≡◌, refl, Bool, true, false, List, [], ◌∷◌, map, ℕ}
use Rattle.std.specs.Float.{binary64}
use Rattle.std.specs.Float.Ieee.{add, sub, mul, lt, to_bits, of_bits}
use Rattle.root.specs.Root.{root}
use Rattle.root4.specs.Steps.{guess, estimate, passes}

-- the patterns of an operand, of the estimate of its root, and of its root; and whether the estimate passes the test
pub record Example : Type 0 where
  pub operand : ℕ
  pub estimated : ℕ
  pub rooted : ℕ
  pub passed : Bool

unfoldable pub examples : List Example
examples =
    -- 2 and 4
    record { operand = 0x4000_0000_0000_0000; estimated = 0x3FF6_A09E_667F_3BCD; rooted = 0x3FF6_A09E_667F_3BCD; passed = true } ∷
    record { operand = 0x4010_0000_0000_0000; estimated = 0x4000_0000_0000_0000; rooted = 0x4000_0000_0000_0000; passed = true } ∷
    -- 19,713: the estimate is one too low in its last digit
    record { operand = 0x40D3_4040_0000_0000; estimated = 0x4061_8CE5_4E43_C95E; rooted = 0x4061_8CE5_4E43_C95F; passed = false } ∷
    -- 11,660,990: the estimate is the root, and the test doubts it
    record { operand = 0x4166_3DD7_C000_0000; estimated = 0x40AA_ADA3_6AF1_EAB2; rooted = 0x40AA_ADA3_6AF1_EAB2; passed = false } ∷
    -- the largest number, whose double is infinite, and +infinity: no number is estimated
    record { operand = 0x7FEF_FFFF_FFFF_FFFF; estimated = 0x7FF8_0000_0000_0000; rooted = 0x5FEF_FFFF_FFFF_FFFF; passed = false } ∷
    record { operand = 0x7FF0_0000_0000_0000; estimated = 0x7FF8_0000_0000_0000; rooted = 0x7FF0_0000_0000_0000; passed = false } ∷ []

-- a row as the definitions work it out
unfoldable pub worked : ℕ → Example
worked b =
    let x = of_bits binary64 b in
    let near = estimate x (guess x) in
    record { operand = b; estimated = to_bits binary64 near; rooted = to_bits binary64 (root binary64 x); passed = passes x near }

pub examples_hold : map (λ (e : Example). worked e.operand) examples ≡ examples
unfolding examples worked root add sub mul lt to_bits of_bits
examples_hold = refl
