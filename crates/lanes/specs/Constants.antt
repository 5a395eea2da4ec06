-- The constants of document 01, as numbers and by their exact patterns. Definitions only.
use Rattle.std.specs.Prelude.{◌≡◌, false, ℕ, Float}
use Rattle.std.specs.Float.{binary64}
use Rattle.std.specs.Float.Ieee.{round, of_bits}
use Rattle.lanes.specs.Arithmetic.{whole}

-- the pattern of 1.0
abbrev pub one_bits : ℕ
one_bits = 0x3ff0_0000_0000_0000

-- 1000.0: every number of a machine at the start
abbrev pub start_value : Float
start_value = whole 1000

abbrev pub start_bits : ℕ
start_bits = 0x408f_4000_0000_0000

-- 0.1: the centring, one tenth rounded
abbrev pub centring_value : Float
centring_value = round binary64 false 1 10

abbrev pub centring_bits : ℕ
centring_bits = 0x3fb9_9999_9999_999a

-- 0.9995: the damping, 9995 / 10000 rounded
abbrev pub damping_value : Float
damping_value = round binary64 false 9995 10000

abbrev pub damping_bits : ℕ
damping_bits = 0x3fef_fbe7_6c8b_4396

-- each pattern stands for its number; `patterns_exact` of `proofs/Consts` proves it
abbrev pub PatternsExact : Type 0
PatternsExact = (of_bits binary64 start_bits ≡ start_value) × (of_bits binary64 centring_bits ≡ centring_value) × (of_bits binary64 damping_bits ≡ damping_value)
