-- What a caller sets besides the problem: the tests to make at most, the centring and the damping. Definitions only.
use Rattle.std.specs.Prelude.{◌≡◌, Bool, ◌&&◌, ℕ, ltb, Float}
use Rattle.std.specs.Float.{binary64}
use Rattle.std.specs.Float.Ieee.{lt, of_bits}
use Rattle.lanes.specs.Arithmetic.{null, one}
use Rattle.lanes.specs.Constants.{one_bits, centring_value, damping_value}
use Rattle.lanes.specs.declared.Controls.{Controls}

abbrev pub controls : ℕ → Float → Float → Controls
controls limit centring damping = record { limit = limit; centring = centring; damping = damping }

-- document 01's own two
abbrev pub standard_controls : ℕ → Controls
standard_controls limit = controls limit centring_value damping_value

-- a proper fraction: 'above 0 and below 1'. NaN is neither
unfoldable pub proper : Float → Bool
unfolding lt
proper p = lt null p && lt p one

-- question 13: a no 'when either isn't above 0 and below 1'
abbrev pub fractions_proper : Controls → Bool
fractions_proper k = proper k.centring && proper k.damping

-- `proper` by patterns: from 1, which is 2^-1074, to 3FEFFFFFFFFFFFFF, which is 1 - 2^-53, and no others; `proper_patterns` of `proofs/Fractions` proves it
abbrev pub ProperPatterns : Type 0
ProperPatterns = (b : ℕ) → proper (of_bits binary64 b) ≡ (ltb 0 b && ltb b one_bits)
