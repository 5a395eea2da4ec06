-- Little-endian numbers in a list of bytes, and rows of them. Definitions only.
use Rattle.std.specs.Prelude.{List, ℕ, ◌+◌, ◌*◌, get_or, Float}
use Rattle.std.specs.Float.{binary64}
use Rattle.std.specs.Float.Ieee.{of_bits}
use Rattle.lanes.specs.Lists.{grow, vec}

-- the number of two, four or eight bytes from a place on
abbrev pub le2 : List ℕ → ℕ → ℕ
le2 s at = get_or s at 0 + get_or s (at + 1) 0 * 256

abbrev pub le4 : List ℕ → ℕ → ℕ
le4 s at = le2 s at + le2 s (at + 2) * 65536

abbrev pub le8 : List ℕ → ℕ → ℕ
le8 s at = le4 s at + le4 s (at + 4) * 4294967296

-- count numbers of two bytes from a place on
unfoldable pub shorts : List ℕ → ℕ → ℕ → List ℕ
unfolding grow
shorts s at count = grow count (λ _ k. le2 s (at + 2 * k))

-- count floats from a place on, each by its pattern; a pattern of a NaN is NaN
unfoldable pub floats : List ℕ → ℕ → ℕ → List Float
unfolding vec
floats s at count = vec count (λ k. of_bits binary64 (le8 s (at + 8 * k)))
