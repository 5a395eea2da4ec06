-- IEEE 754 on squareRoot: it is computed as if with unlimited range and precision, and rounded once, to the nearest value, ties to even.
-- Here that is said of `root` with no word of how it is worked out. `root_nearest` of `proofs/Law` proves `RootNearest`. Definitions only.
use Rattle.std.specs.Prelude.{ℕ, ◌+◌, ◌*◌, ◌^◌, ◌<◌, false, T, Float}
use Rattle.std.specs.Float.{binary64}
use Rattle.std.specs.Float.Ieee.{fits}
use Rattle.std.specs.Float.Ieee.Exact.{HasValue}
use Rattle.std.specs.Float.Ieee.Positive.{positive}
use Rattle.root.specs.Root.{root}

-- a is nearer to √n than b: √n lies on a's side of the middle, (a + b) / 2. In squares, 4 * n lies on a's side of (a + b) * (a + b).
abbrev pub Nearer : (n a b : ℕ) → Type 0
Nearer n a b = (b < a → (a + b) * (a + b) < 4 * n) × (a < b → 4 * n < (a + b) * (a + b))

-- r is √x rounded to nearest. All is counted in the smallest value above zero, 2 ^ -1074: r is `a` of them, and √x is √n of them.
pub record RoundedToNearest (x r : Float) : Type 0 where
  pub n : ℕ
  pub a : ℕ
  -- x is n / 4 ^ 1074
  pub operand : HasValue x false n (2 ^ 2148)
  -- r is a / 2 ^ 1074
  pub result : HasValue r false a (2 ^ 1074)
  -- r is a value of the format
  pub held : T (fits binary64 r)
  -- r is nearer to √x than any other value of the format, b / 2 ^ 1074. No other is as near: there is no tie for the even one to win. A value below zero is further off than 0.
  pub nearest : (v : Float) (b : ℕ) → T (fits binary64 v) → HasValue v false b (2 ^ 1074) → Nearer n a b

-- for every finite x above zero; the other operands are rows of `root` itself
abbrev pub RootNearest : Type 0
RootNearest = (x : Float) → T (fits binary64 x) → T (positive x) → RoundedToNearest x (root binary64 x)
