-- Sums of whole numbers. Definitions only.
use Rattle.std.specs.Prelude.{Bool, true, false, ℕ, zero, suc, ◌+◌}

-- one for true
abbrev pub one : Bool → ℕ
one true = 1
one false = 0

-- f 0 + .. + f (n - 1)
unfoldable pub sum : ℕ → (ℕ → ℕ) → ℕ
sum zero f = 0
sum (suc n) f = sum n f + f n
