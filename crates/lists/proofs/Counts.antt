-- What is held, and what is counted before a pair. Assumes nothing.
use mathlib.Core.Path.{◌≡◌, refl, ap, ◌∙◌}
use mathlib.Core.Bool.{Bool, ◌&&◌}
use mathlib.Core.List.{List}
use Prim.Native.Nat.{ℕ, suc, ◌+◌, ◌≤◌}
use native.Mathlib.Omega.{arith}
use native.Mathlib.Numerals.{add-one}
use borrow.Author.Tests.{le-leb}
use Rattle.csr.specs.Pattern.{stored, neighbours}
use Rattle.base.specs.Sums.{sum, one}
use Rattle.csr.specs.Counts.{is_stored}
use Rattle.lists.specs.Lists.{Shape, shape, lplace, before}

-- what is held at and below the diagonal
pub held_stored : (off cols : List ℕ) (i j : ℕ) → j ≤ i → (shape off cols).held i j ≡ stored (neighbours off cols) i j
unfolding is_stored
held_stored off cols i j h = ap (λ (t : Bool). t && stored (neighbours off cols) i j) (le-leb j i h)

-- ---- what is counted before a pair
pub before_start : (w : ℕ → ℕ → ℕ) → before w 0 0 ≡ 0
unfolding before sum
before_start w = refl

pub before_next : (w : ℕ → ℕ → ℕ) (i j : ℕ) → before w i (j + 1) ≡ before w i j + w i j
unfolding before sum
before_next w i j = ap (λ (k : ℕ). sum i (λ a. sum (suc a) (λ b. w a b)) + sum k (λ b. w i b)) (add-one j) ∙ omega arith

pub before_row : (w : ℕ → ℕ → ℕ) (i : ℕ) → before w (i + 1) 0 ≡ before w i (i + 1)
unfolding before sum
before_row w i = rw (add-one i) (omega arith)

-- the place of the first entry of row i, and of one further on
pub lplace_from : (g : Shape) (i k : ℕ) → lplace g i k ≡ lplace g i 0 + sum k (λ b. one (g.held i b))
unfolding lplace before sum
lplace_from g i k = omega arith
