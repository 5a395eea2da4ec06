-- A region of a memory of K lanes: n entries from entry o. Definitions only.
use Rattle.std.specs.Prelude.{ℕ, ◌+◌, ◌*◌, ◌≤◌, ◌<◌, ◌≡◌, ◌⊎◌, List, length, Float}
use Rattle.lanes.specs.Lists.{at, vec, grow}
use Rattle.lanes.specs.Lanes.{cell}

-- lane l of the n entries from entry o
unfoldable pub reg : ℕ → List Float → ℕ → ℕ → ℕ → List Float
unfolding vec
reg K ws o n l = vec n (λ k. cell K ws (o + k) l)

-- nothing but the n entries from entry o has changed
pub record Kept (K o n : ℕ) (old new : List Float) : Type 0 where
  pub size : length new ≡ length old
  pub outside : (j : ℕ) → (j < K * o) ⊎ (K * (o + n) ≤ j) → at new j ≡ at old j

-- the n entries from entry o are written: lane l of them is `G l`. Nothing else has changed.
pub record Fills (K o n : ℕ) (G : ℕ → List Float) (old new : List Float) : Type 0 where
  pub kept : Kept K o n old new
  pub within : (l : ℕ) → l < K → reg K new o n l ≡ G l

-- the first i entries of a region are written, each by `F` from those before it. Nothing else has changed.
pub record Grows (K o i : ℕ) (F : ℕ → List Float → ℕ → Float) (old new : List Float) : Type 0 where
  pub kept : Kept K o i old new
  pub within : (l : ℕ) → l < K → reg K new o i l ≡ grow i (F l)

-- m entries from p and n entries from o have none in common
pub data Apart (p m o n : ℕ) : Type 0 where
  before : p + m ≤ o → Apart p m o n
  after : o + n ≤ p → Apart p m o n
