-- The lanes of a block in its working memory, and what they are fed. Definitions only.
use Rattle.std.specs.Prelude.{ℕ, ◌+◌, ◌*◌, ◌≤◌, List, length, Float}
use Rattle.machine.specs.Machine.{State, Direction, LaneData}
use Rattle.lanes.specs.Lists.{at, lane}
use Rattle.lanes.specs.Lanes.{Width, room}
use Rattle.lanes.specs.Region.{reg}
use Rattle.layout.specs.declared.Block.{Block}
use Rattle.layout.specs.Layout.{y_at, dy_at, w_at, dw_at}
use Rattle.csr.specs.Questions.{max_rows, max_columns}

-- lane l's numbers, and what its step has worked out, in the memory of a block of `width` lanes
abbrev pub numbers_at : ℕ → ℕ → ℕ → ℕ → List Float → ℕ → State
numbers_at width m n s ws l = record { x = reg width ws 0 n l; z = reg width ws n n l; y = reg width ws (y_at n) m l; w = reg width ws (w_at n m) s l }

abbrev pub direction_at : ℕ → ℕ → ℕ → ℕ → List Float → ℕ → Direction
direction_at width m n s ws l = record { dx = reg width ws (2 * n) n l; dz = reg width ws (3 * n) n l; dy = reg width ws (dy_at n m) m l; dw = reg width ws (dw_at n m s) s l }

-- what lane l of a block is fed: lane first + l of b, of c and of the three tolerances
abbrev pub data_at : Block → ℕ → ℕ → List Float → List Float → List Float → ℕ → LaneData
data_at block m n b c tol l =
    let j = block.first + l in
    let K = block.total in
    record { b = lane K m j b; c = lane K n j c; primal = at tol j; dual = at tol (K + j); gap = at tol (2 * K + j) }

-- a block's lanes are among those of b, c and the tolerances, which are as long as stated, and the sizes are in their limits
pub record Lent (block : Block) (width m n s : ℕ) (b c tol : List Float) : Type 0 where
  pub rows : m ≤ max_rows
  pub columns : n ≤ max_columns
  pub slack : s ≤ m
  pub lanes : block.total ≤ 16
  pub wide : Width width
  pub within : block.first + width ≤ block.total
  pub b_long : m ≤ room block.total b
  pub c_long : n ≤ room block.total c
  pub tol_long : 3 * block.total ≤ length tol
