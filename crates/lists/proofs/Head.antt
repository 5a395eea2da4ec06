-- A list's 0 in front. Assumes nothing.
use Prim.Native.Nat.{ℕ, ◌+◌, ◌≤◌}
use native.Mathlib.Omega.{arith}
use lib.ListN.{length, length-append}
use Rattle.base.specs.Cat.{pick, pairs}
use Rattle.lists.specs.Lists.{Shape, piece, list_of, begins}
use Rattle.lists.specs.declared.Which.{Which}

-- the 0 in front has room where the list has
pub head_room : (g : Shape) (w : Which) (m start l : ℕ) → start + length (list_of g w m) ≤ l → start + length (pick (begins w) 0) ≤ l
unfolding list_of
head_room g w m start l h = omega (arith, length-append (pick (begins w) 0) (pairs m (piece g w)))
