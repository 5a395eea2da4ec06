-- Where the regions of a memory lie. Assumes nothing.
use mathlib.Core.Path.{◌≡◌}
use mathlib.Core.List.{List}
use Prim.Native.Nat.{ℕ, ◌+◌, ◌≤◌}
use native.Mathlib.Omega.{arith}
use lib.Ieee.{Float}
use Rattle.lanes.specs.Lanes.{Width, room}
use Rattle.layout.specs.declared.Regions.{Regions}
use Rattle.layout.specs.Layout.{l_at, regions_of}
use Rattle.kernels.specs.Kernels.{Laid}

-- as the layout has them
pub laid : {width m n s : ℕ} {ws : List Float} → Width width → l_at n m s ≤ room width ws → Laid width (regions_of m n s) ws
laid W h = record {
  z = omega arith;
  dx = omega arith;
  dz = omega arith;
  tmp = omega arith;
  y = omega arith;
  dy = omega arith;
  rhs = omega arith;
  w = omega arith;
  dw = omega arith;
  l = omega arith;
  fits = h;
  wide = W;
}

-- in a memory with as much room
pub laid_room : {width : ℕ} {mem : Regions} {old new : List Float} → Laid width mem old → room width new ≡ room width old → Laid width mem new
laid_room P e = record {
  z = P.z;
  dx = P.dx;
  dz = P.dz;
  tmp = P.tmp;
  y = P.y;
  dy = P.dy;
  rhs = P.rhs;
  w = P.w;
  dw = P.dw;
  l = P.l;
  fits = omega (arith, P.fits, e);
  wide = P.wide;
}

-- the regions of w and of the slack rows' y are in the memory
module _ {width : ℕ} {mem : Regions} {ws : List Float} (P : Laid width mem ws) where
  pub all_w : mem.w + mem.s ≤ room width ws
  all_w = omega arith

  pub all_slack_y : mem.y + mem.s ≤ room width ws
  all_slack_y = omega arith
