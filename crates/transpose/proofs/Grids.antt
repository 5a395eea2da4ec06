-- An accepted matrix is a grid. Assumes nothing.
use mathlib.Core.List.{List}
use Prim.Native.Nat.{ℕ}
use native.Mathlib.Omega.{arith}
use Rattle.csr.specs.Csr.{Accepted}
use Rattle.transpose.specs.Bins.{Grid}

pub accepted_grid : (off cols : List ℕ) (m n : ℕ) → Accepted off cols m n → Grid off cols m n
accepted_grid off cols m n a = record {
  csr = a.csr;
  short = omega (arith, a.offsets.few);
  wide = a.wide;
  within = a.within;
}
