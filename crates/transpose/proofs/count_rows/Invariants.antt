use Prim.Native.Nat.{ℕ, ◌≤◌, ◌+◌, ◌*◌}
use mathlib.Core.Path.{◌≡◌}
use lib.ListN.{length, get_or}
use Rattle.csr.specs.Counts.{count_s}
use Rattle.transpose.specs.Bins.{seen, cols_of}
use Rattle.transpose.proofs.count_rows.Given as goal

abbrev pub invariant-loop-i : goal.invariant-loop-i
invariant-loop-i l = record {
  counts : (c : ℕ) → get_or l.next c 0 ≡ get_or l.initial.next c 0 + length (seen l.offsets (cols_of l.columns) l.i c);
  shares : l.s ≡ count_s l.offsets (cols_of l.columns) l.i;
  few : l.s ≤ 256 * get_or l.offsets l.i 0;
}
