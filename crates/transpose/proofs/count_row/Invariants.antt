use Prim.Native.Nat.{◌≤◌, ◌*◌, ◌-◌}
use mathlib.Core.Path.{◌≡◌}
use lib.ListN.{get_or, take}
use Rattle.transpose.specs.Bins.{cols_of}
use Rattle.std.specs.List.{sum_by}
use Rattle.csr.specs.Pattern.{row}
use Rattle.transpose.proofs.Count as law
use Rattle.transpose.proofs.Pairs as pairs
use Rattle.transpose.proofs.count_row.Given as goal

abbrev pub invariant-loop-k : goal.invariant-loop-k
invariant-loop-k l = record {
  passed : law.Passed (row l.offsets (cols_of l.columns) l.i) (l.k - get_or l.offsets l.i 0) l.initial.next l.next;
  shares : l.s ≡ sum_by (pairs.up_to l.offsets (cols_of l.columns) l.i) (take (l.k - get_or l.offsets l.i 0) (row l.offsets (cols_of l.columns) l.i));
  few : l.s ≤ 256 * (l.k - get_or l.offsets l.i 0);
}
