use Prim.Native.Nat.{◌-◌}
use lib.ListN.{get_or}
use Rattle.transpose.specs.Bins.{room_of, in_row, cols_of}
use Rattle.file_numbers.specs.Agree.{numbers_of}
use Rattle.file_lists.specs.Matched.{Matched, entries_of}
use Rattle.file_lists.proofs.columns.match_row.Given as goal

abbrev pub invariant-loop-k : goal.invariant-loop-k
invariant-loop-k l =
    let off = l.rows.offsets.now in
    let cols = cols_of l.rows.columns in
    Matched (numbers_of l.body) (entries_of off cols l.what l.rows.m l.rows.n) l.next l.rows.n (room_of off cols l.rows.m) (in_row off cols l.what l.i (l.k - get_or off l.i 0))
