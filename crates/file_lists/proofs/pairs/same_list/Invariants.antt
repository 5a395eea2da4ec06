use Prim.Native.Nat.{ℕ, ◌≤◌}
use lib.ListN.{get_or}
use Rattle.lists.specs.Lists.{shape}
use Rattle.pair_lists.specs.Listing.{Counting}
use Rattle.file_numbers.specs.Agree.{numbers_of}
use Rattle.file_lists.proofs.Compared as turns
use Rattle.file_lists.proofs.pairs.same_list.Given as goal

abbrev pub invariant-loop-i : goal.invariant-loop-i
invariant-loop-i l =
    let off = l.source.rows.offsets.now in
    let cols = l.source.rows.columns.now in
    record {
      counting : Counting l.which off cols l.i l.spot.n;
      passed : turns.Passed (shape off cols) l.which (numbers_of l.body) l.i l.spot.at;
      low : (x : ℕ) → get_or l.initial.mark x 0 ≤ get_or off 0 0 → get_or l.mark x 0 ≤ get_or off l.i 0;
    }
