use Prim.Native.Nat.{◌≤◌, ◌+◌, ◌-◌}
use lib.ListN.{get_or}
use Rattle.file_numbers.specs.Agree.{numbers_of}
use Rattle.file_lists.proofs.Compared as turns
use Rattle.file_lists.proofs.pairs.same_row.Given as goal

abbrev pub invariant-loop-t : goal.invariant-loop-t
invariant-loop-t l =
    let rows = l.source.rows in
    let factor = l.source.factor in
    record {
      low : get_or factor.lindptr.now l.i 0 ≤ l.t;
      high : l.t ≤ get_or factor.lindptr.now (l.i + 1) 0;
      met : turns.Met rows.offsets.now rows.columns.now factor.p.now l.which l.i (numbers_of l.body) l.fn.spot.at l.spot.at l.fn.spot.n l.spot.n (l.t - get_or factor.lindptr.now l.i 0);
    }
