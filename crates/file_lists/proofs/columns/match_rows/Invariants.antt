use Rattle.transpose.specs.Bins.{cols_of}
use Rattle.file_numbers.specs.Agree.{numbers_of}
use Rattle.file_lists.specs.Matched.{MatchedTo}
use Rattle.file_lists.proofs.columns.match_rows.Given as goal

abbrev pub invariant-loop-i : goal.invariant-loop-i
invariant-loop-i l = MatchedTo (numbers_of l.body) l.rows.offsets.now (cols_of l.rows.columns) l.what l.rows.m l.rows.n l.i l.next
