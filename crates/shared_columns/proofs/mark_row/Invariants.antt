use Prim.Native.Nat.{◌-◌}
use lib.ListN.{get_or}
use Rattle.csr.specs.Pattern.{row}
use Rattle.shared_columns.proofs.Marks.{Marking}
use Rattle.shared_columns.proofs.mark_row.Given as goal

abbrev pub invariant-loop-k : goal.invariant-loop-k
invariant-loop-k l = Marking l.initial.mark l.mark (get_or l.rows.offsets.now l.i 0) (row l.rows.offsets.now l.rows.columns.now l.i) (l.k - get_or l.rows.offsets.now l.i 0)
