use Rattle.std.proofs.Common.{ℕ, List}
use Rattle.factor.specs.Row.{RowDue}
use Rattle.factor.proofs.Along.{Along}
use Rattle.factor.proofs.normal_matrix_cholesky_row.Given as goal

abbrev pub invariant-loop-e : goal.invariant-loop-e
invariant-loop-e l = (off cols : List ℕ) → RowDue l.width off cols l.values l.lists.plan l.lists.index.now l.initial.work l.i → Along l.width off cols l.values l.lists.plan l.lists.index.now l.i l.initial.work l.initial.diag l.initial.side l.e l.work l.diag l.side
