use Rattle.pattern.proofs.Linking.{Linking}
use Rattle.pattern.proofs.seed_row.Given as goal

abbrev pub invariant-loop-e : goal.invariant-loop-e
invariant-loop-e l = Linking l.rows.offsets.now l.rows.columns.now l.i l.initial.p l.p l.first l.e-index
