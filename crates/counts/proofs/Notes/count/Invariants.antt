use Rattle.counts.specs.Rows.{Rows}
use Rattle.counts.proofs.Notes.count.Given as goal

abbrev pub invariant-loop-i : goal.invariant-loop-i
invariant-loop-i g l = Rows l.rows.offsets.now l.rows.columns.now l.i l.notes.mark l.notes.parent l.notes.column l.notes.seen l.notes.first l.tally.stored l.tally.shared l.tally.products
