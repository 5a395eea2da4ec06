use Rattle.counts.proofs.Columns.{Row}
use Rattle.counts.proofs.Notes.count_row.Given as goal

abbrev pub invariant-loop-c : goal.invariant-loop-c
invariant-loop-c g l = Row l.rows.offsets.now l.rows.columns.now l.i g.row.ROWS g.row.COLUMNS l.self.mark l.self.parent l.self.column l.self.seen l.self.first l.tally.stored l.tally.shared l.tally.products l.c-index
