-- `counts::Notes::count` meets its contract. Assumes nothing.
use Rattle.counts.proofs.Columns.{rows_start}
use Rattle.counts.proofs.Notes.count.Goals as goal

pub loop-i-init : goal.loop-i-init
loop-i-init g c = rows_start c.args.rows.now.offsets.now c.args.rows.now.columns.now g.row.ROWS g.row.COLUMNS
