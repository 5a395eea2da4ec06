use Rattle.entries.proofs.Entries.{four_cells}
use Rattle.entries.proofs.get.Goals as goal

pub returns-then-width-eq4 : goal.returns-then-width-eq4
returns-then-width-eq4 c = four_cells c.args.width c.args.work.now c.args.entry c.if-width-eq4.true c.four.ensures
