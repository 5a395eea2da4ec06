-- `factor_entry::over_diagonal` meets its contract. Assumes nothing.
use mathlib.Core.Path.{sym}
use lib.Ieee.{binary64, div}
use Rattle.lanes.proofs.Quads.{each_on, on_self}
use Rattle.factor_entry.proofs.over_diagonal.Goals as goal

pub returns : goal.returns
returns c = rw (sym c.args.lists.now.listed.ldiag_indptr_is) (each_on c.requires.3 (div binary64) c.div4.ensures (on_self {v = c.args.v}) c.get-b.ensures)
