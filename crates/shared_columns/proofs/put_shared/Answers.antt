-- `shared_columns::put_shared` meets its contract. Assumes nothing.
use mathlib.Core.Path.{ap, ◌∙◌}
use native.Mathlib.Omega.{arith}
use lib.ListN.{length, get_or}
use Rattle.shared_columns.specs.Marked.{along_of, hit}
use Rattle.base.proofs.Write.{same_text}
use Rattle.shared_columns.proofs.Marks as marks
use Rattle.shared_columns.proofs.put_shared.Goals as goal

pub row-requires : goal.row-requires
row-requires c = marks.other_part c.requires.0

pub hits-requires : goal.hits-requires
hits-requires c = rw c.row.ensures (marks.other_below c.requires.0, marks.other_short c.requires.0, omega (arith, c.requires.1, ap length (marks.other_is c.requires.0 c.args.take)))

pub returns : goal.returns
returns c = same_text (ap (along_of (hit c.args.take c.args.mark.now (get_or c.args.rows.now.offsets.now c.args.i 0)) (get_or c.args.rows.now.offsets.now c.args.j 0)) c.row.ensures ∙ marks.other_is c.requires.0 c.args.take) c.hits.ensures
