-- `pattern::row_ones` meets its contract. Assumes nothing.
use mathlib.Core.Path.{◌∙◌}
use Rattle.pattern.proofs.Rows.{row_ones_law}
use Rattle.pattern.proofs.row_ones.Goals as goal

pub returns : goal.returns
returns c = let a = c.args in (c.both_ones.ensures.0 ∙ row_ones_law a.p.now a.i, c.both_ones.ensures.1)
