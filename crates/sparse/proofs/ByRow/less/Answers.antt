use lib.Ieee.{binary64, sub}
use Rattle.lanes.specs.Lists.{at}
use Rattle.sparse.specs.Parts.{less_row}
use Rattle.sparse.specs.Sparse.{less_all}
use Rattle.std.proofs.Common.{rules}
use Rattle.sparse.proofs.ByRow.less.Goals as goal

pub returns : goal.returns
unfolding less_row less_all
returns c = rw (c.span-es.ensures, c.span-row.ensures) at (c.sum.ensures (at c.span-row.result.now) (sub binary64) (λ k v b p. search rules) (λ p q r e. search rules))
