use lib.Ieee.{binary64, sub}
use Rattle.std.proofs.Common.{get_or, rules}
use Rattle.lanes.specs.Lists.{at}
use Rattle.sparse.specs.Parts.{less_col}
use Rattle.sparse.specs.Sparse.{less_all}
use Rattle.sparse.proofs.ByColumn.less.Goals as goal

pub returns : goal.returns
unfolding less_col less_all
returns c = rw (c.span-es.ensures, c.span-ps.ensures) at (c.sum.ensures (λ k. at c.args.self.now.vals.now (get_or c.span-ps.result.now k 0)) (sub binary64) (λ k v b p. search rules) (λ p q r e. search rules))
