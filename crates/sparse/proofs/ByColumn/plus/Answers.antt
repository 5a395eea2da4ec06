use lib.Ieee.{binary64, add}
use Rattle.std.proofs.Common.{get_or, rules}
use Rattle.lanes.specs.Lists.{at}
use Rattle.sparse.specs.Parts.{plus_col}
use Rattle.sparse.specs.Sparse.{plus_all}
use Rattle.sparse.proofs.ByColumn.plus.Goals as goal

pub returns : goal.returns
unfolding plus_col plus_all
returns c = rw (c.span-es.ensures, c.span-ps.ensures) at (c.sum.ensures (λ k. at c.args.self.now.vals.now (get_or c.span-ps.result.now k 0)) (add binary64) (λ k v b p. search rules) (λ p q r e. search rules))
