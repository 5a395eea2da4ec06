use Rattle.std.proofs.Common.{◌≡◌, length, arith}
use Rattle.lanes.specs.Arithmetic.{◌⊖◌, ◌⊗◌}
use Rattle.lanes.specs.Lists.{at}
use Rattle.lanes.proofs.Quads.{on, fold_from, fold_turn, ◌▹◌}
use Rattle.sparse.specs.Sparse.{less_each}
use Rattle.sparse.proofs.less_back.Goals as goal

pub loop-k-init : goal.loop-k-init
loop-k-init c = fold_from _ _

pub loop-k-preserved : goal.loop-k-preserved
loop-k-preserved c = fold_turn _ _ _ c.loop-k.invariant (on c.requires.3 {f = λ l. at c.loop-k.acc l ⊖ at c.get-u.result l ⊗ at c.get-v.result l} c.less_in-t.ensures ▹ (λ l z. rw (c.get-u.ensures.lane l z, c.get-v.ensures.lane l z)))

pub returns : goal.returns
unfolding less_each
returns c = let e : c.loop-k.k ≡ length c.args.es.now = omega arith in rw e at c.loop-k.invariant
