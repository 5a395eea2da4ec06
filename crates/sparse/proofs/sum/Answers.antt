use Rattle.std.proofs.Common.{◌≡◌, length, arith}
use Rattle.lanes.proofs.Quads.{on_self, each_on, fold_from, fold_turn, ◌▹◌}
use Rattle.sparse.proofs.sum.Goals as goal

pub loop-k-init : goal.loop-k-init
loop-k-init g c = λ a f ha hf. fold_from _ _

pub loop-k-preserved : goal.loop-k-preserved
loop-k-preserved g c = λ a f ha hf.
    fold_turn _ _ _ (c.loop-k.invariant a f ha hf)
    (each_on c.requires.wide f (hf _ _ _ c.op-t.ensures) on_self (c.product-a.ensures ▹ (λ l b. rw (ha _ _ c.loop-k-test.true c.value.ensures))))

pub returns : goal.returns
returns g c = λ a f ha hf. let e : c.loop-k.k ≡ length c.args.es.now = omega arith in rw e at (c.loop-k.invariant a f ha hf)
