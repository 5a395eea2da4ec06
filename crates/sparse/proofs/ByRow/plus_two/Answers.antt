use Rattle.std.proofs.Common.{◌≡◌, length, arith}
use lib.Ieee.{binary64, add}
use Rattle.lanes.proofs.Quads.{each_on, on_self, fold_from, fold_turn}
use Rattle.sparse.specs.Parts.{plus_row}
use Rattle.sparse.specs.Sparse.{plus_all}
use Rattle.sparse.proofs.ByRow.plus_two.Goals as goal

pub loop-k-init : goal.loop-k-init
loop-k-init c = record { first = fold_from _ _; second = fold_from _ _ }

pub loop-k-preserved : goal.loop-k-preserved
loop-k-preserved c = record {
  first = fold_turn _ _ _ c.loop-k.invariant.first (each_on c.requires.4 (add binary64) {a = c.loop-k.first} c.add4-p.ensures on_self c.product-a.ensures);
  second = fold_turn _ _ _ c.loop-k.invariant.second (each_on c.requires.4 (add binary64) {a = c.loop-k.second} c.add4-q.ensures on_self c.product-b.ensures);
}

pub returns : goal.returns
unfolding plus_row plus_all
returns c =
    let e : c.loop-k.k ≡ length c.span-es.result.now = omega arith in
    record { first = rw (e, c.span-es.ensures, c.span-vs.ensures) at c.loop-k.invariant.first; second = rw (e, c.span-es.ensures, c.span-vs.ensures) at c.loop-k.invariant.second }
