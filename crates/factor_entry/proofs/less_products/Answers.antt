use Rattle.lanes.proofs.Quads.{on}
use Rattle.factor_entry.proofs.Sums.{summed_none, product_turn}
use Rattle.factor_entry.proofs.less_products.Goals as goal

pub loop-p-init : goal.loop-p-init
loop-p-init c =
    let is = c.args.lists.now.listed in record {
      within = rw (is.ldecomp_indptr_is, is.ldecomp_indptr_i_is, is.ldecomp_indptr_j_is) c.requires.1;
      sum = summed_none _ _ c.args.start _;
    }

pub loop-p-preserved : goal.loop-p-preserved
loop-p-preserved c = record {
  within = c.loop-p.invariant.within;
  sum = product_turn c.loop-p.acc c.args.lists.now.ldecomp_indptr_i.now c.args.lists.now.ldecomp_indptr_j.now c.args.work.now c.args.lo _ c.loop-p.p c.args.start c.loop-p.auto.p c.loop-p.invariant.sum c.get-a.ensures c.get-b.ensures (on c.requires.3 c.less_in-t.ensures);
}
