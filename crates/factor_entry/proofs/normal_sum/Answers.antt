use Rattle.lanes.proofs.Quads.{on}
use Rattle.factor_entry.proofs.Sums.{summed_none, normal_turn}
use Rattle.factor_entry.proofs.normal_sum.Goals as goal

pub loop-p-init : goal.loop-p-init
loop-p-init c =
    let is = c.args.lists.now.listed in record {
      within = rw (is.anorm_indptr_is, is.anorm_indptr_i_is, is.anorm_indptr_j_is, is.anorm_indices_is) c.requires.1;
      sum = summed_none _ _ c.args.start _;
    }

pub loop-p-preserved : goal.loop-p-preserved
loop-p-preserved c = record {
  within = c.loop-p.invariant.within;
  sum = normal_turn c.loop-p.acc c.args.values.now c.args.lists.now.anorm_indptr_i.now c.args.lists.now.anorm_indptr_j.now c.args.lists.now.anorm_indices.now c.args.work.now c.args.mem.x c.args.mem.z _ c.loop-p.p c.args.start c.loop-p.auto.p c.loop-p.invariant.sum c.get-x.ensures c.get-z.ensures (on c.requires.3 c.normal_in-t.ensures);
}
