use Rattle.lane_test.specs.Measures.{Measured}
use Rattle.run.proofs.Runs.{tested, divided}
use Rattle.run.proofs.test_at.Goals as goal

pub returns : goal.returns
returns c =
    λ H W D.
    let T = c.args.task.now in
    let m : Measured c.args.width T.lists.plan.m T.lists.plan.n T.lists.plan.s H.centring c.args.work.now c.args.sums.nx c.args.sums.ny c.args.sums.g c.args.sums.mu = rw W.centring c.requires.2 in
    tested H T.lists.plan T.block c.args.width c.requires.0.wide T.rows.off.now T.rows.cols.now T.rows.vals.now T.b.now T.c.now T.tolerances.now c.args.k c.args.work.now _ (c.requires.3 H W D) (c.test.ensures H m (divided c.requires.0.wide D m c.one_more-rdiv.ensures c.one_more-qdiv.ensures))
