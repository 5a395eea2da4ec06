use Rattle.lanes.proofs.Quads.{on}
use Rattle.lane_test.proofs.Tests.{measured}
use Rattle.lane_test.proofs.measure.Goals as goal

pub returns : goal.returns
returns c =
    let m = c.regions-mem.ensures in
    let r = rw m at c.squares_and_products-sums.ensures in
    measured c.args.width c.args.plan.m c.args.plan.n c.args.plan.s c.args.centring c.args.work.now c.requires.2 r.squares r.products (on c.requires.4 c.root4-nx.ensures) (rw m at c.vector_norm-ny.ensures) (rw m at c.gamma-g.ensures) (on c.requires.4 (rw m at c.mu_in-mu.ensures))
