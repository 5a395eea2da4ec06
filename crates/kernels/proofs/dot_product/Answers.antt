use Rattle.std.proofs.Common.{◌≡◌, arith}
use Rattle.lanes.proofs.Quads.{on}
use Rattle.kernels.proofs.Loops.{products_none, products_turn}
use Rattle.kernels.proofs.dot_product.Goals as goal

pub loop-e-init : goal.loop-e-init
loop-e-init c = products_none c.args.width c.args.work.now c.args.p c.args.q c.args.k (on c.requires.2 c.zero4-acc.ensures)

pub loop-e-preserved : goal.loop-e-preserved
loop-e-preserved c = products_turn c.args.width c.args.work.now c.args.p c.args.q c.args.k c.loop-e.e c.loop-e.invariant c.loop-e-test.true c.get-a.ensures c.get-b.ensures (on c.requires.2 c.plus_in-t.ensures)

pub returns : goal.returns
returns c = let z : c.loop-e.e ≡ c.args.k = omega arith in rw z at c.loop-e.invariant
