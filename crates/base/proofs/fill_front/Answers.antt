-- `base::fill_front` meets its contract. Assumes nothing.
use Rattle.std.proofs.Common.{arith}
use Rattle.base.proofs.Parts.{filled}
use Rattle.base.proofs.fill_front.Goals as goal

pub loop-k-preserved : goal.loop-k-preserved
loop-k-preserved g c = rw c.loop-k.invariant (filled c.loop-k.k c.args.x c.args.list.now (omega (arith, c.requires, c.loop-k-test.true)))
