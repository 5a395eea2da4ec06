use Rattle.lanes.proofs.Quads.{each_on, on_self}
use lib.Ieee.{binary64, add}
use Rattle.lane_test.proofs.gamma.Goals as goal

pub returns : goal.returns
returns c = each_on c.requires.wide (add binary64) c.add4.ensures (on_self {v = c.args.zx}) c.dot_product-b.ensures
