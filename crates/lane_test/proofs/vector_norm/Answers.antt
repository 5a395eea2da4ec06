use Rattle.lanes.proofs.Quads.{root_on}
use Rattle.lanes.specs.Arithmetic.{norm}
use Rattle.lane_test.proofs.vector_norm.Goals as goal

pub returns : goal.returns
unfolding norm
returns c = root_on c.requires.1 c.root4.ensures c.dot_product.ensures
