use Rattle.lanes.specs.Lanes.{On}
use Rattle.kernels.proofs.Loops.{products_to}
use Rattle.kernels.proofs.dot_product.Given as goal

abbrev pub invariant-loop-e : goal.invariant-loop-e
invariant-loop-e l = On l.width l.acc (products_to l.width l.work l.p l.q l.k l.e)
