use Rattle.lanes.specs.Lanes.{On}
use Rattle.kernels.proofs.Loops.{products_to}
use Rattle.kernels.proofs.squares_and_products.Given as goal

abbrev pub invariant-loop-e : goal.invariant-loop-e
invariant-loop-e l = record {
  squares : On l.width l.squares (products_to l.width l.work l.p l.p l.k l.e);
  products : On l.width l.products (products_to l.width l.work l.q l.p l.k l.e);
}
