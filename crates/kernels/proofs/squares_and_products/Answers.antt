use Rattle.std.proofs.Common.{◌≡◌, arith}
use Rattle.lanes.proofs.Quads.{on}
use Rattle.kernels.proofs.Loops.{products_none, products_turn}
use Rattle.kernels.proofs.squares_and_products.Goals as goal

pub loop-e-init : goal.loop-e-init
loop-e-init c = record {
  squares = products_none c.args.width c.args.work.now c.args.p c.args.p c.args.k (on c.requires.2 c.zero4-squares.ensures);
  products = products_none c.args.width c.args.work.now c.args.q c.args.p c.args.k (on c.requires.2 c.zero4-products.ensures);
}

pub loop-e-preserved : goal.loop-e-preserved
loop-e-preserved c = record {
  squares = products_turn c.args.width c.args.work.now c.args.p c.args.p c.args.k c.loop-e.e c.loop-e.invariant.squares c.loop-e-test.true c.get-a.ensures c.get-a.ensures (on c.requires.2 c.plus_in-t.ensures);
  products = products_turn c.args.width c.args.work.now c.args.q c.args.p c.args.k c.loop-e.e c.loop-e.invariant.products c.loop-e-test.true c.get-b.ensures c.get-a.ensures (on c.requires.2 c.plus_in-u.ensures);
}

pub returns : goal.returns
returns c =
    let z : c.loop-e.e ≡ c.args.k = omega arith in
    record { squares = rw z at c.loop-e.invariant.squares; products = rw z at c.loop-e.invariant.products }
