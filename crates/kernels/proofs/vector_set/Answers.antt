use Rattle.std.proofs.Common.{arith}
use Rattle.lanes.specs.Lists.{at}
use Rattle.lanes.proofs.Regions.{grows_none, kept_room}
use Rattle.lanes.proofs.Quads.{grows_turn, on_self}
use Rattle.kernels.proofs.Loops.{filled}
use Rattle.kernels.proofs.vector_set.Goals as goal

pub loop-e-init : goal.loop-e-init
loop-e-init c = grows_none _ _ _ _

pub put-requires : goal.put-requires
put-requires c = (c.requires.1, omega (arith, c.requires.0, kept_room c.loop-e.invariant.kept))

pub loop-e-preserved : goal.loop-e-preserved
loop-e-preserved c = grows_turn c.loop-e.invariant (omega (arith, c.requires.0)) on_self c.put.ensures

pub returns : goal.returns
returns c = filled (λ l _. at c.args.v l) c.loop-e.invariant (omega arith)
