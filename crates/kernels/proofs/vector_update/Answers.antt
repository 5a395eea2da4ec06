use Rattle.std.proofs.Common.{arith}
use Rattle.machine.specs.Machine.{moved}
use Rattle.lanes.proofs.Regions.{grows_none, kept_room}
use Rattle.lanes.proofs.Quads.{grows_turn, on}
use Rattle.kernels.proofs.Loops.{filled, moved_lane, moved_turn}
use Rattle.kernels.proofs.vector_update.Goals as goal

pub loop-e-init : goal.loop-e-init
loop-e-init c = grows_none _ _ _ _

pub get-a-requires : goal.get-a-requires
get-a-requires c = (c.requires.3, omega (arith, c.requires.1, kept_room c.loop-e.invariant.kept))

pub get-b-requires : goal.get-b-requires
get-b-requires c = (c.requires.3, omega (arith, c.requires.2, kept_room c.loop-e.invariant.kept))

pub put-requires : goal.put-requires
put-requires c = (c.requires.3, omega (arith, c.requires.1, kept_room c.loop-e.invariant.kept))

pub loop-e-preserved : goal.loop-e-preserved
loop-e-preserved c = grows_turn c.loop-e.invariant (omega (arith, c.requires.1)) (moved_turn c.args.dp c.args.h c.loop-e.invariant c.requires.0 c.loop-e-test.true c.get-a.ensures c.get-b.ensures (on c.requires.3 c.moved_in-v.ensures)) c.put.ensures

pub returns : goal.returns
unfolding moved
returns c = filled (λ t. moved_lane c.args.width c.args.p c.args.dp c.args.k c.args.h c.args.work.now t) c.loop-e.invariant (omega arith)
