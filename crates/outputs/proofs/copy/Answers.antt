use native.Mathlib.Omega.{arith}
use mathlib.Core.Path.{refl}
use Rattle.outputs.proofs.Copies.{copied_next, copied_all}
use Rattle.outputs.proofs.copy.Goals as goal

pub loop-i-init : goal.loop-i-init
loop-i-init c = refl

pub loop-i-preserved : goal.loop-i-preserved
loop-i-preserved c = copied_next c.args.numbers.now c.args.output.now c.loop-i.output c.loop-i.i c.loop-i.invariant (omega (arith, c.requires, c.loop-i-test.true)) c.loop-i-test.true

pub returns : goal.returns
returns c = copied_all c.args.numbers.now c.args.output.now c.loop-i.output c.loop-i.i c.loop-i.invariant (omega (arith, c.loop-i.auto.i-end, c.loop-i-test.false)) c.requires
