-- `root::unpack` meets its contract. Assumes nothing.
use native.Mathlib.Omega.{arith}
use Rattle.root.proofs.Patterns.{leading, normal, subnormal}
use Rattle.root.proofs.unpack.Goals as goal

pub overflow_sub-up : goal.overflow_sub-up
overflow_sub-up c =
    let l = leading c.args.b c.requires.0 (omega arith) in
    omega (arith, l.1, l.2)

pub returns-in-0 : goal.returns-in-0
returns-in-0 c = rw c.from-up.ensures (subnormal c.args.b c.requires.0 c.in-0.is)

pub returns-in-1-to-18446744073709551615 : goal.returns-in-1-to-18446744073709551615
returns-in-1-to-18446744073709551615 c = normal c.args.b c.requires.1 (λ h. omega arith)
