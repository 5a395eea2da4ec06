-- `csr::first_short` meets its contract. Assumes nothing.
use native.Mathlib.Omega.{arith}
use borrow.Author.Tests.{lt-ltb}
use Rattle.csr.proofs.First.{found_some, found_none}
use Rattle.csr.proofs.first_short.Goals as goal

pub returns-then-offsets-k : goal.returns-then-offsets-k
returns-then-offsets-k c = found_some _ _ _ (omega arith) c.loop-k.invariant (lt-ltb _ _ c.if-offsets-k.true)

pub returns : goal.returns
returns c = found_none _ _ (λ k l. c.loop-k.invariant k (omega arith))
