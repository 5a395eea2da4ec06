-- `csr::first_bad` meets its contract. Assumes nothing.
use native.Mathlib.Omega.{arith}
use Rattle.csr.proofs.First.{found_some, found_none}
use Rattle.csr.proofs.Right.{part_of}
use Rattle.csr.proofs.first_bad.Goals as goal

pub row-requires : goal.row-requires
row-requires c = part_of c.requires _ c.loop-i-test.true

pub returns-then-is_bad : goal.returns-then-is_bad
returns-then-is_bad c = found_some _ _ _ (omega arith) c.loop-i.invariant (cc)

pub returns : goal.returns
returns c = found_none _ _ (λ k l. c.loop-i.invariant k (omega arith))
