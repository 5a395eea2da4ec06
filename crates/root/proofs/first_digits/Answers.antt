-- `root::first_digits` meets its contract. Assumes nothing.
use Prim.Native.Nat.{◌^◌}
use native.Mathlib.Omega.{arith}
use Rattle.root.proofs.Turns.{small, last, digit, taken_le, taken_lt}
use Rattle.root.proofs.first_digits.Goals as goal

pub overflow_mul-rest : goal.overflow_mul-rest
overflow_mul-rest c = rw c.from-digit.ensures (record { fits = taken_lt _ _ (2 ^ 64) (omega (arith, small c.loop-turn.invariant c.loop-turn-test.true)) })

pub overflow_sub-rest : goal.overflow_sub-rest
overflow_sub-rest c = rw c.from-digit.ensures (taken_le _ _)

pub loop-turn-preserved : goal.loop-turn-preserved
loop-turn-preserved c = rw c.from-digit.ensures (digit c.loop-turn.invariant c.loop-turn-test.true)

pub returns : goal.returns
returns c = last c.loop-turn.invariant (omega arith)
