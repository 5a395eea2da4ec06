-- A region of the working memory is a list of each lane's numbers. Assumes nothing.
use mathlib.Core.Path.{◌≡◌, ap, ◌∙◌}
use mathlib.Core.List.{List}
use Prim.Native.Nat.{ℕ, ◌+◌, ◌*◌, ◌≤◌}
use native.Mathlib.Nat.{mul-add, mul-le-mul_left}
use native.Mathlib.Omega.{arith}
use lib.ListN.{length}
use lib.Ieee.{Float}
use Rattle.base.specs.Numbers.{cut}
use Rattle.lanes.specs.Lists.{at as elem}
use Rattle.lanes.specs.Region.{reg}
use Rattle.machine.specs.declared.Outcome.{Outcome}
use Rattle.machine.specs.Outcome.{interleaved}
use Rattle.memory.proofs.Calls.{region_is}
use Rattle.outputs.specs.Outputs.{written}

-- a region that ends within the first `top` entries lies within a memory that has them
region_fits : (K at count top work : ℕ) → at + count ≤ top → K * top ≤ work → K * (at + count) ≤ work
region_fits K at count top work within room = omega (arith, mul-le-mul_left K within, room)

pub output_fits : (K at count top size work : ℕ) → size ≡ K * count → at + count ≤ top → K * top ≤ work → K * at + size ≤ work
output_fits K at count top size work long within room = omega (arith, long, region_fits K at count top work within room, mul-add K at count)

-- an output that takes the region of `count` entries from entry `at` on takes the lanes' lists there
pub region_out : (K at count top : ℕ) (work old : List Float) (o : Outcome) → 1 ≤ K → length old ≡ K * count → at + count ≤ top → K * top ≤ length work
    → written o (cut (K * at) (K * at + length old) work) old ≡ written o (interleaved K count (λ l e. elem (reg K work at count l) e)) old
region_out K at count top work old o some long within room =
    let end : K * at + length old ≡ K * (at + count) = omega (arith, long, mul-add K at count) in
    ap (λ (v : List Float). written o v old) (ap (λ (j : ℕ). cut (K * at) j work) end ∙ region_is K work at count some (region_fits K at count top (length work) within room))
