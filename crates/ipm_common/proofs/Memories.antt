-- The memories that a plan is made in. Assumes nothing.
use Prim.Native.Nat.{ℕ, suc, ◌≤◌}
use native.Mathlib.Omega.{arith}
use lib.ListN.{replicate, length-replicate}
use Rattle.base.proofs.Sums.{sum_more}
use Rattle.lists.proofs.Few.{pairs_16, pairs_256}
use Rattle.transpose.specs.Bins.{Room}
use Rattle.ipm_common.specs.Plan.{Enough}

-- memories for 16 rows and 32 columns
pub enough_few : (m n : ℕ) → m ≤ 16 → n ≤ 32 → Enough m n 17 136 33
enough_few m n hm hn = record { rows = (omega arith, omega arith); entries = (omega (arith, pairs_16, sum_more m 16 suc hm), omega arith); columns = (omega arith, omega arith, omega arith) }

-- and for 256 rows and 1024 columns
pub enough_max : (m n : ℕ) → m ≤ 256 → n ≤ 1024 → Enough m n 257 32896 1025
enough_max m n hm hn = record { rows = (omega arith, omega arith); entries = (omega (arith, pairs_256, sum_more m 256 suc hm), omega arith); columns = (omega arith, omega arith, omega arith) }

-- a memory over the columns, as it is made
pub cleared : {m n starts pairs bins : ℕ} → Enough m n starts pairs bins → Room m n (replicate bins 0)
cleared {m} {n} {starts} {pairs} {bins} e = record { rows = omega (arith, length-replicate {A = ℕ} bins 0, e.columns.0); columns = omega (arith, length-replicate {A = ℕ} bins 0, e.columns.1) }
