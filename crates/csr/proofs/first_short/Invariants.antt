use Rattle.std.proofs.Common.{◌≡◌, ℕ, ◌+◌, ◌<◌, false, ltb, get_or}
use Rattle.csr.proofs.first_short.Given as goal

abbrev pub invariant-loop-k : goal.invariant-loop-k
invariant-loop-k l = (j : ℕ) → j < l.k → ltb (get_or l.offsets (j + 1) 0) (get_or l.offsets j 0 + l.least) ≡ false
