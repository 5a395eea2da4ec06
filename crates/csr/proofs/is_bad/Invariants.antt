use Rattle.std.proofs.Common.{◌≡◌, ℕ, ◌<◌, false}
use Rattle.csr.specs.Questions.{bad_at}
use Rattle.csr.proofs.is_bad.Given as goal

abbrev pub invariant-loop-k : goal.invariant-loop-k
invariant-loop-k l = (j : ℕ) → j < l.k → bad_at l.n l.row j ≡ false
