use Rattle.std.proofs.Common.{◌≡◌, ℕ, ◌<◌, false}
use Rattle.csr.specs.Pattern.{row}
use Rattle.csr.specs.Questions.{bad_row}
use Rattle.csr.proofs.first_bad.Given as goal

abbrev pub invariant-loop-i : goal.invariant-loop-i
invariant-loop-i l = (j : ℕ) → j < l.i → bad_row l.n (row l.rows.offsets.now l.rows.columns.now j) ≡ false
