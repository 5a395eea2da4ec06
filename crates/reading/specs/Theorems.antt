-- What is proved of these definitions, as types. proofs/Theorems.antt proves each, under the same name in lower case. Definitions only.
use Rattle.std.specs.Prelude.{◌≡◌, ◌≢◌, true, List, ℕ, ◌<◌}
use Rattle.csr.specs.Verdict.{refused}
use Rattle.ipm_simd.specs.Solve.{solve_verdict}
use Rattle.record.specs.Record.{m_of, n_of, well_formed}
use Rattle.reading.specs.Answer.{given_of, lent_for}

-- what the program lends and sets itself passes: the answer to a well-formed record is never a no at 6, 8, 9, 13 or above: it lends no file
abbrev pub OwnPartsPass : Type 0
OwnPartsPass = (s : List ℕ) → well_formed s ≡ true → (q p l : ℕ) → solve_verdict (given_of s) (lent_for (m_of s) (n_of s)) ≡ refused q p l → (q ≢ 6) × (q ≢ 8) × (q ≢ 9) × (q < 13)
