-- The answer to a record, as bytes. Definitions only.
use Rattle.std.specs.Prelude.{cond, List, [], ℕ, ◌+◌, ◌-◌, ◌*◌, ◌/◌, replicate, Float}
use Rattle.std.specs.Float.{binary64}
use Rattle.std.specs.Float.Ieee.{of_bits}
use Rattle.layout.specs.Layout.{working_size}
use Rattle.lanes.specs.Controls.{standard_controls}
use Rattle.csr.specs.Verdict.{Verdict, Told, passed, told, planned, accepted, sized, costs, written, refused}
use Rattle.machine.specs.Demand3.{Buffers}
use Rattle.ipm_simd.specs.Solve.{Given, given, lent, solve_verdict, solve_buffers}
use Rattle.record.specs.Record.{m_of, n_of, s_of, limit_of, offsets_of, columns_of, values_of, tolerances_of, b_of, c_of, well_formed, most_rows, most_columns, most_entries}
use Rattle.answer_text.specs.Text.{accepted_bytes, accepted_text, refused_text, input_text}

-- the text of what a solve of n columns tells; it tells nothing else
abbrev pub told_text : Told → List Float → ℕ → List ℕ
told_text (accepted test count) x n = accepted_text test x n
told_text (planned w) x n = []
told_text (sized e s d w f) x n = []
told_text (costs e d) x n = []
told_text (written k) x n = []

abbrev pub verdict_text : Verdict → List Float → ℕ → List ℕ
verdict_text (told a) x n = told_text a x n
verdict_text (refused question place lane) x n = refused_text question place lane
verdict_text passed x n = []

-- the text of a solve, by what is given and lent
unfoldable pub solve_text : Given → Buffers → List ℕ
unfolding solve_verdict solve_buffers
solve_text a B = verdict_text (solve_verdict a B) (solve_buffers a B).output a.n

-- the most bytes that an answer takes
-- asked in clauses: the buffer is the caller's, of any length
abbrev pub answer_bytes : ℕ
answer_bytes = accepted_bytes most_columns

-- what a record gives, with 0.1 and 0.9995
abbrev pub given_of : List ℕ → Given
given_of s = given (m_of s) (n_of s) (s_of s) (offsets_of s) (columns_of s) (values_of s) (b_of s) (c_of s) (tolerances_of s) (standard_controls (limit_of s))

-- memory of zeros, words or +0.0
unfoldable pub zeros : ℕ → List ℕ
zeros k = replicate k 0

unfoldable pub blank : ℕ → List Float
blank k = replicate k (of_bits binary64 0)

-- the most that E can be: an entry for each pair of rows j ≤ i
abbrev pub most_stored : ℕ
most_stored = most_rows * (most_rows + 1) / 2

-- the most that S can be: two rows share at most half of the entries that they have together, and a row is in most_rows pairs, twice in that with itself
abbrev pub most_shared : ℕ
most_shared = most_entries * (most_rows + 1) / 2

-- the most that D can be: a product for each three rows k < j ≤ i
abbrev pub most_products : ℕ
most_products = (most_rows - 1) * most_rows * (most_rows + 1) / 6

-- the most that W and F can be, where every row may be a slack row. OwnPartsPass in specs/Theorems.antt says that no record needs more
abbrev pub index_words : ℕ
index_words = 5 * most_stored + 3 * most_shared + 2 * most_products + 3 * most_rows + most_columns + 2 * most_entries + 5

abbrev pub work_floats : ℕ
work_floats = working_size 4 most_rows most_columns most_rows most_stored

-- what is lent for m rows and n columns
abbrev pub lent_for : ℕ → ℕ → Buffers
lent_for m n = lent (blank (4 * n)) (blank (4 * m)) (zeros index_words) (blank work_floats)

-- standard output for standard input
unfoldable pub answer_text : List ℕ → List ℕ
unfolding well_formed solve_text input_text
answer_text s = cond (well_formed s) (solve_text (given_of s) (lent_for (m_of s) (n_of s))) input_text
