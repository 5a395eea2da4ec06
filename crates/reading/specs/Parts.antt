-- What the steps from a record to its answer hand on. Definitions only.
use Rattle.std.specs.Prelude.{List, ◌≡◌, ℕ, ◌+◌, ◌*◌, ◌≤◌, length, take, drop, Float}
use Rattle.lanes.specs.Controls.{standard_controls}
use Rattle.ipm_simd.specs.Solve.{Given, given}
use Rattle.record.specs.declared.RecordSizes.{RecordSizes}
use Rattle.record.specs.Record.{sizes_of, end_at, most_rows, most_columns, most_entries}
use Rattle.reading.specs.Answer.{answer_bytes}

-- bytes that match, with the sizes that they start with
pub record Whole (s : List ℕ) (z : RecordSizes) : Type 0 where
  pub sizes : z ≡ sizes_of s
  pub rows : z.m ≤ most_rows
  pub columns : z.n ≤ most_columns
  pub entries : z.t ≤ most_entries
  pub ends : length s ≡ end_at z.m z.n z.t

-- the most shorts, offsets and columns; the most floats, values, tolerances, b and c; the most that the output and the prices hold
abbrev pub most_shorts : ℕ
most_shorts = most_rows + 1 + most_entries

abbrev pub most_floats : ℕ
most_floats = most_entries + 12 + 4 * most_rows + 4 * most_columns

abbrev pub most_output : ℕ
most_output = 4 * most_columns

abbrev pub most_prices : ℕ
most_prices = 4 * most_rows

-- lists that hold the parts of a record with these sizes, and room for the longest text
pub record Parts (shorts floats output out : ℕ) (z : RecordSizes) : Type 0 where
  pub rows : z.m ≤ most_rows
  pub columns : z.n ≤ most_columns
  pub entries : z.t ≤ most_entries
  pub shorts_all : shorts ≡ z.m + 1 + z.t
  pub floats_all : floats ≡ z.t + 12 + 4 * z.m + 4 * z.n
  pub output_all : output ≡ 4 * z.n
  pub room : answer_bytes ≤ out

-- what the parts give: the shorts are the offsets and the columns, the floats the values, the tolerances, b and c
abbrev pub parts_of : RecordSizes → List ℕ → List Float → Given
parts_of z shorts floats =
    given z.m z.n z.s
    (take (z.m + 1) shorts)
    (take z.t (drop (z.m + 1) shorts))
    (take z.t floats)
    (take (4 * z.m) (drop (z.t + 12) floats))
    (take (4 * z.n) (drop (z.t + 12 + 4 * z.m) floats))
    (take 12 (drop z.t floats))
    (standard_controls z.limit)
