-- What the bytes of a record mean. Definitions only.
use Rattle.std.specs.Prelude.{Bool, ◌&&◌, List, ℕ, ◌+◌, ◌*◌, eqb, leb, length, Float, Option}
use Rattle.std.specs.Bool.{then_some}
use Rattle.record.specs.declared.RecordSizes.{RecordSizes}
use Rattle.record.specs.Little.{le2, le4, shorts, floats}

-- `length u32 (bytes after it), kind u16 = 1, then m, n, s, N, t as u16`
abbrev pub length_of : List ℕ → ℕ
length_of s = le4 s 0

abbrev pub kind_of : List ℕ → ℕ
kind_of s = le2 s 4

abbrev pub m_of : List ℕ → ℕ
m_of s = le2 s 6

abbrev pub n_of : List ℕ → ℕ
n_of s = le2 s 8

abbrev pub s_of : List ℕ → ℕ
s_of s = le2 s 10

abbrev pub limit_of : List ℕ → ℕ
limit_of s = le2 s 12

abbrev pub t_of : List ℕ → ℕ
t_of s = le2 s 14

-- `m + 1 offsets and t columns as u16, t values, 12 tolerances, b, c as f64 bits`: where each starts, and where the record ends
abbrev pub offsets_at : ℕ
offsets_at = 16

abbrev pub columns_at : ℕ → ℕ
columns_at m = offsets_at + 2 * (m + 1)

abbrev pub values_at : ℕ → ℕ → ℕ
values_at m t = columns_at m + 2 * t

abbrev pub tolerances_at : ℕ → ℕ → ℕ
tolerances_at m t = values_at m t + 8 * t

abbrev pub b_at : ℕ → ℕ → ℕ
b_at m t = tolerances_at m t + 8 * 12

abbrev pub c_at : ℕ → ℕ → ℕ
c_at m t = b_at m t + 8 * (4 * m)

abbrev pub end_at : ℕ → ℕ → ℕ → ℕ
end_at m n t = c_at m t + 8 * (4 * n)

abbrev pub offsets_of : List ℕ → List ℕ
offsets_of s = shorts s offsets_at (m_of s + 1)

abbrev pub columns_of : List ℕ → List ℕ
columns_of s = shorts s (columns_at (m_of s)) (t_of s)

abbrev pub values_of : List ℕ → List Float
values_of s = floats s (values_at (m_of s) (t_of s)) (t_of s)

abbrev pub tolerances_of : List ℕ → List Float
tolerances_of s = floats s (tolerances_at (m_of s) (t_of s)) 12

abbrev pub b_of : List ℕ → List Float
b_of s = floats s (b_at (m_of s) (t_of s)) (4 * m_of s)

abbrev pub c_of : List ℕ → List Float
c_of s = floats s (c_at (m_of s) (t_of s)) (4 * n_of s)

-- `Limits m 16, n 32, t 128; beyond them, or if the record's bytes don't match, it prints input`
abbrev pub most_rows : ℕ
most_rows = 16

abbrev pub most_columns : ℕ
most_columns = 32

abbrev pub most_entries : ℕ
most_entries = 128

abbrev pub within : ℕ → ℕ → ℕ → Bool
within m n t = leb m most_rows && (leb n most_columns && leb t most_entries)

unfoldable pub well_formed : List ℕ → Bool
well_formed s =
    eqb (length s) (4 + length_of s)
    && (eqb (kind_of s) 1 && (within (m_of s) (n_of s) (t_of s) && eqb (length s) (end_at (m_of s) (n_of s) (t_of s))))

-- the five sizes that a record starts with
abbrev pub sizes_of : List ℕ → RecordSizes
sizes_of s = record { m = m_of s; n = n_of s; s = s_of s; limit = limit_of s; t = t_of s }

abbrev pub header_of : List ℕ → Option RecordSizes
header_of s = then_some (well_formed s) (sizes_of s)
