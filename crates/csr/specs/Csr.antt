-- CSR lists that are well formed. Assumes nothing.
use Rattle.std.specs.Prelude.{◌≡◌, List, ℕ, ◌+◌, ◌<◌, ◌≤◌, get_or, length}
use Rattle.csr.specs.Pattern.{row}
use Rattle.base.specs.Numbers.{Below, Rising, Part}
use Rattle.csr.specs.Questions.{max_rows, max_columns, max_entries}

-- the most entries that a factor has, and more than a list of columns has, the matrix's or the factor's
abbrev pub max_stored : ℕ
max_stored = 32896

abbrev pub max_places : ℕ
max_places = 65536

-- the lists of m rows, each with rising columns: the matrix's, or the factor's
pub record Csr (off cols : List ℕ) (m : ℕ) : Type 0 where
  pub offsets : m < length off
  pub few : m ≤ max_rows
  pub order : (i : ℕ) → i < m → get_or off i 0 ≤ get_or off (i + 1) 0
  pub ends : (i : ℕ) → i ≤ m → get_or off i 0 ≤ length cols
  pub rising : (i : ℕ) → i < m → Rising (row off cols i)

-- row i of the lists: a part of the columns, rising and below n
pub record RowOf (off cols : List ℕ) (i n : ℕ) : Type 0 where
  pub part : Part off i (length cols)
  pub rising : Rising (row off cols i)
  pub within : Below n (row off cols i)

-- what a yes at question 3 says of the offsets of m rows with t entries
pub record Offsets (m : ℕ) (off : List ℕ) (t : ℕ) : Type 0 where
  pub count : length off ≡ m + 1
  pub first : get_or off 0 0 ≡ 0
  pub rises : (i : ℕ) → i < m → get_or off i 0 ≤ get_or off (i + 1) 0
  pub last : get_or off m 0 ≡ t
  pub few : t ≤ max_entries

-- questions 1 to 5 got a yes
pub record Accepted (off cols : List ℕ) (m n : ℕ) : Type 0 where
  pub csr : Csr off cols m
  pub offsets : Offsets m off (length cols)
  pub wide : n ≤ max_columns
  pub within : (i : ℕ) → i < m → Below n (row off cols i)
  pub filled : (i : ℕ) → i < m → get_or off i 0 < get_or off (i + 1) 0
