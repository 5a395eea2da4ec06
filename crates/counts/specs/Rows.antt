-- What the memories of the counting hold between two rows. Definitions only.
use Rattle.std.specs.Prelude.{◌≡◌, List, ℕ, ◌+◌, ◌*◌, ◌≤◌, ◌<◌, length, get_or}
use Rattle.base.specs.Sums.{sum, one}
use Rattle.csr.specs.Pattern.{has, row}
use Rattle.csr.specs.Csr.{Csr, RowOf}
use Rattle.csr.specs.Counts.{is_stored, count_e, count_s, count_d}
use Rattle.csr.specs.Questions.{max_rows, max_entries}
use Rattle.pattern.specs.Links.{first_of, Inside}
use Rattle.parents.specs.Parent.{parent_of}
use Rattle.counts.specs.Climb.{entries_in}

-- the rows below i that hold column c of the matrix
unfoldable pub rows_with : List ℕ → List ℕ → ℕ → ℕ → ℕ
unfolding sum row has
rows_with off cols i c = sum i (λ r. one (has (row off cols r) c))

-- what one row adds to S is below this
abbrev pub most_of_row : ℕ
most_of_row = (max_rows + 1) * max_entries

-- between two rows: the rows below i are counted
pub record Rows (off cols : List ℕ) (i : ℕ) (mark parent column seen first : List ℕ) (e s d : ℕ) : Type 0 where
  pub parents : length parent ≡ length mark
  pub columns : length column ≡ length mark
  pub firsts : length first ≡ length seen
  pub old : (k : ℕ) → get_or mark k 0 ≤ i
  pub parent_at : (k : ℕ) → k < length mark → get_or parent k 0 ≡ parent_of (is_stored off cols) i k
  pub column_at : (k : ℕ) → k < length mark → get_or column k 0 ≡ entries_in (is_stored off cols) i k
  pub seen_at : (c : ℕ) → c < length seen → get_or seen c 0 ≡ rows_with off cols i c
  pub first_at : (c : ℕ) → c < length seen → get_or first c 0 ≡ first_of off cols i c
  pub entries : e ≡ count_e off cols i
  pub shared : s ≡ count_s off cols i
  pub products : d ≡ count_d off cols i
  pub small : s ≤ most_of_row * i

-- row i of lists that are accepted, and memories over so many rows and columns
pub record Fit (off cols : List ℕ) (i rows columns : ℕ) : Type 0 where
  pub few : i < max_rows
  pub room : i < rows
  pub short : length cols ≤ max_entries
  pub is : RowOf off cols i columns

-- m rows of lists that are accepted, and memories over so many rows and columns
pub record Countable (off cols : List ℕ) (m rows columns : ℕ) : Type 0 where
  pub csr : Csr off cols m
  pub short : length cols ≤ max_entries
  pub room : m ≤ rows
  pub within : Inside off cols m columns
