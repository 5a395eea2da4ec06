-- n bins of given sizes, one after the other from `start` in a memory, each filled from its front. Assumes nothing.
use Rattle.std.specs.Prelude.{◌≡◌, Bool, true, false, List, [], ◌∷◌, ◌++◌, ℕ, suc, ◌+◌, ◌*◌, ◌-◌, ◌<◌, ◌≤◌, eqb, length, get_or, take}
use Rattle.csr.specs.Counts.{common}
use Rattle.csr.specs.Pattern.{has, row}
use Rattle.csr.specs.Csr.{Csr, RowOf, max_places}
use Rattle.base.specs.Cat.{pick, cat}
use Rattle.base.specs.Numbers.{Below}
use Rattle.lists.specs.Lists.{shape, holds, entry, column, in_column, side_of}
use Rattle.lists.specs.declared.What.{What}
use Rattle.lists.specs.declared.What.TheVariants.{Numbers}
use Rattle.transpose.specs.declared.Columns.{Columns}
use Rattle.transpose.specs.declared.Columns.TheVariants.{Words, Bytes}
use Rattle.lists.specs.declared.Side.TheVariants.{Matrix}
use Rattle.base.specs.Sums.{sum, one}
use Rattle.csr.specs.Questions.{max_rows, max_columns}

-- the columns, as numbers: the matrix's stand in words, the factor's in bytes
abbrev pub cols_of : Columns → List ℕ
cols_of (Words words) = words.now
cols_of (Bytes bytes) = bytes.now

-- a memory has a word for each row and one for each column, and one more
pub record Room (m n : ℕ) (s : List ℕ) : Type 0 where
  pub rows : m < length s
  pub columns : n < length s

-- bin c has room for `size c` words and holds the list `held c`; next c is where its next word goes
pub record Bins (index next : List ℕ) (start n : ℕ) (size : ℕ → ℕ) (held : ℕ → List ℕ) : Type 0 where
  pub cursor : (c : ℕ) → c < n → get_or next c 0 ≡ sum c size + length (held c)
  pub fits : (c : ℕ) → c < n → length (held c) ≤ size c
  pub words : (c k : ℕ) → c < n → k < length (held c) → get_or index (start + sum c size + k) 0 ≡ get_or (held c) k 0

abbrev pub onto : Bool → ℕ → List ℕ → List ℕ
onto true x l = l ++ (x ∷ [])
onto false x l = l

-- x goes into bin e
abbrev pub put_in : ℕ → ℕ → (ℕ → List ℕ) → ℕ → List ℕ
put_in e x held c = onto (eqb c e) x (held c)

-- what column c holds of the first i rows, and of those and the first q entries of row i
abbrev pub rows_of : List ℕ → List ℕ → What → ℕ → ℕ → List ℕ
rows_of off cols w i c = column (holds (shape off cols) Matrix) i (entry (shape off cols) Matrix w) c

abbrev pub room_of : List ℕ → List ℕ → ℕ → ℕ → ℕ
room_of off cols m c = in_column (holds (shape off cols) Matrix) m c

unfoldable pub in_row : List ℕ → List ℕ → What → ℕ → ℕ → ℕ → List ℕ
in_row off cols w i q c = rows_of off cols w i c ++ pick (has (take q ((shape off cols).cols i)) c) (entry (shape off cols) Matrix w i c)

-- nothing outside the bins has changed
pub record Outside (old new : List ℕ) (start end : ℕ) : Type 0 where
  pub low : (q : ℕ) → q < start → get_or new q 0 ≡ get_or old q 0
  pub high : (q : ℕ) → end ≤ q → get_or new q 0 ≡ get_or old q 0

-- lists of rows, rising, columns below n: the matrix's, or the factor's
pub record Grid (off cols : List ℕ) (m n : ℕ) : Type 0 where
  pub csr : Csr off cols m
  pub short : length cols ≤ max_places
  pub wide : n ≤ max_columns
  pub within : (i : ℕ) → i < m → Below n (row off cols i)

-- entry c of a memory is where bin c starts
pub record Starts (next : List ℕ) (n : ℕ) (size : ℕ → ℕ) : Type 0 where
  pub first : (c : ℕ) → c < n → get_or next c 0 ≡ sum c size

-- m rows, and n empty bins with room for them
pub record EmptyBins (off cols : List ℕ) (m n : ℕ) (index next : List ℕ) (start : ℕ) : Type 0 where
  pub grid : Grid off cols m n
  pub long : n ≤ length next
  pub room : start + sum n (room_of off cols m) ≤ length index
  pub starts : Starts next n (room_of off cols m)

-- the first i of m rows stand in their bins, and row i can follow
pub record Scattering (off cols : List ℕ) (m n : ℕ) (w : What) (i : ℕ) (index next : List ℕ) (start : ℕ) : Type 0 where
  pub grid : Grid off cols m n
  pub inside : i < m
  pub long : n ≤ length next
  pub room : start + sum n (room_of off cols m) ≤ length index
  pub few : sum n (room_of off cols m) ≤ max_rows * max_columns
  pub bins : Bins index next start n (room_of off cols m) (rows_of off cols w i)

-- the first i of m rows stand in their bins, and nothing else has changed
pub record Scattered (off cols : List ℕ) (m n : ℕ) (w : What) (i : ℕ) (old index next : List ℕ) (start : ℕ) : Type 0 where
  pub bins : Bins index next start n (room_of off cols m) (rows_of off cols w i)
  pub outside : Outside old index start (start + sum n (room_of off cols m))

-- what the columns hold of the first i rows, by row
abbrev pub seen : List ℕ → List ℕ → ℕ → ℕ → List ℕ
seen off cols i c = rows_of off cols Numbers i c

-- m rows, and a memory with a 0 for each of their columns
pub record Uncounted (off cols : List ℕ) (m : ℕ) (next : List ℕ) : Type 0 where
  pub n : ℕ
  pub grid : Grid off cols m n
  pub long : n ≤ length next
  pub clear : (c : ℕ) → c < n → get_or next c 0 ≡ 0

-- row i and a memory that counts, for each column of it, the rows before it that hold the column
pub record RowCounting (off cols : List ℕ) (i : ℕ) (next : List ℕ) : Type 0 where
  pub at : RowOf off cols i (length next)
  pub few : i < max_rows
  pub counts : (c : ℕ) → has (row off cols i) c ≡ true → get_or next c 0 ≡ length (seen off cols i c)

-- row i is counted: one more in each of its columns, and how many columns it shares with the rows up to it
pub record RowCounted (off cols : List ℕ) (i : ℕ) (old next : List ℕ) (shares : ℕ) : Type 0 where
  pub counts : (c : ℕ) → get_or next c 0 ≡ get_or old c 0 + one (has (row off cols i) c)
  pub pairs : shares ≡ sum (suc i) (λ j. common (row off cols i) (row off cols j))
  pub few : shares ≤ max_rows * (get_or off (i + 1) 0 - get_or off i 0)

-- a 0 and the ends of n bins
unfoldable pub ends_from : (ℕ → ℕ) → ℕ → List ℕ
unfolding cat sum
ends_from size n = 0 ∷ cat n (λ e. sum (suc e) size ∷ [])

abbrev pub side_in : List ℕ → List ℕ → ℕ → ℕ → List ℕ
side_in off cols m n = side_of (shape off cols) Matrix m n
