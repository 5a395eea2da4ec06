-- What the lists of pairs are written from, and where the writing stands. Definitions only.
use Rattle.std.specs.Prelude.{◌≡◌, Bool, true, List, ℕ, suc, ◌+◌, ◌*◌, ◌<◌, ◌≤◌, length, get_or}
use Rattle.csr.specs.Pattern.{row}
use Rattle.pattern.specs.Word.{bit}
use Rattle.lists.specs.Lists.{shape, weight, before}
use Rattle.pattern.specs.Ready.{Ready}
use Rattle.lists.specs.declared.Which.{Which}
use Rattle.transpose.specs.Bins.{Grid}
use Rattle.shared_columns.specs.Marked.{Marked}
use Rattle.pair_lists.specs.Kept.{Rows, marks_read}

-- accepted lists of m rows and `wide` columns, their pattern as bits, and its rows as lists
pub record Listing (off cols : List ℕ) (m : ℕ) (p lindptr lindices : List ℕ) (wide : ℕ) : Type 0 where
  pub ready : Ready off cols m p
  pub rows : Rows (bit p) lindptr lindices m
  pub grid : Grid off cols m wide

-- and a memory over the columns with no mark above the first row's start
pub record Unmarked (off cols : List ℕ) (m : ℕ) (p lindptr lindices mark : List ℕ) : Type 0 where
  pub wide : ℕ
  pub listing : Listing off cols m p lindptr lindices wide
  pub long : wide ≤ length mark
  pub low : (c : ℕ) → c < wide → get_or mark c 0 ≤ get_or off 0 0

-- row i of accepted lists and their pattern, marked if the list reads marks
pub record RowReady (w : Which) (off cols p mark : List ℕ) (i : ℕ) : Type 0 where
  pub m : ℕ
  pub wide : ℕ
  pub ready : Ready off cols m p
  pub grid : Grid off cols m wide
  pub inside : i < m
  pub long : wide ≤ length mark
  pub marks : marks_read w ≡ true → Marked mark (get_or off i 0) (row off cols i) wide

-- and the rows of the pattern as lists
pub record RowListing (w : Which) (off cols p lindptr lindices mark : List ℕ) (i : ℕ) : Type 0 where
  pub at : RowReady w off cols p mark i
  pub rows : Rows (bit p) lindptr lindices at.m

-- the place t is of row r of a grid
pub record InRow (h : ℕ → ℕ → Bool) (lindptr lindices : List ℕ) (r t : ℕ) : Type 0 where
  pub m : ℕ
  pub rows : Rows h lindptr lindices m
  pub inside : r < m
  pub first : get_or lindptr r 0 ≤ t
  pub last : t < get_or lindptr (r + 1) 0

-- n is what a list has counted before row i
pub record Counting (w : Which) (off cols : List ℕ) (i n : ℕ) : Type 0 where
  pub count : n ≡ before (weight (shape off cols) w) i 0
  pub few : n ≤ 4210688 * i

-- the stored pair (i, j) at its place t, and n, what a list has counted up to it
pub record AtPair (w : Which) (off cols lindptr lindices : List ℕ) (i j t n : ℕ) : Type 0 where
  pub first : get_or lindptr i 0 ≤ t
  pub last : t < get_or lindptr (i + 1) 0
  pub column : j ≡ get_or lindices t 0
  pub count : n ≡ before (weight (shape off cols) w) i (suc j)
