-- The rows of a grid of bits as lists, one after the other. Assumes nothing.
use Rattle.std.specs.Prelude.{◌≡◌, Bool, true, false, List, [], ◌∷◌, ℕ, ◌+◌, ◌<◌, ◌≤◌, length, get_or}
use Rattle.csr.specs.Pattern.{row}
use Rattle.base.specs.Cat.{cat, pick}
use Rattle.shared_columns.specs.Marked.{along_of}
use Rattle.lists.specs.declared.Which.{Which}
use Rattle.lists.specs.declared.Which.TheVariants.{AnormIndptr, AnormIndptrI, AnormIndptrJ, AnormIndices, LdecompIndptr, LdecompIndptrI, LdecompIndptrJ, Lindptr, LdiagIndptr, Lindices}
use Rattle.csr.specs.Questions.{max_rows}
use Rattle.csr.specs.Csr.{max_places}

-- the k below n that h holds, rising
unfoldable pub kept : (ℕ → Bool) → ℕ → List ℕ
unfolding cat
kept h n = cat n (λ k. pick (h k) k)

-- the rows before i, each up to its diagonal
unfoldable pub kept_rows : (ℕ → ℕ → Bool) → ℕ → List ℕ
unfolding kept
kept_rows h i = cat i (λ a. kept (h a) (a + 1))

-- where the rows before i end
unfoldable pub row_ends : (ℕ → ℕ → Bool) → ℕ → List ℕ
unfolding cat kept_rows
row_ends h i = cat i (λ a. length (kept_rows h (a + 1)) ∷ [])

-- lindptr and lindices are the row offsets and the columns of m rows of the grid
pub record Rows (h : ℕ → ℕ → Bool) (lindptr lindices : List ℕ) (m : ℕ) : Type 0 where
  pub offsets : m < length lindptr
  pub few : m ≤ max_rows
  pub starts : (i : ℕ) → i ≤ m → get_or lindptr i 0 ≡ length (kept_rows h i)
  pub rows : (i : ℕ) → i < m → row lindptr lindices i ≡ kept (h i) (i + 1)
  pub fits : get_or lindptr m 0 ≤ length lindices
  pub short : length lindices ≤ max_places

-- the places in a list, from base on, of the k that h holds
abbrev pub places_of : (ℕ → Bool) → ℕ → List ℕ → List ℕ
places_of h base l = along_of (λ x k. pick (h k) x) base l

-- the lists that are read off the marks of a row
abbrev pub marks_read : Which → Bool
marks_read AnormIndptr = true
marks_read AnormIndptrI = true
marks_read AnormIndptrJ = true
marks_read AnormIndices = true
marks_read LdecompIndptr = false
marks_read LdecompIndptrI = false
marks_read LdecompIndptrJ = false
marks_read Lindptr = false
marks_read LdiagIndptr = false
marks_read Lindices = false

-- the lists that have a word for each diagonal entry alone
abbrev pub diagonal_only : Which → Bool
diagonal_only AnormIndptr = false
diagonal_only AnormIndptrI = false
diagonal_only AnormIndptrJ = false
diagonal_only AnormIndices = false
diagonal_only LdecompIndptr = false
diagonal_only LdecompIndptrI = false
diagonal_only LdecompIndptrJ = false
diagonal_only Lindptr = true
diagonal_only LdiagIndptr = true
diagonal_only Lindices = false
