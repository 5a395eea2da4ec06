-- Room for what a pair adds to a list, and the sixteen lists by what they are. Definitions only.
use Rattle.std.specs.Prelude.{List, ℕ, ◌<◌, ◌≤◌, length}
use Rattle.csr.specs.Pattern.{row}
use Rattle.lists.specs.Lists.{Shape, shape, list_of, ends_of, columns_of}
use Rattle.lists.specs.declared.Side.{Side}
use Rattle.lists.specs.declared.Side.TheVariants.{Factor, Matrix}
use Rattle.file_lists.specs.Matched.{entries_of}
use Rattle.file_lists.specs.declared.Part.{Part}
use Rattle.file_lists.specs.declared.Part.TheVariants.{Ends, Entries}
use Rattle.file_lists.specs.declared.Kind.{Kind}
use Rattle.file_lists.specs.declared.Kind.TheVariants.{Pairs, Columns}

-- a memory has room for what any pair of row i adds to a list: a word for each row up to i, one for each column of row i
pub record PieceRoom (off cols : List ℕ) (i : ℕ) (made : List ℕ) : Type 0 where
  pub rows : i < length made
  pub columns : length (row off cols i) ≤ length made

-- ends or entries
abbrev pub side_list : List ℕ → List ℕ → ℕ → ℕ → Part → List ℕ
side_list off cols m n Ends = ends_of (shape off cols) Matrix m n
side_list off cols m n (Entries w) = entries_of off cols w m n

-- a side of m rows and n columns has a column for each row, or for each column
abbrev pub width : Side → ℕ → ℕ → ℕ
width Factor m n = m
width Matrix m n = n

-- the list of a kind
abbrev pub of_kind : Shape → ℕ → ℕ → Kind → List ℕ
of_kind g m n (Pairs w) = list_of g w m
of_kind g m n (Columns s Ends) = ends_of g s m (width s m n)
of_kind g m n (Columns s (Entries w)) = columns_of g s w m (width s m n)
