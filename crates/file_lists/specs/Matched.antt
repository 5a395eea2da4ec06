-- The columns of a transpose, compared row by row. Definitions only.
use Rattle.std.specs.Prelude.{List, ℕ}
use Rattle.base.specs.Cat.{cat}
use Rattle.lists.specs.declared.What.{What}
use Rattle.transpose.specs.Bins.{Bins, rows_of, room_of}

-- the entries of n columns, rows rising in each
abbrev pub entries_of : List ℕ → List ℕ → What → ℕ → ℕ → List ℕ
entries_of off cols w m n = cat n (rows_of off cols w m)

-- the bins of the list itself have got so far, and so have those of the numbers s
pub record Matched (s list next : List ℕ) (n : ℕ) (size : ℕ → ℕ) (held : ℕ → List ℕ) : Type 0 where
  pub bins : Bins list next 0 n size held
  pub like : Bins s next 0 n size held

-- after i of m rows
abbrev pub MatchedTo : List ℕ → List ℕ → List ℕ → What → ℕ → ℕ → ℕ → List ℕ → Type 0
MatchedTo s off cols w m n i next = Matched s (entries_of off cols w m n) next n (room_of off cols m) (rows_of off cols w i)
