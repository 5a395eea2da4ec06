-- Rows that share a column, linked through the first row that holds it. Definitions only.
use Rattle.std.specs.Prelude.{◌≡◌, Bool, false, ◌||◌, cond, List, [], ◌∷◌, eqb, get_or}
use Prim.Native.Nat.{ℕ, zero, suc, ◌<◌}
use Rattle.csr.specs.Pattern.{has, row}
use Rattle.base.specs.Numbers.{Below}
use Rattle.csr.specs.Questions.{max_columns}

-- the first, or else the second
abbrev pub or_else : ℕ → ℕ → ℕ
or_else zero y = y
or_else (suc x) y = suc x

-- some column of a list has j as its first row
unfoldable pub linked : (ℕ → ℕ) → List ℕ → ℕ → Bool
linked F [] j = false
linked F (e ∷ es) j = eqb (F e) (suc j) || linked F es j

module _ (off cols : List ℕ) where
  -- one more than the first row below i that holds column e, or 0
  unfoldable pub first_of : ℕ → ℕ → ℕ
  unfolding has row
  first_of zero e = 0
  first_of (suc i) e = or_else (first_of i e) (cond (has (row off cols i) e) (suc i) 0)

  -- row j is the first that holds some column of row i
  unfoldable pub links : ℕ → ℕ → Bool
  unfolding linked first_of row
  links i j = linked (first_of i) (row off cols i) j

  -- the columns of m rows are below n
  abbrev pub Inside : ℕ → ℕ → Type 0
  Inside m n = (i : ℕ) → i < m → Below n (row off cols i)

-- a memory over 1,024 columns that holds F
abbrev pub Firsts : List ℕ → (ℕ → ℕ) → Type 0
Firsts first F = (e : ℕ) → e < max_columns → get_or first e 0 ≡ F e
