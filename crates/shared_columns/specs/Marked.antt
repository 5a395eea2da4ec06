-- A row of the matrix marked in a memory over the columns. Definitions only.
use Rattle.std.specs.Prelude.{◌≡◌, Bool, true, false, List, [], ◌∷◌, ◌++◌, ℕ, suc, ◌+◌, ◌-◌, ◌<◌, ◌≤◌, ltb, length, get_or}
use Rattle.csr.specs.Pattern.{has, row}
use Rattle.base.specs.Cat.{pick}
use Rattle.base.specs.Numbers.{find}
use Rattle.lists.specs.Lists.{chosen}
use Rattle.lists.specs.declared.Take.{Take}
use Rattle.transpose.specs.Bins.{Grid}

-- what f makes of each number of a list and its place, from base on
abbrev pub along_of : (ℕ → ℕ → List ℕ) → ℕ → List ℕ → List ℕ
along_of f base [] = []
along_of f base (k ∷ ks) = f base k ++ along_of f (suc base) ks

-- a memory over the columns: 1 + the place of those of the row that starts at lo, and at most lo for all others
pub record Marked (mark : List ℕ) (lo : ℕ) (xs : List ℕ) (n : ℕ) : Type 0 where
  pub into : (c : ℕ) → c < n → has xs c ≡ true → get_or mark c 0 ≡ lo + find c xs + 1
  pub out : (c : ℕ) → c < n → has xs c ≡ false → get_or mark c 0 ≤ lo

-- the row that starts at lo marked over old marks: 1 + the place of its columns, and nothing else has changed
pub record MarkedOver (old mark : List ℕ) (lo : ℕ) (xs : List ℕ) : Type 0 where
  pub into : (c : ℕ) → has xs c ≡ true → get_or mark c 0 ≡ lo + find c xs + 1
  pub out : (c : ℕ) → has xs c ≡ false → get_or mark c 0 ≡ get_or old c 0

-- i and j are rows of the lists, and row i is marked
pub record RowMarked (off cols mark : List ℕ) (i j : ℕ) : Type 0 where
  pub m : ℕ
  pub wide : ℕ
  pub grid : Grid off cols m wide
  pub inside : i < m
  pub other : j < m
  pub long : wide ≤ length mark
  pub marks : Marked mark (get_or off i 0) (row off cols i) wide

-- what a walk through a row writes at a column that is marked
abbrev pub hit : Take → List ℕ → ℕ → ℕ → ℕ → List ℕ
hit t mark lo y v = pick (ltb lo (get_or mark v 0)) (chosen t (get_or mark v 0 - 1) y v)

-- is column v marked?
abbrev pub marked : List ℕ → ℕ → ℕ → Bool
marked mark lo v = ltb lo (get_or mark v 0)
