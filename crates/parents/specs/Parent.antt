-- The parent of a row in the factor, and the rows that are met along parents. Definitions only.
use Rattle.std.specs.Prelude.{◌≡◌, ◌↔◌, Bool, true, false, ◌&&◌, cond, List, ℕ, zero, suc, ◌<◌, ltb}
use Rattle.csr.specs.Pattern.{neighbours}
use Rattle.csr.specs.Counts.{is_stored}
use Rattle.pattern.specs.Links.{or_else}

-- 'the parent of each row': r is the parent of row k, 'the lowest later row that has an entry in that row's column of the factor'
pub record Parent (st : ℕ → ℕ → Bool) (k r : ℕ) : Type 0 where
  pub later : k < r
  pub entry : st r k ≡ true
  pub lowest_one : (q : ℕ) → k < q → q < r → st q k ≡ false

-- row k is reached from a neighbour of i below i along parents below i
pub data Along (st near : ℕ → ℕ → Bool) (i : ℕ) : ℕ → Type 0 where
  from : {k : ℕ} → k < i → near i k ≡ true → Along st near i k
  up : {k r : ℕ} → Along st near i k → Parent st k r → r < i → Along st near i r

-- WHY COUNTING ALONG PARENTS IS RIGHT: for k < i, (i, k) is in the factor exactly when k is reached from a neighbour of i below i along parents below i.
-- `row_along` of proofs/Ascent.antt, for all lists
abbrev pub RowAlong : List ℕ → List ℕ → Type 0
RowAlong off cols = (i k : ℕ) → k < i → (is_stored off cols i k ≡ true) ↔ Along (is_stored off cols) (neighbours off cols) i k

-- ---- the parent as it is worked out

-- one more than the lowest number below b at which p holds, or 0
unfoldable pub lowest : (ℕ → Bool) → ℕ → ℕ
lowest p zero = 0
lowest p (suc b) = or_else (lowest p b) (cond (p b) (suc b) 0)

-- row r is later than row k and has an entry in its column
abbrev pub later_entry : (ℕ → ℕ → Bool) → ℕ → ℕ → Bool
later_entry st k r = ltb k r && st r k

-- one more than the parent of row k among the rows below b, or 0
unfoldable pub parent_of : (ℕ → ℕ → Bool) → ℕ → ℕ → ℕ
unfolding lowest
parent_of st b k = lowest (later_entry st k) b

-- `parent_of` is the parent: proofs/Lowest.antt
abbrev pub ParentOf : (ℕ → ℕ → Bool) → Type 0
ParentOf st = (b k r : ℕ) → (parent_of st b k ≡ suc r) ↔ (Parent st k r × (r < b))
