-- Questions 1 to 5, in order. Definitions only.
use Rattle.std.specs.Prelude.{List, Bool, not, ◌&&◌, ◌||◌, cond, ℕ, zero, suc, ◌+◌, ◌-◌, leb, ltb, eqb, length, get_or}
use Rattle.csr.specs.Pattern.{row}
use Rattle.csr.specs.Verdict.{Verdict, passed, refused, ask}

-- that a row or a column is below these stands in clauses, in three words each: a type for such a number would make each use longer
abbrev pub max_rows : ℕ
max_rows = 256

abbrev pub max_columns : ℕ
max_columns = 1024

abbrev pub max_entries : ℕ
max_entries = 16384

-- the first number from i on, of `fuel` numbers, at which p holds; i + fuel where there is none
unfoldable pub first_from : (ℕ → Bool) → ℕ → ℕ → ℕ
first_from p i zero = i
first_from p i (suc fuel) = cond (p i) i (first_from p (suc i) fuel)

-- offset k is above the next
abbrev pub falls : List ℕ → ℕ → Bool
falls offsets k = ltb (get_or offsets (k + 1) 0) (get_or offsets k 0)

-- row k has no entry
abbrev pub empty : List ℕ → ℕ → Bool
empty offsets k = eqb (get_or offsets (k + 1) 0) (get_or offsets k 0)

-- column k of a row is not below n, or not above the column before it
abbrev pub bad_at : ℕ → List ℕ → ℕ → Bool
bad_at n r k = leb n (get_or r k 0) || (ltb 0 k && leb (get_or r k 0) (get_or r (k - 1) 0))

unfoldable pub bad_row : ℕ → List ℕ → Bool
unfolding first_from
bad_row n r = ltb (first_from (bad_at n r) 0 (length r)) (length r)

-- question 3: m + 1 offsets, the first 0, none below the one before, the last the number t of columns listed,
-- t at most 16,384, and t values
unfoldable pub offsets_right : ℕ → List ℕ → ℕ → ℕ → Bool
unfolding first_from
offsets_right m offsets t values =
    eqb (length offsets) (m + 1) && eqb (get_or offsets 0 0) 0 && not (ltb (first_from (falls offsets) 0 m) m) &&
    eqb (get_or offsets m 0) t && not (ltb max_entries t) && eqb values t

-- question 1
abbrev pub rows_right : ℕ → Bool
rows_right m = leb 1 m && leb m max_rows

-- The first no of questions 1 to 5. Plan is lent no values: for it their number is that of the columns listed.
unfoldable pub first_no : ℕ → ℕ → List ℕ → List ℕ → ℕ → Verdict
unfolding first_from bad_row offsets_right row
first_no m n offsets columns values =
    let e = first_from (empty offsets) 0 m in
    let b = first_from (λ (i : ℕ). bad_row n (row offsets columns i)) 0 m in
    ask (rows_right m)
    (ask (leb 1 n && leb n max_columns)
    (ask (offsets_right m offsets (length columns) values)
    (ask (not (ltb e m))
    (ask (not (ltb b m))
    passed
    (refused 5 b 0))
    (refused 4 e 0))
    (refused 3 0 0))
    (refused 2 0 0))
    (refused 1 0 0)
