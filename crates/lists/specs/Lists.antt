-- The sixteen lists of the plan. Definitions only.
use Rattle.std.specs.Prelude.{Bool, true, false, ◌&&◌, ℕ, zero, suc, ◌+◌, eqb, leb, get_or}
use mathlib.Core.List.{List, [], ◌∷◌, ◌++◌, map}
use Rattle.csr.specs.Pattern.{has, row}
use Rattle.base.specs.Sums.{sum, one}
use Rattle.csr.specs.Counts.{common, is_stored}
use Rattle.base.specs.Cat.{cat, pick, pairs}
use Rattle.lists.specs.declared.Take.{Take}
use Rattle.lists.specs.declared.Take.TheVariants.{Left, Right, Column}
use Rattle.lists.specs.declared.Side.{Side}
use Rattle.lists.specs.declared.Side.TheVariants.{Factor, Matrix}
use Rattle.lists.specs.declared.What.{What}
use Rattle.lists.specs.declared.What.TheVariants.{Numbers, Places}
use Rattle.lists.specs.declared.Which.{Which}
use Rattle.lists.specs.declared.Which.TheVariants.{AnormIndptr, AnormIndptrI, AnormIndptrJ, AnormIndices, LdecompIndptr, LdecompIndptrI, LdecompIndptrJ, Lindptr, LdiagIndptr, Lindices}
use Rattle.base.specs.Numbers.{find}
use Rattle.csr.specs.Questions.{max_rows, max_columns}

-- what the lists are read off
pub record Shape : Type 0 where
  -- (i, j), j ≤ i, is stored
  pub held : ℕ → ℕ → Bool
  -- the columns of row i
  pub cols : ℕ → List ℕ
  -- where row i starts in the values
  pub from : ℕ → ℕ

abbrev pub shape : List ℕ → List ℕ → Shape
shape off cols = record {
  held = λ i j. leb j i && is_stored off cols i j;
  cols = λ i. row off cols i;
  from = λ i. get_or off i 0;
}

-- those of the first list that stand in the second
unfoldable pub both : List ℕ → List ℕ → List ℕ
unfolding has
both [] ys = []
both (x ∷ xs) ys = pick (has ys x) x ++ both xs ys

-- the first, the second or the third
abbrev pub chosen : Take → ℕ → ℕ → ℕ → ℕ
chosen Left x y z = x
chosen Right x y z = y
chosen Column x y z = z

-- the columns that two lists share, each by its place in the first, by its place in the second, or as it is
unfoldable pub shared_as : Take → ℕ → ℕ → List ℕ → List ℕ → List ℕ
unfolding both find
shared_as t x y xs ys = map (λ e. chosen t (x + find e xs) (y + find e ys) e) (both xs ys)

-- what is counted at the pairs before (i, j)
unfoldable pub before : (ℕ → ℕ → ℕ) → ℕ → ℕ → ℕ
unfolding sum
before w i j = sum i (λ a. sum (suc a) (λ b. w a b)) + sum j (λ b. w i b)

-- the k below a bound that rows r and q of a grid both hold, each by `base` and its place among those of row r
unfoldable pub walk_of : (ℕ → ℕ → Bool) → ℕ → ℕ → ℕ → ℕ → List ℕ
unfolding cat sum
walk_of h r q bound base = cat bound (λ k. pick (h r k && h q k) (base + sum k (λ b. one (h r b))))

module _ (g : Shape) where
  -- the place of (i, e) in the values
  unfoldable pub place : ℕ → ℕ → ℕ
  unfolding find
  place i e = g.from i + find e (g.cols i)

  -- the place of (i, k) among the stored
  unfoldable pub lplace : ℕ → ℕ → ℕ
  unfolding before
  lplace i k = before (λ a b. one (g.held a b)) i k

  -- the columns that rows i and j share
  unfoldable pub shared : ℕ → ℕ → List ℕ
  unfolding both
  shared i j = both (g.cols i) (g.cols j)

  -- the same, each by its place in row i, by its place in row j, or as it is
  unfoldable pub shared_of : Take → ℕ → ℕ → List ℕ
  unfolding place shared
  shared_of t i j = map (λ e. chosen t (place i e) (place j e) e) (shared i j)

  -- the k < j with (i, k) and (j, k) stored
  unfoldable pub products : ℕ → ℕ → List ℕ
  unfolding cat
  products i j = cat j (λ k. pick (g.held i k && g.held j k) k)

  -- what a list of ends counts at (i, j)
  unfoldable pub weight : Which → ℕ → ℕ → ℕ
  unfolding sum common
  weight AnormIndptr i j = common (g.cols i) (g.cols j)
  weight LdecompIndptr i j = sum j (λ k. one (g.held i k && g.held j k))
  weight AnormIndptrI i j = 0
  weight AnormIndptrJ i j = 0
  weight AnormIndices i j = 0
  weight LdecompIndptrI i j = 0
  weight LdecompIndptrJ i j = 0
  weight Lindptr i j = 0
  weight LdiagIndptr i j = 0
  weight Lindices i j = 0

  -- what the pair (i, j) adds to a list
  unfoldable pub piece : Which → ℕ → ℕ → List ℕ
  unfolding place lplace shared products weight before
  piece AnormIndptr i j = pick (g.held i j) (before (weight AnormIndptr) i (suc j))
  piece AnormIndptrI i j = map (place i) (shared i j)
  piece AnormIndptrJ i j = map (place j) (shared i j)
  piece AnormIndices i j = shared i j
  piece LdecompIndptr i j = pick (g.held i j) (before (weight LdecompIndptr) i (suc j))
  piece LdecompIndptrI i j = map (lplace i) (products i j)
  piece LdecompIndptrJ i j = map (lplace j) (products i j)
  piece Lindptr i j = pick (eqb j i) (lplace (suc i) 0)
  piece LdiagIndptr i j = pick (eqb j i) (lplace i i)
  piece Lindices i j = pick (g.held i j) j

-- the three lists of ends begin with 0
abbrev pub begins : Which → Bool
begins AnormIndptr = true
begins LdecompIndptr = true
begins Lindptr = true
begins AnormIndptrI = false
begins AnormIndptrJ = false
begins AnormIndices = false
begins LdecompIndptrI = false
begins LdecompIndptrJ = false
begins LdiagIndptr = false
begins Lindices = false

unfoldable pub list_of : Shape → Which → ℕ → List ℕ
unfolding piece pairs
list_of g w m = pick (begins w) 0 ++ pairs m (piece g w)

-- ---- by column: where a grid of m rows holds column e, rows rising
module _ (mem : ℕ → ℕ → Bool) (m : ℕ) where
  unfoldable pub in_column : ℕ → ℕ
  unfolding sum
  in_column e = sum m (λ i. one (mem i e))

  unfoldable pub column : (ℕ → ℕ → ℕ) → ℕ → List ℕ
  unfolding cat
  column v e = cat m (λ i. pick (mem i e) (v i e))

  unfoldable pub column_ends : ℕ → List ℕ
  unfolding cat sum in_column
  column_ends n = 0 ∷ cat n (λ e. sum (suc e) in_column ∷ [])

  unfoldable pub columns : (ℕ → ℕ → ℕ) → ℕ → List ℕ
  unfolding column
  columns v n = cat n (column v)

-- does row i of the factor, or of the matrix, hold column e?
abbrev pub holds : Shape → Side → ℕ → ℕ → Bool
holds g Factor = g.held
holds g Matrix = λ i e. has (g.cols i) e

-- and where: its place among the stored, or in the values
abbrev pub placed : Shape → Side → ℕ → ℕ → ℕ
placed g Factor = lplace g
placed g Matrix = place g

-- an entry by its row, or by its place
abbrev pub entry : Shape → Side → What → ℕ → ℕ → ℕ
entry g s Numbers = λ i e. i
entry g s Places = placed g s

-- of an entry of row i at place x
abbrev pub by_what : What → ℕ → ℕ → ℕ
by_what Numbers i x = i
by_what Places i x = x

-- how many columns there may be
abbrev pub widest : Side → ℕ
widest Factor = max_rows
widest Matrix = max_columns

unfoldable pub ends_of : Shape → Side → ℕ → ℕ → List ℕ
unfolding column_ends
ends_of g s m n = column_ends (holds g s) m n

unfoldable pub columns_of : Shape → Side → What → ℕ → ℕ → List ℕ
unfolding columns
columns_of g s v m n = columns (holds g s) m (entry g s v) n

-- the lists of pairs in their order, from 0
abbrev pub field : ℕ → Which
field zero = AnormIndptr
field (suc zero) = AnormIndptrI
field (suc (suc zero)) = AnormIndptrJ
field (suc (suc (suc zero))) = AnormIndices
field (suc (suc (suc (suc zero)))) = LdecompIndptr
field (suc (suc (suc (suc (suc zero))))) = LdecompIndptrI
field (suc (suc (suc (suc (suc (suc zero)))))) = LdecompIndptrJ
field (suc (suc (suc (suc (suc (suc (suc zero))))))) = Lindptr
field (suc (suc (suc (suc (suc (suc (suc (suc zero)))))))) = LdiagIndptr
field (suc (suc (suc (suc (suc (suc (suc (suc (suc n))))))))) = Lindices

-- the three lists of a transpose
unfoldable pub side_of : Shape → Side → ℕ → ℕ → List ℕ
unfolding ends_of columns_of
side_of g s m n = ends_of g s m n ++ columns_of g s Numbers m n ++ columns_of g s Places m n

unfoldable pub ten_of : Shape → ℕ → ℕ → List ℕ
unfolding cat list_of
ten_of g m k = cat k (λ i. list_of g (field i) m)

-- THE PLAN: the sixteen lists, each by the Rust's name of its field. An entry is a stored pair (i, j) of the factor, j ≤ i, row by row; its place is its number among them.
--   1 anorm_indptr      the shared columns of entry e stand from number e of this list to number e + 1
--   2 anorm_indptr_i    of each column that rows i and j share, where row i's value stands in the matrix's values
--   3 anorm_indptr_j    of each, where row j's value stands
--   4 anorm_indices     of each, which column it is
--   5 ldecomp_indptr    the products of entry e stand from number e of this list to number e + 1
--   6 ldecomp_indptr_i  of each k < j with (i, k) and (j, k) stored, the place of (i, k)
--   7 ldecomp_indptr_j  of each, the place of (j, k)
--   8 lindptr           row i of the factor stands from number i of this list to number i + 1
--   9 ldiag_indptr      the place of each row's diagonal entry
--  10 lindices          each entry's column
--  11 ltindptr          column j of the factor stands from number j of this list to number j + 1
--  12 ltindices         the rows of each column
--  13 ltmap             the places of those entries
--  14 atindptr          column e of the matrix stands from number e of this list to number e + 1 (14 to 16: the matrix's transpose, which the Rust keeps elsewhere)
--  15 atindices         the rows of each column
--  16 atmap             where those entries stand in the matrix's values
unfoldable pub plan_of : Shape → ℕ → ℕ → List ℕ
unfolding list_of ends_of columns_of
plan_of g m n =
    list_of g AnormIndptr m
    ++ list_of g AnormIndptrI m
    ++ list_of g AnormIndptrJ m
    ++ list_of g AnormIndices m
    ++ list_of g LdecompIndptr m
    ++ list_of g LdecompIndptrI m
    ++ list_of g LdecompIndptrJ m
    ++ list_of g Lindptr m
    ++ list_of g LdiagIndptr m
    ++ list_of g Lindices m
    ++ ends_of g Factor m m
    ++ columns_of g Factor Numbers m m
    ++ columns_of g Factor Places m m
    ++ ends_of g Matrix m n
    ++ columns_of g Matrix Numbers m n
    ++ columns_of g Matrix Places m n

abbrev pub plan_words : List ℕ → List ℕ → ℕ → ℕ → List ℕ
plan_words off cols m n = plan_of (shape off cols) m n
