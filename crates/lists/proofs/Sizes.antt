-- How long the sixteen lists are: W words in all. Assumes nothing.
use mathlib.Core.Path.{◌≡◌, refl, sym, ap, ap₂, ◌∙◌}
use mathlib.Core.Bool.{Bool, true, ◌&&◌, ◌||◌}
use mathlib.Core.List.{List, [], ◌∷◌, map}
use Prim.Native.Nat.{ℕ, zero, suc, ◌+◌, ◌-◌, ◌*◌, ◌<◌, ◌≤◌}
use native.Mathlib.Omega.{arith}
use native.Mathlib.Numerals.{add-one}
use native.Mathlib.Decide.{ℕ_discrete}
use lib.Dec.{eqb, leb}
use lib.ListN.{length, get_or, length-map}
use borrow.Author.Tests.{eq-eqb, ne_eqb, lt-leb}
use Rattle.csr.specs.Pattern.{has, row}
use Rattle.base.specs.Numbers.{Below, Rising}
use Rattle.base.specs.Sums.{sum, one}
use Rattle.csr.specs.Counts.{common, is_stored, count_e, count_s, count_d, size_w}
use Rattle.base.proofs.Sums.{sum_ext, sum_add, sum_zero, sum_plus, sum_swap, sum_ones, sum_once}
use Rattle.csr.proofs.RowParts.{row_length}
use Rattle.base.specs.Cat.{cat, pick, pairs}
use Rattle.csr.specs.Csr.{Accepted}
use Rattle.lists.specs.Lists.{shape, weight, lplace, place, before, piece, list_of, shared, products, holds, entry, in_column, column, column_ends, columns, ends_of, columns_of, side_of, ten_of, plan_of, field}
use Rattle.lists.proofs.Whole.{plan_parts, three_length, side_is}
use Rattle.lists.specs.declared.Which.{Which}
use Rattle.lists.specs.declared.Which.TheVariants.{AnormIndptr, AnormIndptrI, AnormIndptrJ, AnormIndices, LdecompIndptr, LdecompIndptrI, LdecompIndptrJ, Lindptr, LdiagIndptr, Lindices}
use Rattle.lists.specs.declared.Side.{Side}
use Rattle.lists.specs.declared.Side.TheVariants.{Factor, Matrix}
use Rattle.lists.specs.declared.What.{What}
use Rattle.lists.specs.declared.What.TheVariants.{Numbers, Places}
use Rattle.base.proofs.Write.{length_cat, length_pick}
use Rattle.lists.proofs.Merge.{length_both}
use Rattle.csr.proofs.Has.{absent}

-- ---- pairs

length_pairs : (m : ℕ) (f : ℕ → ℕ → List ℕ) (h : ℕ → ℕ → ℕ) → ((i j : ℕ) → i < m → j ≤ i → length (f i j) ≡ h i j)
    → length (pairs m f) ≡ sum m (λ i. sum (suc i) (λ j. h i j))
unfolding pairs
length_pairs m f h e =
    length_cat m (λ i. cat (suc i) (λ j. f i j))
    ∙ sum_ext m (λ i. length (cat (suc i) (λ j. f i j))) (λ i. sum (suc i) (λ j. h i j))
    (λ i l. length_cat (suc i) (λ j. f i j) ∙ sum_ext (suc i) (λ j. length (f i j)) (λ j. h i j) (λ j n. e i j l (omega arith)))

module _ (off cols : List ℕ) (m : ℕ) where
  held_one : (i j : ℕ) → j ≤ i → one ((shape off cols).held i j) ≡ one (is_stored off cols i j)
  held_one i j h = ap (λ (t : Bool). one (t && is_stored off cols i j)) (le i j h)
    where
      le : (i j : ℕ) → j ≤ i → leb j i ≡ true
      le i j h = borrow.Author.Tests.le-leb j i h

  -- a list with a word at each stored pair
  stored_pairs : (v : ℕ → ℕ → ℕ) → length (pairs m (λ i j. pick ((shape off cols).held i j) (v i j))) ≡ count_e off cols m
  unfolding count_e
  stored_pairs v =
      length_pairs m (λ i j. pick ((shape off cols).held i j) (v i j)) (λ i j. one (is_stored off cols i j))
      (λ i j l h. length_pick ((shape off cols).held i j) (v i j) ∙ held_one i j h)

  -- a word at each shared column
  shared_pairs : (v : ℕ → ℕ → ℕ → ℕ) → length (pairs m (λ i j. map (v i j) (shared (shape off cols) i j))) ≡ count_s off cols m
  unfolding count_s shared
  shared_pairs v =
      length_pairs m (λ i j. map (v i j) (shared (shape off cols) i j)) (λ i j. common (row off cols i) (row off cols j))
      (λ i j l h. length-map (shared (shape off cols) i j) (v i j) ∙ length_both (row off cols i) (row off cols j))

  -- a word at each product
  product_pairs : (v : ℕ → ℕ → ℕ → ℕ) → length (pairs m (λ i j. map (v i j) (products (shape off cols) i j))) ≡ count_d off cols m
  unfolding count_d products
  product_pairs v =
      length_pairs m (λ i j. map (v i j) (products (shape off cols) i j)) (λ i j. sum j (λ k. one (is_stored off cols i k && is_stored off cols j k)))
      (λ i j l h.
      length-map (products (shape off cols) i j) (v i j)
      ∙ length_cat j (λ k. pick ((shape off cols).held i k && (shape off cols).held j k) k)
      ∙ sum_ext j (λ k. length (pick ((shape off cols).held i k && (shape off cols).held j k) k)) (λ k. one (is_stored off cols i k && is_stored off cols j k))
      (λ k n.
      length_pick ((shape off cols).held i k && (shape off cols).held j k) k
      ∙ ap₂ (λ (s t : Bool). one ((s && is_stored off cols i k) && (t && is_stored off cols j k))) (borrow.Author.Tests.le-leb k i (omega arith)) (borrow.Author.Tests.le-leb k j (omega arith))))

  -- a word at each diagonal
  diag_pairs : (v : ℕ → ℕ → ℕ) → length (pairs m (λ i j. pick (eqb j i) (v i j))) ≡ m
  diag_pairs v =
      length_pairs m (λ i j. pick (eqb j i) (v i j)) (λ i j. one (eqb j i)) (λ i j l h. length_pick (eqb j i) (v i j))
      ∙ sum_ext m (λ i. sum (suc i) (λ j. one (eqb j i))) (λ i. 1) (λ i l. sum_once (suc i) i (omega arith))
      ∙ sum_ones m

-- how long a list of pairs is
abbrev pub size_of : Which → ℕ → ℕ → ℕ → ℕ → ℕ
size_of AnormIndptr m e s d = e + 1
size_of AnormIndptrI m e s d = s
size_of AnormIndptrJ m e s d = s
size_of AnormIndices m e s d = s
size_of LdecompIndptr m e s d = e + 1
size_of LdecompIndptrI m e s d = d
size_of LdecompIndptrJ m e s d = d
size_of Lindptr m e s d = m + 1
size_of LdiagIndptr m e s d = m
size_of Lindices m e s d = e

module _ (off cols : List ℕ) (m : ℕ) where
  pub size_list : (w : Which) → length (list_of (shape off cols) w m) ≡ size_of w m (count_e off cols m) (count_s off cols m) (count_d off cols m)
  unfolding list_of piece
  size_list AnormIndptr = omega (arith, stored_pairs off cols m (λ i j. before (weight (shape off cols) AnormIndptr) i (suc j)))
  size_list AnormIndptrI = shared_pairs off cols m (λ i j. place (shape off cols) i)
  size_list AnormIndptrJ = shared_pairs off cols m (λ i j. place (shape off cols) j)
  size_list AnormIndices = same ∙ shared_pairs off cols m (λ i j e. e)
    where
      same : length (pairs m (λ i j. shared (shape off cols) i j)) ≡ length (pairs m (λ i j. map (λ e. e) (shared (shape off cols) i j)))
      same =
          length_pairs m (λ i j. shared (shape off cols) i j) (λ i j. length (map (λ e. e) (shared (shape off cols) i j))) (λ i j l h. sym (length-map (shared (shape off cols) i j) (λ e. e)))
          ∙ sym (length_pairs m (λ i j. map (λ e. e) (shared (shape off cols) i j)) (λ i j. length (map (λ e. e) (shared (shape off cols) i j))) (λ i j l h. refl))
  size_list LdecompIndptr = omega (arith, stored_pairs off cols m (λ i j. before (weight (shape off cols) LdecompIndptr) i (suc j)))
  size_list LdecompIndptrI = product_pairs off cols m (λ i j. lplace (shape off cols) i)
  size_list LdecompIndptrJ = product_pairs off cols m (λ i j. lplace (shape off cols) j)
  size_list Lindptr = omega (arith, diag_pairs off cols m (λ i j. lplace (shape off cols) (suc i) 0))
  size_list LdiagIndptr = diag_pairs off cols m (λ i j. lplace (shape off cols) i i)
  size_list Lindices = stored_pairs off cols m (λ i j. j)

-- ---- columns

pub length_columns : (mem : ℕ → ℕ → Bool) (v : ℕ → ℕ → ℕ) (m n : ℕ) → length (columns mem m v n) ≡ sum m (λ i. sum n (λ e. one (mem i e)))
unfolding columns column
length_columns mem v m n =
    length_cat n (λ e. cat m (λ i. pick (mem i e) (v i e)))
    ∙ sum_ext n (λ e. length (cat m (λ i. pick (mem i e) (v i e)))) (λ e. sum m (λ i. one (mem i e)))
    (λ e l. length_cat m (λ i. pick (mem i e) (v i e)) ∙ sum_ext m (λ i. length (pick (mem i e) (v i e))) (λ i. one (mem i e)) (λ i k. length_pick (mem i e) (v i e)))
    ∙ sum_swap n m (λ i e. one (mem i e))

pub length_ends : (mem : ℕ → ℕ → Bool) (m n : ℕ) → length (column_ends mem m n) ≡ n + 1
unfolding column_ends
length_ends mem m n =
    omega (arith, length_cat n (λ e. sum (suc e) (in_column mem m) ∷ []), sum_ext n (λ e. length (sum (suc e) (in_column mem m) ∷ [])) (λ e. 1) (λ k l. refl), sum_ones n)

pub size_ends : (off cols : List ℕ) (s : Side) (m n : ℕ) → length (ends_of (shape off cols) s m n) ≡ n + 1
unfolding ends_of
size_ends off cols s m n = length_ends (holds (shape off cols) s) m n

-- a rising row below n has each of its columns once
pub row_ones_lem : (n : ℕ) (xs : List ℕ) → Rising xs → Below n xs → sum n (λ e. one (has xs e)) ≡ length xs
unfolding has
row_ones_lem n [] h b = sum_zero n (λ e. 0) (λ k l. refl)
row_ones_lem n (x ∷ xs) h b =
    sum_ext n (λ e. one (eqb e x || has xs e)) (λ e. one (eqb e x) + one (has xs e)) (λ e l. apart e (ℕ_discrete e x))
    ∙ sum_plus n (λ e. one (eqb e x)) (λ e. one (has xs e))
    ∙ omega (arith, sum_once n x b.0, row_ones_lem n xs h.1 b.1)
  where
    apart : (e : ℕ) → Dec (e ≡ x) → one (eqb e x || has xs e) ≡ one (eqb e x) + one (has xs e)
    apart e (yes q) = rw (eq-eqb e x q, ap (has xs) q ∙ absent x xs h.0)
    apart e (no q) = rw (ne_eqb e x q) (omega arith)

module _ (off cols : List ℕ) (m n : ℕ) (ok : Accepted off cols m n) where
  -- the rows up to i, one after the other
  rows_long : (i : ℕ) → i ≤ m → sum i (λ r. length (row off cols r)) ≡ get_or off i 0
  unfolding sum
  rows_long zero h = sym ok.offsets.first
  rows_long (suc i) h =
      omega (arith, rows_long i (omega arith), ok.csr.order i (omega arith), row_length off cols i (ok.csr.ends (i + 1) (omega arith)), ap (λ (k : ℕ). get_or off k 0) (add-one i))

  pub matrix_entries : sum m (λ i. sum n (λ e. one (has (row off cols i) e))) ≡ length cols
  matrix_entries =
      sum_ext m (λ i. sum n (λ e. one (has (row off cols i) e))) (λ i. length (row off cols i)) (λ i l. row_ones_lem n (row off cols i) (ok.csr.rising i l) (ok.within i l))
      ∙ rows_long m (omega arith)
      ∙ ok.offsets.last

  pub factor_entries : sum m (λ i. sum m (λ e. one ((shape off cols).held i e))) ≡ count_e off cols m
  unfolding count_e
  factor_entries = sum_ext m (λ i. sum m (λ e. one ((shape off cols).held i e))) (λ i. sum (suc i) (λ j. one (is_stored off cols i j))) (λ i l. cut i l)
    where
      cut : (i : ℕ) → i < m → sum m (λ e. one ((shape off cols).held i e)) ≡ sum (suc i) (λ j. one (is_stored off cols i j))
      cut i l =
          let e : m ≡ suc i + (m - suc i) = omega arith in
          ap (λ (k : ℕ). sum k (λ e. one ((shape off cols).held i e))) e
          ∙ sum_add (suc i) (m - suc i) (λ e. one ((shape off cols).held i e))
          ∙ ap₂ ◌+◌
          (sum_ext (suc i) (λ e. one ((shape off cols).held i e)) (λ j. one (is_stored off cols i j)) (λ j k. held_one off cols m i j (omega arith)))
          (sum_zero (m - suc i) (λ k. one ((shape off cols).held i (suc i + k))) (λ k h. ap (λ (t : Bool). one (t && is_stored off cols i (suc i + k))) (lt-leb (suc i + k) i (omega arith))))
          ∙ omega arith

  pub size_factor : (v : What) → length (columns_of (shape off cols) Factor v m m) ≡ count_e off cols m
  unfolding columns_of
  size_factor v = length_columns (holds (shape off cols) Factor) (entry (shape off cols) Factor v) m m ∙ factor_entries

  pub size_matrix : (v : What) → length (columns_of (shape off cols) Matrix v m n) ≡ length cols
  unfolding columns_of
  size_matrix v = length_columns (holds (shape off cols) Matrix) (entry (shape off cols) Matrix v) m n ∙ matrix_entries

  size_side : (s : Side) (c t : ℕ) → sum m (λ i. sum c (λ e. one (holds (shape off cols) s i e))) ≡ t → length (side_of (shape off cols) s m c) ≡ c + 1 + t + t
  unfolding ends_of columns_of
  size_side s c t e =
      ap length (side_is (shape off cols) s m c)
      ∙ three_length (ends_of (shape off cols) s m c) (columns_of (shape off cols) s Numbers m c) (columns_of (shape off cols) s Places m c)
      ∙ omega (arith, length_ends (holds (shape off cols) s) m c, length_columns (holds (shape off cols) s) (entry (shape off cols) s Numbers) m c, length_columns (holds (shape off cols) s) (entry (shape off cols) s Places) m c, e)

  size_ten : length (ten_of (shape off cols) m 10) ≡ 3 * count_e off cols m + 3 * count_s off cols m + 2 * count_d off cols m + 2 * m + 3
  unfolding ten_of sum
  size_ten =
      length_cat 10 (λ k. list_of (shape off cols) (field k) m)
      ∙ sum_ext 10 (λ k. length (list_of (shape off cols) (field k) m)) (λ k. size_of (field k) m (count_e off cols m) (count_s off cols m) (count_d off cols m)) (λ k l. size_list off cols m (field k))
      ∙ omega arith

  -- THE SIZE OF THE PLAN
  pub plan_size : length (plan_of (shape off cols) m n) ≡ size_w off cols m n
  unfolding size_w
  plan_size =
      ap length (plan_parts (shape off cols) m n)
      ∙ three_length (ten_of (shape off cols) m 10) (side_of (shape off cols) Factor m m) (side_of (shape off cols) Matrix m n)
      ∙ omega (arith, size_ten, size_side Factor m (count_e off cols m) factor_entries, size_side Matrix n (length cols) matrix_entries)
