-- How large the numbers of the sixteen lists are: all fit 32 bits, and so does the length of each list's record. Assumes nothing.
use mathlib.Core.Path.{◌≡◌}
use mathlib.Core.Bool.{Bool, true, false, cond, ◌&&◌}
use mathlib.Core.List.{List, [], ◌∷◌, map}
use Prim.Native.Nat.{ℕ, zero, suc, ◌+◌, ◌-◌, ◌*◌, ◌^◌, ◌<◌, ◌≤◌}
use native.Mathlib.Omega.{arith}
use native.Mathlib.Nat.{mul-le-mul}
use lib.Dec.{eqb, ltb}
use lib.ListN.{length}
use Rattle.base.specs.Numbers.{find, Below}
use Rattle.base.specs.Sums.{sum, one}
use Rattle.base.specs.Cat.{cat, pick, pairs}
use Rattle.base.proofs.Numbers.{below_more, below_join, below_pick}
use Rattle.base.proofs.Sums.{sum_le, sum_more, sum_swap, count_le}
use Rattle.csr.specs.Pattern.{has, row}
use Rattle.csr.specs.Csr.{Accepted}
use Rattle.csr.specs.Counts.{count_e, count_s, count_d}
use Rattle.csr.proofs.RowParts.{row_length}
use Rattle.lists.specs.Lists.{shape, both, weight, lplace, place, before, piece, list_of, begins, shared, products, holds, entry, in_column, column, column_ends, columns, ends_of, columns_of, field}
use Rattle.lists.specs.declared.Which.{Which}
use Rattle.lists.specs.declared.Which.TheVariants.{AnormIndptr, AnormIndptrI, AnormIndptrJ, AnormIndices, LdecompIndptr, LdecompIndptrI, LdecompIndptrJ, Lindptr, LdiagIndptr, Lindices}
use Rattle.lists.specs.declared.Side.{Side}
use Rattle.lists.specs.declared.Side.TheVariants.{Factor, Matrix}
use Rattle.lists.specs.declared.What.{What}
use Rattle.lists.specs.declared.What.TheVariants.{Numbers, Places}
use Rattle.lists.proofs.Sizes.{size_of, size_list, size_ends, size_factor, size_matrix, matrix_entries, factor_entries}
use Rattle.lists.proofs.Few.{pairs_256, few_stored, shared_few, few_products, triples, triples_256}
use Rattle.plan_file.specs.Tables.{wide}
use Rattle.plan_file.specs.Verdicts.{Fitting}
use Rattle.plan_file.specs.Matrix.{six_at, matrix_lists}
use Rattle.plan_file.proofs.Files.{wide_fitting}

-- ---- numbers below a bound

picked : (b : ℕ) (t : Bool) (x : ℕ) → x < b → Below b (pick t x)
picked b t x h = below_more (suc x) b (pick t x) h (below_pick t x)

below_cat : (b n : ℕ) (f : ℕ → List ℕ) → ((k : ℕ) → k < n → Below b (f k)) → Below b (cat n f)
unfolding cat
below_cat b zero f h = tt
below_cat b (suc n) f h = below_join b (cat n f) (f n) (below_cat b n f (λ k l. h k (omega arith))) (h n (omega arith))

below_map : (c b : ℕ) (f : ℕ → ℕ) (xs : List ℕ) → Below c xs → ((x : ℕ) → x < c → f x < b) → Below b (map f xs)
below_map c b f [] p h = tt
below_map c b f (x ∷ xs) p h = (h x p.0, below_map c b f xs p.1 h)

below_both : (b : ℕ) (xs ys : List ℕ) → Below b xs → Below b (both xs ys)
unfolding both
below_both b [] ys p = tt
below_both b (x ∷ xs) ys p = below_join b (pick (has ys x) x) (both xs ys) (picked b (has ys x) x p.0) (below_both b xs ys p.1)

below_pairs : (b m : ℕ) (f : ℕ → ℕ → List ℕ) → ((i j : ℕ) → i < m → j ≤ i → Below b (f i j)) → Below b (pairs m f)
unfolding pairs
below_pairs b m f h = below_cat b m (λ i. cat (suc i) (λ j. f i j)) (λ i l. below_cat b (suc i) (λ j. f i j) (λ j k. h i j l (omega arith)))

find_le : (x : ℕ) (xs : List ℕ) → find x xs ≤ length xs
unfolding find
find_le x [] = omega arith
find_le x (y ∷ ys) = go (eqb x y) (find_le x ys)
  where
    go : (t : Bool) → find x ys ≤ length ys → cond t 0 (suc (find x ys)) ≤ suc (length ys)
    go true h = omega arith
    go false h = omega (arith, h)

-- what is counted up to a pair is at most what is counted in all
before_le : (w : ℕ → ℕ → ℕ) (m i j : ℕ) → i < m → j ≤ suc i → before w i j ≤ sum m (λ a. sum (suc a) (λ b. w a b))
unfolding before sum
before_le w m i j l h =
    omega (arith, sum_more j (suc i) (λ b. w i b) h, sum_more (suc i) m (λ a. sum (suc a) (λ b. w a b)) l)

-- ---- the lists of an accepted matrix

-- what a word is below
abbrev top : ℕ
top = 2 ^ 32

module _ (off cols : List ℕ) (m n : ℕ) (ok : Accepted off cols m n) where
  few_rows : m ≤ 256
  few_rows = ok.csr.few

  few_entries : length cols ≤ 16384
  few_entries = ok.offsets.few

  place_low : (i e : ℕ) → i < m → place (shape off cols) i e < top
  unfolding place
  place_low i e h =
      omega (arith, row_length off cols i (ok.csr.ends (i + 1) (omega arith)), ok.csr.order i h, ok.csr.ends (i + 1) (omega arith), few_entries, find_le e (row off cols i))

  -- what is counted once at each pair is at most one for each
  lplace_low : (i k : ℕ) → i ≤ m → k ≤ 256 → lplace (shape off cols) i k < top
  unfolding lplace before
  lplace_low i k h l =
      let rows : sum i (λ x. sum (suc x) (λ y. one ((shape off cols).held x y))) ≤ sum i suc =
      sum_le i (λ x. sum (suc x) (λ y. one ((shape off cols).held x y))) suc (λ x q. count_le (suc x) (λ y. (shape off cols).held x y)) in
      omega (arith, rows, sum_more i 256 suc (omega (arith, few_rows)), pairs_256, count_le k (λ y. (shape off cols).held i y))

  -- at most one product for each triple
  products_all : (h : ℕ → ℕ → ℕ → Bool) → sum m (λ i. sum (suc i) (λ j. sum j (λ k. one (h i j k)))) < top
  products_all h =
      let few : sum m (λ i. sum (suc i) (λ j. sum j (λ k. one (h i j k)))) ≤ triples m =
      sum_le m (λ i. sum (suc i) (λ j. sum j (λ k. one (h i j k)))) (λ i. sum (suc i) (λ j. j))
      (λ i b. sum_le (suc i) (λ j. sum j (λ k. one (h i j k))) (λ j. j) (λ j d. count_le j (λ k. h i j k))) in
      omega (arith, few, sum_more m 256 (λ i. sum (suc i) (λ j. j)) few_rows, triples_256)

  products_low : (i j : ℕ) → j ≤ 256 → Below 256 (products (shape off cols) i j)
  unfolding products
  products_low i j h =
      below_cat 256 j (λ k. pick ((shape off cols).held i k && (shape off cols).held j k) k)
      (λ k l. picked 256 ((shape off cols).held i k && (shape off cols).held j k) k (omega arith))

  shared_low : (i j : ℕ) → i < m → Below n (shared (shape off cols) i j)
  unfolding shared
  shared_low i j l = below_both n (row off cols i) (row off cols j) (ok.within i l)

  -- two rows share at most half of their entries
  few_s : count_s off cols m ≤ 257 * 16384
  few_s = let r : m + 1 ≤ 257 = omega (arith, few_rows) in omega (arith, shared_few off cols m ok.csr, mul-le-mul r few_entries)

  -- the numbers that a pair adds to a list
  below_piece : (w : Which) (i j : ℕ) → i < m → j ≤ i → Below top (piece (shape off cols) w i j)
  unfolding piece weight count_s
  below_piece AnormIndptr i j l h =
      picked top ((shape off cols).held i j) (before (weight (shape off cols) AnormIndptr) i (suc j))
      (omega (arith, before_le (weight (shape off cols) AnormIndptr) m i (suc j) l (omega arith), few_s))
  below_piece AnormIndptrI i j l h =
      below_map n top (place (shape off cols) i) (shared (shape off cols) i j) (shared_low i j l) (λ e q. place_low i e l)
  below_piece AnormIndptrJ i j l h =
      below_map n top (place (shape off cols) j) (shared (shape off cols) i j) (shared_low i j l) (λ e q. place_low j e (omega arith))
  below_piece AnormIndices i j l h = below_more n top (shared (shape off cols) i j) (omega (arith, ok.wide)) (shared_low i j l)
  below_piece LdecompIndptr i j l h =
      picked top ((shape off cols).held i j) (before (weight (shape off cols) LdecompIndptr) i (suc j))
      (omega (arith, before_le (weight (shape off cols) LdecompIndptr) m i (suc j) l (omega arith), products_all (λ i j k. (shape off cols).held i k && (shape off cols).held j k)))
  below_piece LdecompIndptrI i j l h =
      below_map 256 top (lplace (shape off cols) i) (products (shape off cols) i j) (products_low i j (omega (arith, few_rows))) (λ k q. lplace_low i k (omega arith) (omega arith))
  below_piece LdecompIndptrJ i j l h =
      below_map 256 top (lplace (shape off cols) j) (products (shape off cols) i j) (products_low i j (omega (arith, few_rows))) (λ k q. lplace_low j k (omega arith) (omega arith))
  below_piece Lindptr i j l h = picked top (eqb j i) (lplace (shape off cols) (suc i) 0) (lplace_low (suc i) 0 l (omega arith))
  below_piece LdiagIndptr i j l h = picked top (eqb j i) (lplace (shape off cols) i i) (lplace_low i i (omega arith) (omega (arith, few_rows)))
  below_piece Lindices i j l h = picked top ((shape off cols).held i j) j (omega (arith, few_rows))

  below_list : (w : Which) → Below top (list_of (shape off cols) w m)
  unfolding list_of
  below_list w =
      below_join top (pick (begins w) 0) (pairs m (piece (shape off cols) w)) (picked top (begins w) 0 (omega arith))
      (below_pairs top m (piece (shape off cols) w) (below_piece w))

  -- the numbers of the transposes
  below_ends : (s : Side) (c t : ℕ) → sum m (λ i. sum c (λ e. one (holds (shape off cols) s i e))) ≡ t → t < top → Below top (ends_of (shape off cols) s m c)
  unfolding ends_of column_ends in_column
  below_ends s c t e h = (
    omega arith,
    below_cat top c (λ k. sum (suc k) (in_column (holds (shape off cols) s) m) ∷ [])
        (λ k l. (omega (arith, sum_more (suc k) c (in_column (holds (shape off cols) s) m) l, sum_swap c m (λ i x. one (holds (shape off cols) s i x)), e), tt)),
  )

  below_columns : (s : Side) (v : What) (c : ℕ) → ((i e : ℕ) → i < m → e < c → entry (shape off cols) s v i e < top) → Below top (columns_of (shape off cols) s v m c)
  unfolding columns_of columns column
  below_columns s v c h =
      below_cat top c (column (holds (shape off cols) s) m (entry (shape off cols) s v))
      (λ e l. below_cat top m (λ i. pick (holds (shape off cols) s i e) (entry (shape off cols) s v i e))
      (λ i k. picked top (holds (shape off cols) s i e) (entry (shape off cols) s v i e) (h i e k l)))

  below_six : (k : ℕ) → Below top (six_at (shape off cols) m n k)
  below_six zero = below_ends Factor m (count_e off cols m) (factor_entries off cols m n ok) (omega (arith, few_stored off cols m ok.csr))
  below_six (suc zero) = below_columns Factor Numbers m (λ i e l k. omega (arith, few_rows))
  below_six (suc (suc zero)) = below_columns Factor Places m (λ i e l k. lplace_low i e (omega arith) (omega (arith, few_rows)))
  below_six (suc (suc (suc zero))) = below_ends Matrix n (length cols) (matrix_entries off cols m n ok) (omega (arith, few_entries))
  below_six (suc (suc (suc (suc zero)))) = below_columns Matrix Numbers n (λ i e l k. omega (arith, few_rows))
  below_six (suc (suc (suc (suc (suc k))))) = below_columns Matrix Places n (λ i e l j. place_low i e l)

  -- ALL FIT 32 BITS, by the list's number
  pub sixteen_low : (k : ℕ) → Below top (matrix_lists off cols m n k)
  sixteen_low k = go (ltb (k - 1) 10)
    where
      go : (t : Bool) → Below top (cond t (list_of (shape off cols) (field (k - 1)) m) (six_at (shape off cols) m n (k - 11)))
      go true = below_list (field (k - 1))
      go false = below_six (k - 11)

  -- ---- and a record's length does

  size_low : (w : Which) → 2 + 4 * length (list_of (shape off cols) w m) < top
  size_low w = omega (arith, size_list off cols m w, sizes w)
    where
      sizes : (w : Which) → size_of w m (count_e off cols m) (count_s off cols m) (count_d off cols m) ≤ 256 * (256 * 256)
      sizes AnormIndptr = omega (arith, few_stored off cols m ok.csr)
      sizes AnormIndptrI = omega (arith, few_s)
      sizes AnormIndptrJ = omega (arith, few_s)
      sizes AnormIndices = omega (arith, few_s)
      sizes LdecompIndptr = omega (arith, few_stored off cols m ok.csr)
      sizes LdecompIndptrI = omega (arith, few_products off cols m ok.csr)
      sizes LdecompIndptrJ = omega (arith, few_products off cols m ok.csr)
      sizes Lindptr = omega (arith, few_rows)
      sizes LdiagIndptr = omega (arith, few_rows)
      sizes Lindices = omega (arith, few_stored off cols m ok.csr)

  six_long : (k : ℕ) → length (six_at (shape off cols) m n k) ≤ 32896
  six_long zero = omega (arith, size_ends off cols Factor m m, few_rows)
  six_long (suc zero) = omega (arith, size_factor off cols m n ok Numbers, few_stored off cols m ok.csr)
  six_long (suc (suc zero)) = omega (arith, size_factor off cols m n ok Places, few_stored off cols m ok.csr)
  six_long (suc (suc (suc zero))) = omega (arith, size_ends off cols Matrix m n, ok.wide)
  six_long (suc (suc (suc (suc zero)))) = omega (arith, size_matrix off cols m n ok Numbers, few_entries)
  six_long (suc (suc (suc (suc (suc k))))) = omega (arith, size_matrix off cols m n ok Places, few_entries)

  pub sixteen_long : (k : ℕ) → 2 + 4 * length (matrix_lists off cols m n k) < top
  sixteen_long k = go (ltb (k - 1) 10)
    where
      go : (t : Bool) → 2 + 4 * length (cond t (list_of (shape off cols) (field (k - 1)) m) (six_at (shape off cols) m n (k - 11))) < top
      go true = size_low (field (k - 1))
      go false = omega (arith, six_long (k - 11))

  -- THE LISTS OF AN ACCEPTED MATRIX FIT THE TABLE
  pub wide_fits : Fitting wide (matrix_lists off cols m n)
  wide_fits = wide_fitting (matrix_lists off cols m n) (λ k h. sixteen_long k) (λ k h. sixteen_low k)
