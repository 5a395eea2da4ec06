-- The lists written column by column, cut at their ends; and the transposed lists are the matrix's columns. Assumes nothing.
use mathlib.Core.Path.{◌≡◌, refl, sym, ap, ◌∙◌, subst}
use mathlib.Core.Bool.{Bool, true}
use mathlib.Core.List.{List}
use Prim.Native.Nat.{ℕ, zero, suc, ◌+◌, ◌-◌, ◌<◌, ◌≤◌}
use native.Mathlib.Omega.{arith}
use native.Mathlib.Numerals.{add-one}
use lib.ListN.{length, get_or}
use lib.Ieee.{Float}
use Rattle.csr.specs.Pattern.{has, row}
use Rattle.base.specs.Sums.{sum}
use Rattle.base.proofs.Sums.{sum_ext, sum_more}
use Rattle.base.specs.Cat.{cat}
use Rattle.lists.specs.Lists.{Shape, shape, place, in_column, column, column_ends, columns, ends_of, columns_of}
use Rattle.csr.specs.Csr.{Accepted}
use Rattle.lists.specs.declared.Side.TheVariants.{Matrix}
use Rattle.lists.specs.declared.What.TheVariants.{Numbers, Places}
use Rattle.base.proofs.Write.{length_cat, cat_split}
use Rattle.lists.proofs.Sizes.{length_ends}
use Rattle.lanes.specs.Lists.{at, Between}
use Rattle.machine.specs.Machine.{Problem, holds, entry}
use Rattle.machine.specs.Work.{problem_of}
use Rattle.plan_laws.proofs.Picks.{picks_all}
use Rattle.base.specs.Numbers.{cut, span}
use Rattle.plan_laws.specs.Meaning.{ColsOf}
use Rattle.csr.proofs.Has.{find_lt}
use Rattle.sparse.specs.Sparse.{Ranges}
use Rattle.plan_laws.proofs.Parts.{cat_all, singles_at}
use Rattle.base.proofs.Numbers.{cut_part}
use Rattle.plan_laws.proofs.Picked.{picked, named, named_length, named_same, named_at, picked_rise, picked_has}
use Rattle.csr.proofs.RowParts.{row_length}

-- ---- any grid of m rows
module _ (mem : ℕ → ℕ → Bool) (m n : ℕ) where
  pub ends_at : (e : ℕ) → e ≤ n → get_or (column_ends mem m n) e 0 ≡ sum e (in_column mem m)
  unfolding column_ends sum
  ends_at zero h = refl
  ends_at (suc e) h = singles_at n (λ k. sum (suc k) (in_column mem m)) e h

  pub ends_next : (e : ℕ) → e < n → get_or (column_ends mem m n) (e + 1) 0 ≡ sum e (in_column mem m) + in_column mem m e
  unfolding sum
  ends_next e h = ends_at (e + 1) (omega arith) ∙ ap (λ (k : ℕ). sum k (in_column mem m)) (add-one e)

  pub column_length : (v : ℕ → ℕ → ℕ) (e : ℕ) → length (column mem m v e) ≡ in_column mem m e
  unfolding column in_column
  column_length v e = named_length (λ i. mem i e) (λ i. v i e) m

  pub before_length : (v : ℕ → ℕ → ℕ) (e : ℕ) → length (cat e (column mem m v)) ≡ sum e (in_column mem m)
  before_length v e = length_cat e (column mem m v) ∙ sum_ext e (λ k. length (column mem m v k)) (in_column mem m) (λ k b. column_length v k)

  pub columns_length : (v : ℕ → ℕ → ℕ) → length (columns mem m v n) ≡ sum n (in_column mem m)
  unfolding columns
  columns_length v = before_length v n

  -- THE COLUMN: between two ends
  pub column_cut : (v : ℕ → ℕ → ℕ) (e : ℕ) → e < n → cut (get_or (column_ends mem m n) e 0) (get_or (column_ends mem m n) (e + 1) 0) (columns mem m v n) ≡ column mem m v e
  unfolding columns
  column_cut v e h =
      ap (cut (get_or (column_ends mem m n) e 0) (get_or (column_ends mem m n) (e + 1) 0)) (cat_split n e (column mem m v) h)
      ∙ cut_part (cat e (column mem m v)) (column mem m v e) (cat (n - suc e) (λ k. column mem m v (suc e + k))) (get_or (column_ends mem m n) e 0) (get_or (column_ends mem m n) (e + 1) 0)
      (ends_at e (omega arith) ∙ sym (before_length v e))
      (omega (arith, ends_next e h, before_length v e, column_length v e))

  -- what holds of each entry holds of each number of the list
  pub columns_all : (P : ℕ → Type 0) (v : ℕ → ℕ → ℕ) → ((i e : ℕ) → i < m → e < n → mem i e ≡ true → P (v i e))
      → (t : ℕ) → t < length (columns mem m v n) → P (get_or (columns mem m v n) t 0)
  unfolding columns column
  columns_all P v h =
      cat_all P n (λ e. named (λ i. mem i e) (λ i. v i e) m)
      (λ e l t b.
      let c : t < length (picked (λ i. mem i e) m) = omega (arith, named_same (λ i. mem i e) (λ i. v i e) m) in
      subst P (sym (named_at (λ i. mem i e) (λ i. v i e) m t c)) (picks_all (λ (i : ℕ). P (v i e)) (λ i. mem i e) m (λ i q z. h i e q l z) t c))

  -- the ranges of the ends and of the rows of the columns
  pub columns_csr : Ranges n m (column_ends mem m n) (columns mem m (λ i e. i) n)
  columns_csr = record {
    rows = omega (arith, length_ends mem m n);
    rises = λ e h. omega (arith, ends_at e (omega arith), ends_next e h);
    ends = λ e h.
        let z : sum (e + 1) (in_column mem m) ≤ sum n (in_column mem m) = sum_more (e + 1) n (in_column mem m) (omega arith) in
        omega (arith, ends_at (e + 1) (omega arith), columns_length (λ i e. i));
    below = columns_all (λ (i : ℕ). i < m) (λ i e. i) (λ i e h l q. h);
  }

-- ---- the matrix
module _ (off cols : List ℕ) (m n : ℕ) (ok : Accepted off cols m n) (s : ℕ) (vals : List Float) (size : length vals ≡ length cols) where
  abbrev g : Shape
  g = shape off cols

  abbrev A : Problem
  A = problem_of m n s off cols vals

  abbrev mem : ℕ → ℕ → Bool
  mem i e = has (row off cols i) e

  place_in : (i e : ℕ) → i < m → e < n → mem i e ≡ true → place g i e < length vals
  unfolding place
  place_in i e h l t = omega (arith, find_lt e (row off cols i) t, row_length off cols i (ok.csr.ends (i + 1) (omega arith)), ok.csr.order i h, ok.csr.ends (i + 1) (omega arith))

  rows_cut : (e : ℕ) → e < n → span (ends_of g Matrix m n) (columns_of g Matrix Numbers m n) e ≡ picked (λ i. mem i e) m
  unfolding ends_of columns_of column
  rows_cut e h = column_cut mem m n (λ i e. i) e h

  places_cut : (e : ℕ) → e < n → span (ends_of g Matrix m n) (columns_of g Matrix Places m n) e ≡ named (λ i. mem i e) (λ i. place g i e) m
  unfolding ends_of columns_of column
  places_cut e h = column_cut mem m n (place g) e h

  entry_is : (i e : ℕ) → at vals (place g i e) ≡ entry A i e
  unfolding place entry
  entry_is i e = refl

  pub cols_of : ColsOf A (ends_of g Matrix m n) (columns_of g Matrix Numbers m n) (columns_of g Matrix Places m n)
  unfolding ends_of columns_of holds
  cols_of = record {
    ranges = record {
      csr = columns_csr mem m n;
      sizes = columns_length mem m n (place g) ∙ sym (columns_length mem m n (λ i e. i));
      range = columns_all mem m n (λ (k : ℕ). k < length vals) (place g) place_in;
    };
    rising = λ e h. subst (λ (xs : List ℕ). Between 0 m xs) (sym (rows_cut e h)) (picked_rise (λ i. mem i e) m);
    holding = λ e h i l. sym (ap (λ (xs : List ℕ). has xs i) (rows_cut e h) ∙ picked_has (λ i. mem i e) m i l);
    entries = λ e h k l.
        let b : k < length (picked (λ i. mem i e) m) = omega (arith, ap length (rows_cut e h)) in
        ap (λ (xs : List ℕ). at vals (get_or xs k 0)) (places_cut e h)
        ∙ ap (at vals) (named_at (λ i. mem i e) (λ i. place g i e) m k b)
        ∙ entry_is (get_or (picked (λ i. mem i e) m) k 0) e
        ∙ ap (λ (xs : List ℕ). entry A (get_or xs k 0) e) (sym (rows_cut e h));
  }
