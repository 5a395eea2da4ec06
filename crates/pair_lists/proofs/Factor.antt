-- The columns of the rows as lists are the factor's. Assumes nothing.
use mathlib.Core.Path.{◌≡◌, refl, sym, ap, ap₂, ◌∙◌}
use mathlib.Core.Bool.{Bool, true, false, ◌&&◌}
use mathlib.Core.List.{List, [], ◌∷◌, ◌++◌}
use Prim.Native.Nat.{ℕ, zero, suc, ◌+◌, ◌<◌, ◌≤◌}
use native.Mathlib.Omega.{arith}
use native.Mathlib.Decide.{dec_lt}
use native.Mathlib.Numerals.{add-one}
use borrow.Author.Tests.{lt-leb}
use lib.ListN.{length, get_or, length-append}
use Rattle.csr.specs.Pattern.{has, row}
use Rattle.base.specs.Sums.{sum, one}
use Rattle.csr.specs.Counts.{is_stored}
use Rattle.pattern.specs.Word.{bit}
use Rattle.base.proofs.Sums.{sum_ext}
use Rattle.base.specs.Cat.{cat, pick}
use Rattle.lists.specs.Lists.{shape, place, lplace, before, holds, entry, in_column, column, columns, column_ends, ends_of, columns_of, side_of}
use Rattle.base.specs.Numbers.{find}
use Rattle.pattern.specs.Ready.{Ready}
use Rattle.lists.specs.declared.What.{What}
use Rattle.lists.specs.declared.What.TheVariants.{Numbers, Places}
use Rattle.lists.specs.declared.Side.TheVariants.{Factor, Matrix}
use Rattle.base.proofs.Write.{cat_ext}
use Rattle.pair_lists.proofs.Bits.{bit_held}
use Rattle.lists.proofs.Counts.{before_row, lplace_from}
use Rattle.lists.proofs.Whole.{side_is}
use Rattle.transpose.specs.Bins.{side_in}
use Rattle.pair_lists.specs.Kept.{kept, kept_rows, Rows}
use Rattle.pair_lists.proofs.Lists.{kept_has, kept_none, kept_find, kept_long}

module _ (off cols : List ℕ) (m : ℕ) (p : List ℕ) (ready : Ready off cols m p) where
  -- the places of the rows' first entries
  pub start_is : (i : ℕ) → i ≤ m → length (kept_rows (bit p) i) ≡ lplace (shape off cols) i 0
  unfolding kept_rows cat lplace before
  start_is zero l = refl
  start_is (suc i) l =
      length-append (kept_rows (bit p) i) (kept (bit p i) (i + 1))
      ∙ ap₂ ◌+◌ (start_is i (omega arith))
      (kept_long (bit p i) (i + 1)
      ∙ sum_ext (i + 1) (λ k. one (bit p i k)) (λ k. one ((shape off cols).held i k)) (λ k q. ap one (bit_held off cols m p ready i k (omega arith) (omega (arith, ready.csr.few)))))
      ∙ sym (ap (λ (k : ℕ). lplace (shape off cols) k 0) (sym (add-one i)) ∙ before_row (λ a b. one ((shape off cols).held a b)) i ∙ lplace_from (shape off cols) i (i + 1))

  module _ (lindptr lindices : List ℕ) (v : Rows (bit p) lindptr lindices m) where
    -- a row as a list has just what is stored
    pub has_held : (i e : ℕ) → i < m → e < 256 → has (row lindptr lindices i) e ≡ (shape off cols).held i e
    has_held i e l b = ap (λ (x : List ℕ). has x e) (v.rows i l) ∙ go (dec_lt e (i + 1))
      where
        go : Dec (e < i + 1) → has (kept (bit p i) (i + 1)) e ≡ (shape off cols).held i e
        go (yes q) = kept_has (bit p i) (i + 1) e q ∙ bit_held off cols m p ready i e l b
        go (no q) = kept_none (bit p i) (i + 1) e (omega arith) ∙ sym (ap (λ (t : Bool). t && is_stored off cols i e) (lt-leb e i (omega arith)))

    -- and in its place
    pub place_held : (i e : ℕ) → i < m → e < 256 → (shape off cols).held i e ≡ true → place (shape lindptr lindices) i e ≡ lplace (shape off cols) i e
    unfolding place
    place_held i e l b q = go (dec_lt e (i + 1))
      where
        go : Dec (e < i + 1) → get_or lindptr i 0 + find e (row lindptr lindices i) ≡ lplace (shape off cols) i e
        go (yes r) =
            ap₂ ◌+◌ (v.starts i (omega arith) ∙ start_is i (omega arith))
            (ap (find e) (v.rows i l) ∙ kept_find (bit p i) (i + 1) e r (bit_held off cols m p ready i e l b ∙ q)
            ∙ sum_ext e (λ k. one (bit p i k)) (λ k. one ((shape off cols).held i k)) (λ k z. ap one (bit_held off cols m p ready i k l (omega arith))))
            ∙ sym (lplace_from (shape off cols) i e)
        go (no r) = absurd (let z : ◌≡◌ {A = Bool} false true = ap (λ (t : Bool). t && is_stored off cols i e) (sym (lt-leb e i (omega arith))) ∙ q in let y : ◌≡◌ {A = ℕ} 0 1 = cc in omega arith)

    in_same : (e : ℕ) → e < 256 → in_column (holds (shape lindptr lindices) Matrix) m e ≡ in_column (holds (shape off cols) Factor) m e
    unfolding in_column
    in_same e b = sum_ext m (λ i. one (has (row lindptr lindices i) e)) (λ i. one ((shape off cols).held i e)) (λ i l. ap one (has_held i e l b))

    pub ends_same : ends_of (shape lindptr lindices) Matrix m m ≡ ends_of (shape off cols) Factor m m
    unfolding ends_of column_ends
    ends_same =
        ap (λ (l : List ℕ). 0 ∷ l)
        (cat_ext m (λ e. sum (suc e) (λ c. in_column (holds (shape lindptr lindices) Matrix) m c) ∷ []) (λ e. sum (suc e) (λ c. in_column (holds (shape off cols) Factor) m c) ∷ [])
        (λ e h. ap (λ (k : ℕ). k ∷ []) (sum_ext (suc e) (λ c. in_column (holds (shape lindptr lindices) Matrix) m c) (λ c. in_column (holds (shape off cols) Factor) m c) (λ c l. in_same c (omega (arith, ready.csr.few))))))

    pick_same : (s t : Bool) (x y : ℕ) → s ≡ t → (t ≡ true → x ≡ y) → pick s x ≡ pick t y
    pick_same s true x y e f = ap₂ pick e (f refl)
    pick_same s false x y e f = ap (λ (b : Bool). pick b x) e

    entry_same : (w : What) (i e : ℕ) → i < m → e < 256 → (shape off cols).held i e ≡ true → entry (shape lindptr lindices) Matrix w i e ≡ entry (shape off cols) Factor w i e
    entry_same Numbers i e l b q = refl
    entry_same Places i e l b q = place_held i e l b q

    pub columns_same : (w : What) → columns_of (shape lindptr lindices) Matrix w m m ≡ columns_of (shape off cols) Factor w m m
    unfolding columns_of columns column
    columns_same w =
        cat_ext m (λ e. cat m (λ i. pick (has (row lindptr lindices i) e) (entry (shape lindptr lindices) Matrix w i e))) (λ e. cat m (λ i. pick ((shape off cols).held i e) (entry (shape off cols) Factor w i e)))
        (λ e h.
        cat_ext m (λ i. pick (has (row lindptr lindices i) e) (entry (shape lindptr lindices) Matrix w i e)) (λ i. pick ((shape off cols).held i e) (entry (shape off cols) Factor w i e))
        (λ i l. pick_same (has (row lindptr lindices i) e) ((shape off cols).held i e) _ _ (has_held i e l (omega (arith, ready.csr.few))) (entry_same w i e l (omega (arith, ready.csr.few)))))

    -- THE TRANSPOSE OF THE LISTS IS THE FACTOR'S
    pub side_same : side_in lindptr lindices m m ≡ side_of (shape off cols) Factor m m
    side_same =
        side_is (shape lindptr lindices) Matrix m m
        ∙ ap₂ ◌++◌ (ap₂ ◌++◌ ends_same (columns_same Numbers)) (columns_same Places)
        ∙ sym (side_is (shape off cols) Factor m m)
