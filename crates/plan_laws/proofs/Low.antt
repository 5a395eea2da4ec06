-- The lists lindptr and lindices are the factor's rows. Assumes nothing.
use mathlib.Core.Path.{◌≡◌, refl, sym, ap, ◌∙◌, subst}
use mathlib.Core.Bool.{Bool, true}
use mathlib.Core.List.{List, [], ◌∷◌, ◌++◌, append_assoc}
use Prim.Native.Nat.{ℕ, zero, suc, ◌+◌, ◌-◌, ◌<◌, ◌≤◌}
use native.Mathlib.Omega.{arith}
use native.Mathlib.Numerals.{add-one}
use lib.ListN.{length, get_or}
use lib.Ieee.{Float}
use Rattle.csr.specs.Pattern.{has}
use Rattle.base.specs.Cat.{cat, pick, pairs}
use Rattle.lists.specs.Lists.{Shape, shape, lplace, list_of, piece}
use Rattle.lists.specs.declared.Which.TheVariants.{Lindptr, Lindices}
use Rattle.lists.proofs.Counts.{lplace_from}
use Rattle.lists.proofs.Sizes.{size_list}
use Rattle.lanes.specs.Lists.{Between}
use Rattle.machine.specs.Machine.{in_factor}
use Rattle.machine.specs.Work.{problem_of}
use Rattle.plan_laws.proofs.Ranks.{ranked, lplace_start, lplace_next, lplace_row, lplace_along, lplace_down, by_entry_length, by_row_at}
use Rattle.plan_laws.proofs.Picks.{picks_all, held_factor, held_diag}
use Rattle.base.specs.Numbers.{cut, span}
use Rattle.plan_laws.specs.Meaning.{LowOf}
use Rattle.base.proofs.Numbers.{cut_part, cut_at}
use Rattle.base.proofs.Write.{cat_split}
use Rattle.plan_laws.proofs.Picked.{picked, named_length, picked_rise, picked_has}

module _ (off cols : List ℕ) (m : ℕ) where
  abbrev g : Shape
  g = shape off cols

  abbrev ptr : List ℕ
  ptr = list_of g Lindptr m

  abbrev ind : List ℕ
  ind = list_of g Lindices m

  pub ptr_at : (i : ℕ) → i ≤ m → get_or ptr i 0 ≡ lplace g i 0
  unfolding list_of piece
  ptr_at zero h = sym (lplace_start g m)
  ptr_at (suc i) h = by_row_at m (λ a. lplace g (suc a) 0) i h

  -- a row ends with its diagonal
  pub ptr_next : (i : ℕ) → i < m → get_or ptr (i + 1) 0 ≡ suc (lplace g i i)
  ptr_next i h = ptr_at (i + 1) (omega arith) ∙ ap (λ (k : ℕ). lplace g k 0) (add-one i) ∙ lplace_row g m i ∙ lplace_next g m i i (held_diag off cols i)

  pub ind_length : length ind ≡ lplace g m 0
  unfolding list_of piece
  ind_length = by_entry_length g m (λ a b. b)

  abbrev row_of : ℕ → List ℕ
  row_of i = picked (g.held i) (suc i)

  ind_is : ind ≡ cat m row_of
  unfolding list_of piece pairs
  ind_is = refl

  rows_length : (i : ℕ) → length (cat i row_of) ≡ lplace g i 0
  unfolding pairs
  rows_length i = by_entry_length g i (λ a b. b)

  row_is : (i : ℕ) → row_of i ≡ picked (g.held i) i ++ (i ∷ [])
  unfolding cat
  row_is i = ap (λ (t : Bool). picked (g.held i) i ++ pick t i) (held_diag off cols i)

  below_length : (i : ℕ) → lplace g i 0 + length (picked (g.held i) i) ≡ lplace g i i
  below_length i = omega (arith, named_length (g.held i) (λ k. k) i, lplace_from g i i)

  -- THE ROW of the factor, and what it has below its diagonal
  pub row_cut : (i : ℕ) → i < m → span ptr ind i ≡ row_of i
  row_cut i h =
      ap (cut (get_or ptr i 0) (get_or ptr (i + 1) 0)) (ind_is ∙ cat_split m i row_of h)
      ∙ cut_part (cat i row_of) (row_of i) (cat (m - suc i) (λ k. row_of (suc i + k))) (get_or ptr i 0) (get_or ptr (i + 1) 0) (ptr_at i (omega arith) ∙ sym (rows_length i))
      (omega (arith, ptr_next i h, rows_length i, named_length (g.held i) (λ k. k) (suc i), lplace_from g i (suc i), lplace_next g m i i (held_diag off cols i)))

  pub below_cut : (i : ℕ) → i < m → cut (get_or ptr i 0) (get_or ptr (i + 1) 0 - 1) ind ≡ picked (g.held i) i
  below_cut i h =
      let after = cat (m - suc i) (λ k. row_of (suc i + k)) in
      ap (cut (get_or ptr i 0) (get_or ptr (i + 1) 0 - 1))
      (ind_is
      ∙ cat_split m i row_of h
      ∙ ap (λ (r : List ℕ). cat i row_of ++ (r ++ after)) (row_is i)
      ∙ ap (λ (r : List ℕ). cat i row_of ++ r) (append_assoc (picked (g.held i) i) (i ∷ []) after))
      ∙ cut_part (cat i row_of) (picked (g.held i) i) ((i ∷ []) ++ after) (get_or ptr i 0) (get_or ptr (i + 1) 0 - 1) (ptr_at i (omega arith) ∙ sym (rows_length i))
      (omega (arith, ptr_next i h, rows_length i, below_length i))

  pub ind_at : (i j : ℕ) → i < m → j ≤ i → g.held i j ≡ true → get_or ind (lplace g i j) 0 ≡ j
  unfolding list_of piece
  ind_at i j h l t = ranked g m (λ a b. b) i j h l t

  ind_below : (i : ℕ) → i < m → (k : ℕ) → get_or ptr i 0 ≤ k → k < get_or ptr (i + 1) 0 - 1 → get_or ind k 0 < i
  ind_below i h k a b =
      let c = k - get_or ptr i 0 in
      let z : get_or ptr i 0 + c ≡ k = omega arith in
      let l : c < length (picked (g.held i) i) = omega (arith, ptr_at i (omega arith), ptr_next i h, below_length i) in
      let e : get_or (picked (g.held i) i) c 0 ≡ get_or ind k 0 =
      ap (λ (xs : List ℕ). get_or xs c 0) (sym (below_cut i h)) ∙ cut_at (get_or ptr i 0) (get_or ptr (i + 1) 0 - 1) ind c 0 (omega arith) ∙ ap (λ (x : ℕ). get_or ind x 0) z in
      subst (λ (x : ℕ). x < i) e (picks_all (λ (x : ℕ). x < i) (g.held i) i (λ x q t. q) c l)

  pub low_of : (n s : ℕ) (vals : List Float) → LowOf (problem_of m n s off cols vals) ptr ind
  unfolding in_factor
  low_of n s vals = record {
    ranges = record {
      rows = omega (arith, size_list off cols m Lindptr);
      rises = λ i h. omega (arith, ptr_at i (omega arith), ptr_next i h, lplace_along g i 0 i (omega arith));
      ends = λ i h. omega (arith, ptr_at (i + 1) (omega arith), lplace_down g (i + 1) m (omega arith), ind_length);
      below = ind_below;
    };
    rising = λ i h. subst (λ (xs : List ℕ). Between 0 i xs) (sym (below_cut i h)) (picked_rise (g.held i) i);
    holding = λ i h j l. held_factor off cols i j (omega arith) ∙ sym (ap (λ (xs : List ℕ). has xs j) (below_cut i h) ∙ picked_has (g.held i) i j l);
    last = λ i h.
        let e : get_or ptr (i + 1) 0 - 1 ≡ lplace g i i = omega (arith, ptr_next i h) in
        ap (λ (k : ℕ). get_or ind k 0) e ∙ ind_at i i h (omega arith) (held_diag off cols i);
  }
