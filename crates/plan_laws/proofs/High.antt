-- The lists ltindptr, ltindices and ltmap are the factor's columns. Assumes nothing.
use mathlib.Core.Path.{◌≡◌, refl, sym, ap, ◌∙◌, subst}
use mathlib.Core.Bool.{Bool, true, ◌&&◌, false≢true}
use mathlib.Core.List.{List, [], ◌∷◌, ◌++◌, append_assoc}
use Prim.Native.Nat.{ℕ, suc, ◌+◌, ◌-◌, ◌<◌, ◌≤◌}
use native.Mathlib.Omega.{arith}
use native.Mathlib.Decide.{dec_lt}
use borrow.Author.Tests.{le-ltb, lt-leb, ltb-true}
use lib.Dec.{ltb, leb}
use lib.ListN.{length, get_or, length-append}
use lib.Ieee.{Float}
use Rattle.csr.specs.Pattern.{has}
use Rattle.csr.specs.Factor.{factor_has}
use Rattle.csr.specs.Counts.{is_stored}
use Rattle.base.specs.Cat.{cat}
use Rattle.lists.specs.Lists.{Shape, shape, lplace, list_of, piece, in_column, column, column_ends, columns, ends_of, columns_of}
use Rattle.lists.specs.declared.Which.TheVariants.{Lindptr, Lindices}
use Rattle.lists.specs.declared.Side.TheVariants.{Factor}
use Rattle.lists.specs.declared.What.TheVariants.{Numbers, Places}
use Rattle.lanes.specs.Lists.{Between}
use Rattle.machine.specs.Machine.{in_factor}
use Rattle.machine.specs.Work.{problem_of}
use Rattle.plan_laws.proofs.Ranks.{ranked_in, lplace_along, lplace_lt_row}
use Rattle.plan_laws.proofs.Picks.{picks_all, held_factor, held_diag}
use Rattle.base.specs.Numbers.{cut}
use Rattle.sparse.specs.Sparse.{High}
use Rattle.plan_laws.specs.Meaning.{HighOf}
use Rattle.plan_laws.proofs.Picked.{picked, named, named_at, picked_rise, picked_has, first_named}
use Rattle.base.proofs.Numbers.{cut_part}
use Rattle.base.proofs.Write.{cat_split}
use Rattle.plan_laws.proofs.Cols.{ends_at, ends_next, before_length, column_length, columns_length, columns_all, columns_csr}
use Rattle.plan_laws.proofs.Low.{ptr_at, ptr_next, ind_at}
use Rattle.base.proofs.Bools.{and_left, and_right}

module _ (off cols : List ℕ) (m : ℕ) where
  abbrev g : Shape
  g = shape off cols

  held_low : (i j : ℕ) → g.held i j ≡ true → j ≤ i
  held_low i j t = go (dec_lt i j)
    where
      go : Dec (i < j) → j ≤ i
      go (yes b) = absurd (false≢true (sym (lt-leb j i b) ∙ and_left (leb j i) (is_stored off cols i j) t))
      go (no b) = omega arith

  -- what column i has behind its diagonal
  abbrev higher : ℕ → ℕ → Bool
  higher i j = ltb i j && g.held j i

  column_is : (v : ℕ → ℕ → ℕ) (i : ℕ) → i < m → column g.held m v i ≡ v i i ∷ named (higher i) (λ j. v j i) m
  unfolding column
  column_is v i h = first_named (λ j. g.held j i) (λ j. v j i) i m h (held_diag off cols i) (λ k b. ap (λ (t : Bool). t && is_stored off cols k i) (lt-leb i k b))

  abbrev tptr : List ℕ
  tptr = column_ends g.held m m

  behind_cut : (v : ℕ → ℕ → ℕ) (i : ℕ) → i < m → cut (get_or tptr i 0 + 1) (get_or tptr (i + 1) 0) (columns g.held m v m) ≡ named (higher i) (λ j. v j i) m
  unfolding columns
  behind_cut v i h =
      let C = column g.held m v in
      let front = cat i C ++ (v i i ∷ []) in
      let ys = named (higher i) (λ j. v j i) m in
      let after = cat (m - suc i) (λ k. C (suc i + k)) in
      let whole : cat m C ≡ front ++ (ys ++ after) =
      cat_split m i C h ∙ ap (λ (r : List ℕ). cat i C ++ (r ++ after)) (column_is v i h) ∙ sym (append_assoc (cat i C) (v i i ∷ []) (ys ++ after)) in
      ap (cut (get_or tptr i 0 + 1) (get_or tptr (i + 1) 0)) whole
      ∙ cut_part front ys after (get_or tptr i 0 + 1) (get_or tptr (i + 1) 0)
      (omega (arith, ends_at g.held m m i (omega arith), before_length g.held m m v i, length-append (cat i C) (v i i ∷ [])))
      (omega (arith, ends_next g.held m m i h, before_length g.held m m v i, column_length g.held m m v i, ap length (column_is v i h), length-append (cat i C) (v i i ∷ [])))

  -- THE COLUMN of the factor, behind its diagonal: its rows, and their places among the stored
  abbrev pub tends : List ℕ
  tends = ends_of g Factor m m

  abbrev pub trows : List ℕ
  trows = columns_of g Factor Numbers m m

  abbrev pub tplaces : List ℕ
  tplaces = columns_of g Factor Places m m

  pub higher_cut : (i : ℕ) → i < m → cut (get_or tends i 0 + 1) (get_or tends (i + 1) 0) trows ≡ picked (higher i) m
  unfolding ends_of columns_of
  higher_cut i h = behind_cut (λ j e. j) i h

  pub places_cut : (i : ℕ) → i < m → cut (get_or tends i 0 + 1) (get_or tends (i + 1) 0) tplaces ≡ named (higher i) (λ j. lplace g j i) m
  unfolding ends_of columns_of
  places_cut i h = behind_cut (lplace g) i h

  -- one of them
  pub record Above (i j : ℕ) : Type 0 where
    pub row : j < m
    pub over : i < j
    pub held : g.held j i ≡ true

  above_all : (i k : ℕ) → k < length (picked (higher i) m) → Above i (get_or (picked (higher i) m) k 0)
  above_all i k l =
      picks_all (Above i) (higher i) m (λ j b t. record { row = b; over = ltb-true i j (and_left (ltb i j) (g.held j i) t); held = and_right (ltb i j) (g.held j i) t }) k l

  higher_factor : (i j : ℕ) → ltb i j && factor_has off cols j i ≡ higher i j
  higher_factor i j = go (dec_lt i j)
    where
      go : Dec (i < j) → ltb i j && factor_has off cols j i ≡ ltb i j && g.held j i
      go (yes b) = ap (λ (t : Bool). ltb i j && t) (held_factor off cols j i (omega arith))
      go (no b) = rw (le-ltb i j (omega arith)) refl

  place_in : (i e : ℕ) → i < m → e < m → g.held i e ≡ true → lplace g i e < length (list_of g Lindices m)
  unfolding list_of piece
  place_in i e h l t = ranked_in g m (λ a b. b) i e h (held_low i e t) t

  column_some : (i : ℕ) → i < m → 1 ≤ in_column g.held m i
  column_some i h = omega (arith, column_length g.held m m (λ j e. j) i, ap length (column_is (λ j e. j) i h))

  high_ranges : High m (length (list_of g Lindices m)) tends trows tplaces
  unfolding ends_of columns_of
  high_ranges =
      let c = columns_csr g.held m m in
      record {
        rows = c.rows;
        rises = λ i h. omega (arith, ends_at g.held m m i (omega arith), ends_next g.held m m i h, column_some i h);
        ends = c.ends;
        sizes = columns_length g.held m m (lplace g) ∙ sym (columns_length g.held m m (λ j e. j));
        below = c.below;
        places = columns_all g.held m m (λ (k : ℕ). k < length (list_of g Lindices m)) (lplace g) place_in;
      }

  place_of : (i j : ℕ) → Above i j
      → (get_or (list_of g Lindptr m) j 0 ≤ lplace g j i) × (lplace g j i < get_or (list_of g Lindptr m) (j + 1) 0) × (get_or (list_of g Lindices m) (lplace g j i) 0 ≡ i)
  place_of i j a =
      let h : j < m = a.row in
      let l : i < j = a.over in (
        omega (arith, ptr_at off cols m j (omega arith), lplace_along g j 0 i (omega arith)),
        omega (arith, ptr_next off cols m j h, lplace_lt_row g j i j l a.held),
        ind_at off cols m j i h (omega arith) a.held,
      )

  pub high_of : (n s : ℕ) (vals : List Float) → HighOf (problem_of m n s off cols vals) (list_of g Lindptr m) (list_of g Lindices m) tends trows tplaces
  unfolding in_factor
  high_of n s vals = record {
    ranges = high_ranges;
    rising = λ i h. subst (λ (xs : List ℕ). Between 0 m xs) (sym (higher_cut i h)) (picked_rise (higher i) m);
    holding = λ i h j l. higher_factor i j ∙ sym (ap (λ (xs : List ℕ). has xs j) (higher_cut i h) ∙ picked_has (higher i) m j l);
    above = λ i h k l. (one i h k l).row;
    places = λ i h k l.
        let b : k < length (picked (higher i) m) = omega (arith, ap length (higher_cut i h)) in
        let e : get_or (cut (get_or tends i 0 + 1) (get_or tends (i + 1) 0) tplaces) k 0 ≡ lplace g (get_or (cut (get_or tends i 0 + 1) (get_or tends (i + 1) 0) trows) k 0) i =
        ap (λ (xs : List ℕ). get_or xs k 0) (places_cut i h)
        ∙ named_at (higher i) (λ j. lplace g j i) m k b
        ∙ ap (λ (xs : List ℕ). lplace g (get_or xs k 0) i) (sym (higher_cut i h)) in
        let j = get_or (cut (get_or tends i 0 + 1) (get_or tends (i + 1) 0) trows) k 0 in
        subst
        (λ (p : ℕ). (get_or (list_of g Lindptr m) j 0 ≤ p) × (p < get_or (list_of g Lindptr m) (j + 1) 0) × (get_or (list_of g Lindices m) p 0 ≡ i))
        (sym e) (place_of i j (one i h k l));
  }
    where
      one : (i : ℕ) → i < m → (k : ℕ) → k < length (cut (get_or tends i 0 + 1) (get_or tends (i + 1) 0) trows) → Above i (get_or (cut (get_or tends i 0 + 1) (get_or tends (i + 1) 0) trows) k 0)
      one i h k l = subst (λ (xs : List ℕ). Above i (get_or xs k 0)) (sym (higher_cut i h)) (above_all i k (omega (arith, ap length (higher_cut i h))))
