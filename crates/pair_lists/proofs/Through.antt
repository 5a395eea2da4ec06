-- A loop over a row as a list is the loop over all columns. Assumes nothing.
use mathlib.Core.Path.{◌≡◌, refl, sym, ap, ap₂, ◌∙◌, subst}
use mathlib.Core.Logic.{inl, inr}
use mathlib.Core.Bool.{Bool, true, false, ◌&&◌, ◌||◌}
use mathlib.Core.List.{List, [], ◌∷◌, ◌++◌, append_assoc, append-nil, map}
use Prim.Native.Nat.{ℕ, zero, suc, ◌+◌, ◌-◌, ◌<◌, ◌≤◌}
use native.Mathlib.Omega.{arith}
use native.Mathlib.Decide.{dec_lt}
use lib.Dec.{eqb}
use borrow.Author.Tests.{ne_eqb}
use lib.ListN.{length, get_or, take, drop, length-append, length-take, get_or-append}
use lib.Seq.{take-append-le, take_at, get_or-append_seam, get_or-take, get_or-drop}
use Rattle.csr.specs.Pattern.{has, row, shares, stored, neighbours}
use Rattle.csr.proofs.Rule.{stored_rule, stored_diag}
use Rattle.base.specs.Sums.{sum, one}
use Rattle.base.specs.Cat.{cat, pick}
use Rattle.lists.specs.Lists.{shape, both, shared, products, weight, piece, before, place, lplace, walk_of}
use Rattle.lists.specs.declared.Which.{Which}
use Rattle.lists.specs.declared.Which.TheVariants.{AnormIndptr, AnormIndptrI, AnormIndptrJ, AnormIndices, LdecompIndptr, LdecompIndptrI, LdecompIndptrJ, Lindptr, LdiagIndptr, Lindices}
use Rattle.lists.proofs.Merge.{length_both}
use Rattle.lists.proofs.Counts.{held_stored}
use Rattle.pair_lists.specs.Kept.{kept, Rows, places_of}
use Rattle.pair_lists.specs.Listing.{InRow}
use Rattle.base.specs.Numbers.{Below}
use Rattle.shared_columns.proofs.Marks.{along_join}
use Rattle.pair_lists.proofs.Lists.{kept_long, kept_in, rows_up, rows_fit}
use Rattle.base.proofs.Sums.{sum_zero}

-- ---- over a list
unfoldable pub over : List ℕ → (ℕ → List ℕ) → List ℕ
over [] f = []
over (x ∷ xs) f = f x ++ over xs f

unfoldable pub total : List ℕ → (ℕ → ℕ) → ℕ
total [] f = 0
total (x ∷ xs) f = f x + total xs f

over_join : (xs ys : List ℕ) (f : ℕ → List ℕ) → over (xs ++ ys) f ≡ over xs f ++ over ys f
unfolding over
over_join [] ys f = refl
over_join (x ∷ xs) ys f = ap (λ (l : List ℕ). f x ++ l) (over_join xs ys f) ∙ sym (append_assoc (f x) (over xs f) (over ys f))

total_join : (xs ys : List ℕ) (f : ℕ → ℕ) → total (xs ++ ys) f ≡ total xs f + total ys f
unfolding total
total_join [] ys f = omega arith
total_join (x ∷ xs) ys f = omega (arith, total_join xs ys f)

pub over_snoc : (xs : List ℕ) (y : ℕ) (f : ℕ → List ℕ) → over (xs ++ (y ∷ [])) f ≡ over xs f ++ f y
unfolding over
over_snoc xs y f = over_join xs (y ∷ []) f ∙ ap (λ (l : List ℕ). over xs f ++ l) (append-nil (f y))

pub total_snoc : (xs : List ℕ) (y : ℕ) (f : ℕ → ℕ) → total (xs ++ (y ∷ [])) f ≡ total xs f + f y
unfolding total
total_snoc xs y f = omega (arith, total_join xs (y ∷ []) f)

module _ (h : ℕ → Bool) where
  -- THROUGH: what is not kept adds nothing
  pub over_kept : (n : ℕ) (f : ℕ → List ℕ) → ((k : ℕ) → k < n → h k ≡ false → f k ≡ []) → over (kept h n) f ≡ cat n f
  unfolding kept cat over
  over_kept zero f e = refl
  over_kept (suc n) f e = over_join (kept h n) (pick (h n) n) f ∙ ap₂ ◌++◌ (over_kept n f (λ k l. e k (omega arith))) (go (h n) (e n (omega arith)))
    where
      go : (t : Bool) → (t ≡ false → f n ≡ []) → over (pick t n) f ≡ f n
      go true z = append-nil (f n)
      go false z = sym (z refl)

  pub total_kept : (n : ℕ) (f : ℕ → ℕ) → ((k : ℕ) → k < n → h k ≡ false → f k ≡ 0) → total (kept h n) f ≡ sum n f
  unfolding kept cat total sum
  total_kept zero f e = refl
  total_kept (suc n) f e = total_join (kept h n) (pick (h n) n) f ∙ ap₂ ◌+◌ (total_kept n f (λ k l. e k (omega arith))) (go (h n) (e n (omega arith)))
    where
      go : (t : Bool) → (t ≡ false → f n ≡ 0) → total (pick t n) f ≡ f n
      go true z = omega arith
      go false z = sym (z refl)

  -- the entries before one are those below it
  pub record Here (n q : ℕ) : Type 0 where
    pub below : get_or (kept h n) q 0 < n
    pub holds : h (get_or (kept h n) q 0) ≡ true
    pub part : take q (kept h n) ≡ kept h (get_or (kept h n) q 0)

  pub here : (n q : ℕ) → q < length (kept h n) → Here n q
  unfolding kept cat
  here zero q l = absurd (omega arith)
  here (suc n) q l = go (h n) refl (dec_lt q (length (kept h n))) (here n q) l
    where
      go : (t : Bool) → h n ≡ t → Dec (q < length (kept h n)) → (q < length (kept h n) → Here n q) → q < length (kept h n ++ pick t n) → Here (suc n) q
      go t e (yes b) ih m =
          let r = ih b in
          let z : get_or (kept h n ++ pick (h n) n) q 0 ≡ get_or (kept h n) q 0 = get_or-append (kept h n) (pick (h n) n) 0 q b in
          record {
            below = subst (λ (x : ℕ). x < suc n) (sym z) (omega (arith, r.below));
            holds = ap h z ∙ r.holds;
            part = take-append-le q (kept h n) (pick (h n) n) (omega arith) ∙ r.part ∙ ap (kept h) (sym z);
          }
      go true e (no b) ih m =
          let q' : q ≡ length (kept h n) = omega (arith, length-append (kept h n) (n ∷ [])) in
          let z : get_or (kept h n ++ pick (h n) n) q 0 ≡ n = ap₂ (λ (t : Bool) (x : ℕ). get_or (kept h n ++ pick t n) x 0) e q' ∙ get_or-append_seam (kept h n) n [] 0 in
          record {
            below = subst (λ (x : ℕ). x < suc n) (sym z) (omega arith);
            holds = ap h z ∙ e;
            part = take_at (kept h n) (pick (h n) n) q (sym q') ∙ ap (kept h) (sym z);
          }
      go false e (no b) ih m = absurd (omega (arith, length-append (kept h n) []))

-- ---- a part of the lists
module _ (h : ℕ → ℕ → Bool) (lindptr lindices : List ℕ) (m : ℕ) (v : Rows h lindptr lindices m) (i t : ℕ) (hi : i < m) (lo : get_or lindptr i 0 ≤ t) (hi2 : t < get_or lindptr (i + 1) 0) where
  pub q_in : t - get_or lindptr i 0 < length (kept (h i) (i + 1))
  q_in = omega (arith, rows_up h lindptr lindices m v i hi)

  pub t_in : t < length lindices
  t_in = omega (arith, rows_fit h lindptr lindices m v (i + 1) (omega arith))

  pub entry_is : get_or (kept (h i) (i + 1)) (t - get_or lindptr i 0) 0 ≡ get_or lindices t 0
  unfolding row
  entry_is =
      let z : get_or lindptr i 0 + (t - get_or lindptr i 0) ≡ t = omega arith in
      ap (λ (l : List ℕ). get_or l (t - get_or lindptr i 0) 0) (sym (v.rows i hi))
      ∙ get_or-take (get_or lindptr (i + 1) 0 - get_or lindptr i 0) (drop (get_or lindptr i 0) lindices) (t - get_or lindptr i 0) 0 (omega arith) ∙ get_or-drop (get_or lindptr i 0) lindices (t - get_or lindptr i 0) 0
      ∙ ap (λ (x : ℕ). get_or lindices x 0) z

  at_here : Here (h i) (i + 1) (t - get_or lindptr i 0)
  at_here = here (h i) (i + 1) (t - get_or lindptr i 0) q_in

  pub entry_below : get_or lindices t 0 ≤ i
  entry_below = omega (arith, at_here.below, entry_is)

  pub entry_holds : h i (get_or lindices t 0) ≡ true
  entry_holds = ap (h i) (sym entry_is) ∙ at_here.holds

  pub part_kept : take (t - get_or lindptr i 0) (kept (h i) (i + 1)) ≡ kept (h i) (get_or lindices t 0)
  part_kept = at_here.part ∙ ap (kept (h i)) entry_is

  take-take : (a b : ℕ) (l : List ℕ) → a ≤ b → take a (take b l) ≡ take a l
  take-take zero b l q = refl
  take-take (suc a) zero l q = absurd (omega arith)
  take-take (suc a) (suc b) [] q = refl
  take-take (suc a) (suc b) (x ∷ l) q = ap (λ (y : List ℕ). x ∷ y) (take-take a b l (omega arith))

  pub slice_kept : take (t - get_or lindptr i 0) (drop (get_or lindptr i 0) lindices) ≡ kept (h i) (get_or lindices t 0)
  unfolding row
  slice_kept =
      sym (take-take (t - get_or lindptr i 0) (get_or lindptr (i + 1) 0 - get_or lindptr i 0) (drop (get_or lindptr i 0) lindices) (omega arith))
      ∙ ap (take (t - get_or lindptr i 0)) (v.rows i hi) ∙ part_kept

-- the places of what two rows hold
pub places_walk : (g : ℕ → ℕ → Bool) (r q bound base : ℕ) → places_of (g q) base (kept (g r) bound) ≡ walk_of g r q bound base
unfolding kept cat walk_of
places_walk g r q zero base = refl
places_walk g r q (suc bound) base =
    along_join (λ x k. pick (g q k) x) (kept (g r) bound) (pick (g r bound) bound) base
    ∙ ap₂ ◌++◌ (places_walk g r q bound base) (go (g r bound) ∙ ap (λ (k : ℕ). pick (g r bound && g q bound) (base + k)) (kept_long (g r) bound))
  where
    go : (t : Bool) → places_of (g q) (base + length (kept (g r) bound)) (pick t bound) ≡ pick (t && g q bound) (base + length (kept (g r) bound))
    go true = append-nil (pick (g q bound) (base + length (kept (g r) bound)))
    go false = refl

-- ---- what is not stored adds nothing to a list
shares_none : (xs ys : List ℕ) → shares xs ys ≡ false → both xs ys ≡ []
unfolding shares both
shares_none [] ys e = refl
shares_none (x ∷ xs) ys e = go (has ys x) (shares_none xs ys) e
  where
    go : (t : Bool) → (shares xs ys ≡ false → both xs ys ≡ []) → t || shares xs ys ≡ false → pick t x ++ both xs ys ≡ []
    go true ih q = absurd (let y : ◌≡◌ {A = ℕ} 0 1 = cc in omega arith)
    go false ih q = ih q

cat_none : (n : ℕ) (f : ℕ → List ℕ) → ((k : ℕ) → k < n → f k ≡ []) → cat n f ≡ []
unfolding cat
cat_none zero f e = refl
cat_none (suc n) f e = ap₂ ◌++◌ (cat_none n f (λ k l. e k (omega arith))) (e n (omega arith))

module _ (off cols : List ℕ) (i j : ℕ) (hj : j ≤ i) (no : (shape off cols).held i j ≡ false) where
  clash : {A : Type 0} → stored (neighbours off cols) i j ≡ true → A
  clash s = absurd (let z : ◌≡◌ {A = Bool} false true = sym no ∙ held_stored off cols i j hj ∙ s in let y : ◌≡◌ {A = ℕ} 0 1 = cc in omega arith)

  strangers : neighbours off cols i j ≡ false
  strangers = go (neighbours off cols i j) refl
    where
      go : (t : Bool) → neighbours off cols i j ≡ t → t ≡ false
      go true e = clash ((stored_rule (neighbours off cols) i j hj).1 (inr (inl e)))
      go false e = refl

  nothing_shared : shared (shape off cols) i j ≡ []
  unfolding shared neighbours
  nothing_shared = shares_none (row off cols i) (row off cols j) strangers

  no_meet : (k : ℕ) → k < j → (shape off cols).held i k && (shape off cols).held j k ≡ false
  no_meet k l = go ((shape off cols).held i k) ((shape off cols).held j k) refl refl
    where
      go : (s t : Bool) → (shape off cols).held i k ≡ s → (shape off cols).held j k ≡ t → s && t ≡ false
      go true true e f =
          clash ((stored_rule (neighbours off cols) i j hj).1 (inr (inr (k, l, sym (held_stored off cols i k (omega arith)) ∙ e, sym (held_stored off cols j k (omega arith)) ∙ f))))
      go true false e f = refl
      go false t e f = refl

  no_products : products (shape off cols) i j ≡ []
  unfolding products
  no_products = cat_none j (λ k. pick ((shape off cols).held i k && (shape off cols).held j k) k) (λ k l. ap (λ (t : Bool). pick t k) (no_meet k l))

  off_diag : eqb j i ≡ false
  off_diag = ne_eqb j i (λ e. clash (stored_diag (neighbours off cols) i j (sym e)))

  pub silent : (w : Which) → piece (shape off cols) w i j ≡ []
  unfolding piece
  silent AnormIndptr = ap (λ (t : Bool). pick t (before (weight (shape off cols) AnormIndptr) i (suc j))) no
  silent AnormIndptrI = ap (map (place (shape off cols) i)) nothing_shared
  silent AnormIndptrJ = ap (map (place (shape off cols) j)) nothing_shared
  silent AnormIndices = nothing_shared
  silent LdecompIndptr = ap (λ (t : Bool). pick t (before (weight (shape off cols) LdecompIndptr) i (suc j))) no
  silent LdecompIndptrI = ap (map (lplace (shape off cols) i)) no_products
  silent LdecompIndptrJ = ap (map (lplace (shape off cols) j)) no_products
  silent Lindptr = ap (λ (t : Bool). pick t (lplace (shape off cols) (suc i) 0)) off_diag
  silent LdiagIndptr = ap (λ (t : Bool). pick t (lplace (shape off cols) i i)) off_diag
  silent Lindices = ap (λ (t : Bool). pick t j) no

  pub weightless : (w : Which) → weight (shape off cols) w i j ≡ 0
  unfolding weight shared
  weightless AnormIndptr = sym (length_both (row off cols i) (row off cols j)) ∙ ap length nothing_shared
  weightless LdecompIndptr = sum_zero j (λ k. one ((shape off cols).held i k && (shape off cols).held j k)) (λ k l. ap one (no_meet k l))
  weightless AnormIndptrI = refl
  weightless AnormIndptrJ = refl
  weightless AnormIndices = refl
  weightless LdecompIndptrI = refl
  weightless LdecompIndptrJ = refl
  weightless Lindptr = refl
  weightless LdiagIndptr = refl
  weightless Lindices = refl

-- ---- the part of row r before its entry at t
module _ {h : ℕ → ℕ → Bool} {lindptr lindices : List ℕ} {r t : ℕ} (w : InRow h lindptr lindices r t) where
  abbrev front : List ℕ
  front = take (t - get_or lindptr r 0) (drop (get_or lindptr r 0) lindices)

  front_is : front ≡ kept (h r) (get_or lindices t 0)
  front_is = slice_kept h lindptr lindices w.m w.rows r t w.inside w.first w.last

  pub front_in : t < length lindices
  front_in = t_in h lindptr lindices w.m w.rows r t w.inside w.first w.last

  pub front_below : Below 256 front
  front_below = rw front_is (kept_in (h r) (get_or lindices t 0) 256 (omega (arith, entry_below h lindptr lindices w.m w.rows r t w.inside w.first w.last, w.rows.few)))

  pub front_short : get_or lindptr r 0 + length front ≤ 65536
  front_short = omega (arith, length-take (t - get_or lindptr r 0) (drop (get_or lindptr r 0) lindices), front_in, w.first, w.rows.short)

  pub front_walk : (q : ℕ) → places_of (h q) (get_or lindptr r 0) front ≡ walk_of h r q (get_or lindices t 0) (get_or lindptr r 0)
  front_walk q = ap (places_of (h q) (get_or lindptr r 0)) front_is ∙ places_walk h r q (get_or lindices t 0) (get_or lindptr r 0)
