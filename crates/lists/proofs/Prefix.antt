-- T-07: with rows appended, each of the ten lists of pairs is the first part of the new one. Assumes nothing.
use mathlib.Core.Path.{◌≡◌, refl, sym, ap, ap₂, ◌∙◌}
use mathlib.Core.Bool.{Bool, ◌&&◌, ◌||◌}
use mathlib.Core.List.{List, [], ◌∷◌, ◌++◌, map, append_assoc}
use Prim.Native.Nat.{ℕ, zero, suc, ◌+◌, ◌-◌, ◌<◌, ◌≤◌}
use native.Mathlib.Omega.{arith}
use lib.Dec.{eqb, leb}
use lib.ListN.{get_or, take, drop, length-drop, get_or-append}
use lib.Seq.{take-append-le, drop-append-le}
use Rattle.csr.specs.Pattern.{row, stored, neighbours, fill, shares}
use Rattle.csr.specs.Csr.{Csr}
use Rattle.base.specs.Sums.{sum, one}
use Rattle.csr.specs.Counts.{common, is_stored}
use Rattle.base.proofs.Sums.{sum_ext}
use Rattle.base.specs.Cat.{cat, pick, pairs}
use Rattle.lists.specs.Lists.{Shape, shape, weight, lplace, place, before, piece, list_of, begins, shared, products, both}
use Rattle.base.specs.Numbers.{find}
use Rattle.lists.specs.declared.Which.{Which}
use Rattle.lists.specs.declared.Which.TheVariants.{AnormIndptr, AnormIndptrI, AnormIndptrJ, AnormIndices, LdecompIndptr, LdecompIndptrI, LdecompIndptrJ, Lindptr, LdiagIndptr, Lindices}
use Rattle.base.proofs.Write.{cat_ext, cat_add}
use Rattle.base.proofs.Maps.{map_cat, map_pick}

before_ext : (v w : ℕ → ℕ → ℕ) (i j : ℕ) → ((a b : ℕ) → a ≤ i → b ≤ a → v a b ≡ w a b) → j ≤ suc i → before v i j ≡ before w i j
unfolding before
before_ext v w i j h l =
    ap₂ ◌+◌
    (sum_ext i (λ a. sum (suc a) (λ b. v a b)) (λ a. sum (suc a) (λ b. w a b)) (λ a n. sum_ext (suc a) (λ b. v a b) (λ b. w a b) (λ b k. h a b (omega arith) (omega arith))))
    (sum_ext j (λ b. v i b) (λ b. w i b) (λ b n. h i b (omega arith) (omega arith)))

-- two shapes that agree in the first m rows
pub record Agree (g h : Shape) (m : ℕ) : Type 0 where
  pub held : (i j : ℕ) → i < m → j ≤ i → g.held i j ≡ h.held i j
  pub cols : (i : ℕ) → i < m → g.cols i ≡ h.cols i
  pub from : (i : ℕ) → i < m → g.from i ≡ h.from i

module _ (g h : Shape) (m : ℕ) (same : Agree g h m) where
  same_place : (i e : ℕ) → i < m → place g i e ≡ place h i e
  unfolding place
  same_place i e l = ap₂ (λ (f : ℕ) (c : List ℕ). f + find e c) (same.from i l) (same.cols i l)

  same_shared : (i j : ℕ) → i < m → j ≤ i → shared g i j ≡ shared h i j
  unfolding shared
  same_shared i j l k = ap₂ both (same.cols i l) (same.cols j (omega arith))

  same_lplace : (i k : ℕ) → i < m → k ≤ suc i → lplace g i k ≡ lplace h i k
  unfolding lplace
  same_lplace i k l n = before_ext (λ a b. one (g.held a b)) (λ a b. one (h.held a b)) i k (λ a b x y. ap one (same.held a b (omega arith) y)) n

  same_after : (i : ℕ) → i < m → lplace g (suc i) 0 ≡ lplace h (suc i) 0
  unfolding lplace before sum
  same_after i l =
      ap (λ (x : ℕ). x + 0)
      (sum_ext (suc i) (λ a. sum (suc a) (λ b. one (g.held a b))) (λ a. sum (suc a) (λ b. one (h.held a b)))
      (λ a n. sum_ext (suc a) (λ b. one (g.held a b)) (λ b. one (h.held a b)) (λ b k. ap one (same.held a b (omega arith) (omega arith)))))

  same_both : (i j k : ℕ) → i < m → j ≤ i → k < j → g.held i k && g.held j k ≡ h.held i k && h.held j k
  same_both i j k l n o = ap₂ ◌&&◌ (same.held i k l (omega arith)) (same.held j k (omega arith) (omega arith))

  same_weight : (w : Which) (i j : ℕ) → i < m → j ≤ i → weight g w i j ≡ weight h w i j
  unfolding weight
  same_weight AnormIndptr i j l k = ap₂ common (same.cols i l) (same.cols j (omega arith))
  same_weight LdecompIndptr i j l k = sum_ext j (λ x. one (g.held i x && g.held j x)) (λ x. one (h.held i x && h.held j x)) (λ x n. ap one (same_both i j x l k n))
  same_weight AnormIndptrI i j l k = refl
  same_weight AnormIndptrJ i j l k = refl
  same_weight AnormIndices i j l k = refl
  same_weight LdecompIndptrI i j l k = refl
  same_weight LdecompIndptrJ i j l k = refl
  same_weight Lindptr i j l k = refl
  same_weight LdiagIndptr i j l k = refl
  same_weight Lindices i j l k = refl

  same_count : (w : Which) (i j : ℕ) → i < m → j ≤ i → before (weight g w) i (suc j) ≡ before (weight h w) i (suc j)
  same_count w i j l k = before_ext (weight g w) (weight h w) i (suc j) (λ a b x y. same_weight w a b (omega arith) y) (omega arith)

  map_ext : (f f' : ℕ → ℕ) (xs : List ℕ) → ((x : ℕ) → f x ≡ f' x) → map f xs ≡ map f' xs
  map_ext f f' [] e = refl
  map_ext f f' (x ∷ xs) e = ap₂ ◌∷◌ (e x) (map_ext f f' xs e)

  -- the products' places, in row r, which is i or j
  same_products : (r i j : ℕ) → r < m → j ≤ r → i < m → j ≤ i → map (lplace g r) (products g i j) ≡ map (lplace h r) (products h i j)
  unfolding products
  same_products r i j lr kr l k =
      map_cat (lplace g r) j (λ x. pick (g.held i x && g.held j x) x)
      ∙ cat_ext j (λ x. map (lplace g r) (pick (g.held i x && g.held j x) x)) (λ x. map (lplace h r) (pick (h.held i x && h.held j x) x))
      (λ x n.
      map_pick (lplace g r) (g.held i x && g.held j x) x
      ∙ ap₂ pick (same_both i j x l k n) (same_lplace r x lr (omega arith))
      ∙ sym (map_pick (lplace h r) (h.held i x && h.held j x) x))
      ∙ sym (map_cat (lplace h r) j (λ x. pick (h.held i x && h.held j x) x))

  same_piece : (w : Which) (i j : ℕ) → i < m → j ≤ i → piece g w i j ≡ piece h w i j
  unfolding piece
  same_piece AnormIndptr i j l k = ap₂ pick (same.held i j l k) (same_count AnormIndptr i j l k)
  same_piece AnormIndptrI i j l k = map_ext (place g i) (place h i) (shared g i j) (λ e. same_place i e l) ∙ ap (map (place h i)) (same_shared i j l k)
  same_piece AnormIndptrJ i j l k = map_ext (place g j) (place h j) (shared g i j) (λ e. same_place j e (omega arith)) ∙ ap (map (place h j)) (same_shared i j l k)
  same_piece AnormIndices i j l k = same_shared i j l k
  same_piece LdecompIndptr i j l k = ap₂ pick (same.held i j l k) (same_count LdecompIndptr i j l k)
  same_piece LdecompIndptrI i j l k = same_products i i j l k l k
  same_piece LdecompIndptrJ i j l k = same_products j i j (omega arith) (omega arith) l k
  same_piece Lindptr i j l k = ap (pick (eqb j i)) (same_after i l)
  same_piece LdiagIndptr i j l k = ap (pick (eqb j i)) (same_lplace i i l (omega arith))
  same_piece Lindices i j l k = ap (λ (t : Bool). pick t j) (same.held i j l k)

  -- each list of the first m rows is the first part of the list of more rows
  pub prefix : (w : Which) (k : ℕ) → (rest : List ℕ) × (list_of h w (m + k) ≡ list_of g w m ++ rest)
  unfolding list_of pairs
  prefix w k = (
    cat k (λ i. cat (suc (m + i)) (λ j. piece h w (m + i) j)),
    ap (λ (l : List ℕ). pick (begins w) 0 ++ l)
        (cat_add m k (λ i. cat (suc i) (λ j. piece h w i j))
        ∙ ap (λ (l : List ℕ). l ++ cat k (λ i. cat (suc (m + i)) (λ j. piece h w (m + i) j)))
        (cat_ext m (λ i. cat (suc i) (λ j. piece h w i j)) (λ i. cat (suc i) (λ j. piece g w i j))
        (λ i l. cat_ext (suc i) (λ j. piece h w i j) (λ j. piece g w i j) (λ j n. sym (same_piece w i j l (omega arith))))))
        ∙ sym (append_assoc (pick (begins w) 0) (pairs m (piece g w)) (cat k (λ i. cat (suc (m + i)) (λ j. piece h w (m + i) j)))),
  )

-- ---- rows appended to a matrix

fill_same : (nb nb' : ℕ → ℕ → Bool) (m : ℕ) → ((i j : ℕ) → i < m → j < m → nb i j ≡ nb' i j) → (b i j : ℕ) → b ≤ m → i < m → j < m → fill nb b i j ≡ fill nb' b i j
unfolding fill
fill_same nb nb' m e zero i j hb hi hj = e i j hi hj
fill_same nb nb' m e (suc b) i j hb hi hj =
    ap₂ ◌||◌ (fill_same nb nb' m e b i j (omega arith) hi hj)
    (ap₂ ◌&&◌ (fill_same nb nb' m e b i b (omega arith) hi (omega arith)) (fill_same nb nb' m e b j b (omega arith) hj (omega arith)))

module _ (off cols os cs : List ℕ) (m : ℕ) (ok : Csr off cols m) where
  from_same : (i : ℕ) → i ≤ m → get_or off i 0 ≡ get_or (off ++ os) i 0
  from_same i h = sym (get_or-append off os 0 i (omega (arith, ok.offsets)))

  row_same : (i : ℕ) → i < m → row off cols i ≡ row (off ++ os) (cols ++ cs) i
  unfolding row
  row_same i h =
      let a = get_or off i 0 in
      let b = get_or off (i + 1) 0 in
      sym
      (ap₂ (λ (x y : ℕ). take (y - x) (drop x (cols ++ cs))) (sym (from_same i (omega arith))) (sym (from_same (i + 1) (omega arith)))
      ∙ ap (take (b - a)) (drop-append-le a cols cs (ok.ends i (omega arith)))
      ∙ take-append-le (b - a) (drop a cols) cs (omega (arith, length-drop a cols, ok.ends (i + 1) (omega arith), ok.order i h)))

  stored_same : (i j : ℕ) → i < m → j < m → is_stored off cols i j ≡ is_stored (off ++ os) (cols ++ cs) i j
  unfolding is_stored stored neighbours
  stored_same i j hi hj =
      ap (λ (t : Bool). eqb i j || t)
      (fill_same (neighbours off cols) (neighbours (off ++ os) (cols ++ cs)) m (λ x y hx hy. ap₂ shares (row_same x hx) (row_same y hy)) j i j (omega arith) hi hj)

  -- T-07
  pub rows_appended : (w : Which) (k : ℕ) → (rest : List ℕ) × (list_of (shape (off ++ os) (cols ++ cs)) w (m + k) ≡ list_of (shape off cols) w m ++ rest)
  rows_appended = prefix (shape off cols) (shape (off ++ os) (cols ++ cs)) m record {
    held = λ i j l n. ap (λ (t : Bool). leb j i && t) (stored_same i j l (omega arith));
    cols = row_same;
    from = λ i l. from_same i (omega arith);
  }
