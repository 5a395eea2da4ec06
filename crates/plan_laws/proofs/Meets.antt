-- The two sums of an entry: by the plan's lists as by the machine's definition. Assumes nothing.
use mathlib.Core.Path.{◌≡◌, refl, sym, ap, ap₂, ◌∙◌}
use mathlib.Core.Bool.{Bool, true, false, ◌&&◌, false≢true}
use mathlib.Core.List.{List, [], ◌∷◌, map}
use Prim.Native.Nat.{ℕ, zero, suc, ◌+◌, ◌-◌, ◌<◌, ◌≤◌}
use native.Mathlib.Omega.{arith}
use lib.ListN.{length, get_or, length-map, drop, length-drop}
use lib.Seq.{length-take-le}
use lib.Ieee.{Float, binary64, add, sub, mul, div}
use Rattle.csr.specs.Pattern.{row}
use Rattle.csr.specs.Factor.{factor_has}
use Rattle.base.specs.Sums.{one}
use Rattle.base.specs.Cat.{pick}
use Rattle.lists.specs.Lists.{Shape, shape, place, lplace, before, weight, products, shared, piece, list_of}
use Rattle.base.specs.Numbers.{find}
use Rattle.csr.specs.Csr.{Accepted}
use Rattle.lists.specs.declared.Which.TheVariants.{AnormIndptr, AnormIndptrI, AnormIndptrJ, AnormIndices, LdecompIndptr, LdecompIndptrI, LdecompIndptrJ}
use Rattle.base.proofs.Write.{length_cat, length_pick}
use Rattle.lists.proofs.Merge.{length_both}
use Rattle.base.proofs.Sums.{sum_ext}
use Rattle.lanes.specs.Lanes.{cell as here}
use Rattle.lanes.specs.Region.{reg}
use Rattle.lanes.proofs.Regions.{reg_at}
use Rattle.lanes.specs.Lists.{at, fold, each}
use Rattle.machine.specs.Machine.{Problem, holds, entry, in_factor}
use Rattle.lanes.proofs.Lists.{fold_same}
use Rattle.machine.proofs.Entries.{each_pick}
use Rattle.machine.specs.Work.{problem_of}
use Rattle.plan_laws.specs.Factoring.{normal_step, product_step}
use Rattle.plan_laws.proofs.Ranks.{pairs_at, pairs_long, lplace_lt}
use Rattle.plan_laws.proofs.Picks.{picks, picks_all, both_each, between, both_all, held_factor}
use Rattle.csr.proofs.Has.{find_lt, below_has}

map_at : (f : ℕ → ℕ) (l : List ℕ) (k : ℕ) → k < length l → get_or (map f l) k 0 ≡ f (get_or l k 0)
map_at f [] k h = absurd (omega arith)
map_at f (x ∷ l) zero h = refl
map_at f (x ∷ l) (suc k) h = map_at f l k (omega arith)

module _ (m n s : ℕ) (off cols : List ℕ) (vals : List Float) (ok : Accepted off cols m n) where
  abbrev g : Shape
  g = shape off cols

  abbrev A : Problem
  A = problem_of m n s off cols vals

  -- ---- what two rows share

  abbrev w_a : ℕ → ℕ → ℕ
  w_a = weight g AnormIndptr

  pub shared_length : (i j : ℕ) → length (shared g i j) ≡ w_a i j
  unfolding shared weight
  shared_length i j = length_both (row off cols i) (row off cols j)

  module _ (i j : ℕ) (hi : i < m) (hj : j ≤ i) where
    -- the three lists at the k-th number of (i, j)
    pub anorm_i_at : (k : ℕ) → k < w_a i j → get_or (list_of g AnormIndptrI m) (before w_a i j + k) 0 ≡ place g i (get_or (shared g i j) k 0)
    unfolding list_of piece
    anorm_i_at k h =
        pairs_at (λ a b. map (place g a) (shared g a b)) w_a (λ a b _. length-map (shared g a b) (place g a) ∙ shared_length a b) m i j k hi hj h
        ∙ map_at (place g i) (shared g i j) k (omega (arith, shared_length i j))

    pub anorm_j_at : (k : ℕ) → k < w_a i j → get_or (list_of g AnormIndptrJ m) (before w_a i j + k) 0 ≡ place g j (get_or (shared g i j) k 0)
    unfolding list_of piece
    anorm_j_at k h =
        pairs_at (λ a b. map (place g b) (shared g a b)) w_a (λ a b _. length-map (shared g a b) (place g b) ∙ shared_length a b) m i j k hi hj h
        ∙ map_at (place g j) (shared g i j) k (omega (arith, shared_length i j))

    pub anorm_e_at : (k : ℕ) → k < w_a i j → get_or (list_of g AnormIndices m) (before w_a i j + k) 0 ≡ get_or (shared g i j) k 0
    unfolding list_of piece
    anorm_e_at k h = pairs_at (λ a b. shared g a b) w_a (λ a b _. shared_length a b) m i j k hi hj h

    pub anorm_i_long : before w_a i (suc j) ≤ length (list_of g AnormIndptrI m)
    unfolding list_of piece
    anorm_i_long = pairs_long (λ a b. map (place g a) (shared g a b)) w_a (λ a b _. length-map (shared g a b) (place g a) ∙ shared_length a b) m i j hi hj

    pub anorm_j_long : before w_a i (suc j) ≤ length (list_of g AnormIndptrJ m)
    unfolding list_of piece
    anorm_j_long = pairs_long (λ a b. map (place g b) (shared g a b)) w_a (λ a b _. length-map (shared g a b) (place g b) ∙ shared_length a b) m i j hi hj

    pub anorm_e_long : before w_a i (suc j) ≤ length (list_of g AnormIndices m)
    unfolding list_of piece
    anorm_e_long = pairs_long (λ a b. shared g a b) w_a (λ a b _. shared_length a b) m i j hi hj

    -- a shared column is below n, and its places are in the values
    row_size : (r : ℕ) → r < m → get_or off r 0 + length (row off cols r) ≤ length cols
    unfolding row
    row_size r h =
        omega (arith, length-take-le (get_or off (r + 1) 0 - get_or off r 0) (drop (get_or off r 0) cols) (omega (arith, length-drop (get_or off r 0) cols, ok.csr.ends (r + 1) (omega arith))), ok.csr.order r h, ok.csr.ends (r + 1) (omega arith))

    pub shared_lt : (k : ℕ) → k < w_a i j → get_or (shared g i j) k 0 < n
    unfolding shared
    shared_lt k h =
        both_all (λ (e : ℕ). e < n) (row off cols i) (row off cols j) (λ e a b. below_has n e (row off cols i) (ok.within i hi) a) k (omega (arith, shared_length i j))

    pub left_lt : (k : ℕ) → k < w_a i j → place g i (get_or (shared g i j) k 0) < length cols
    unfolding shared place
    left_lt k h =
        both_all (λ (e : ℕ). get_or off i 0 + find e (row off cols i) < length cols) (row off cols i) (row off cols j)
        (λ e a b. omega (arith, find_lt e (row off cols i) a, row_size i hi)) k (omega (arith, shared_length i j))

    pub right_lt : (k : ℕ) → k < w_a i j → place g j (get_or (shared g i j) k 0) < length cols
    unfolding shared place
    right_lt k h =
        both_all (λ (e : ℕ). get_or off j 0 + find e (row off cols j) < length cols) (row off cols i) (row off cols j)
        (λ e a b. omega (arith, find_lt e (row off cols j) b, row_size j (omega arith))) k (omega (arith, shared_length i j))

    entry_place : (r e : ℕ) → entry A r e ≡ at vals (place g r e)
    unfolding entry place
    entry_place r e = refl

    -- THE SHARED COLUMNS: the sum by the lists is the machine's
    pub normal_is : (width : ℕ) (work : List Float) (x z l : ℕ) (v : Float)
        → fold (w_a i j) (normal_step width vals (list_of g AnormIndptrI m) (list_of g AnormIndptrJ m) (list_of g AnormIndices m) work x z (before w_a i j) l) v
        ≡ each n (λ e. holds A i e && holds A j e)
        (λ e r. add binary64 r (div binary64 (mul binary64 (mul binary64 (entry A i e) (entry A j e)) (at (reg width work x n l) e)) (at (reg width work z n l) e))) v
    unfolding holds
    normal_is width work x z l v =
        fold_same (w_a i j) (normal_step width vals (list_of g AnormIndptrI m) (list_of g AnormIndptrJ m) (list_of g AnormIndices m) work x z (before w_a i j) l)
        (λ k r. F (get_or (shared g i j) k 0) r) v step
        ∙ ap (λ (c : ℕ). fold c (λ k r. F (get_or (shared g i j) k 0) r) v) (sym (shared_length i j))
        ∙ (unfold shared in sym (both_each n (row off cols i) (row off cols j) F v (between n (row off cols i) (ok.csr.rising i hi) (ok.within i hi))))
      where
        F : ℕ → Float → Float
        F e r = add binary64 r (div binary64 (mul binary64 (mul binary64 (entry A i e) (entry A j e)) (at (reg width work x n l) e)) (at (reg width work z n l) e))

        step : (k : ℕ) → k < w_a i j → (r : Float)
            → normal_step width vals (list_of g AnormIndptrI m) (list_of g AnormIndptrJ m) (list_of g AnormIndices m) work x z (before w_a i j) l k r ≡ F (get_or (shared g i j) k 0) r
        step k h r =
            let e = get_or (shared g i j) k 0 in
            rw (anorm_i_at k h, anorm_j_at k h, anorm_e_at k h)
            (rw (sym (entry_place i e), sym (entry_place j e), sym (reg_at width work x n l e (shared_lt k h)), sym (reg_at width work z n l e (shared_lt k h))) refl)

  -- ---- what two rows of the factor share

  abbrev w_d : ℕ → ℕ → ℕ
  w_d = weight g LdecompIndptr

  pub products_length : (i j : ℕ) → length (products g i j) ≡ w_d i j
  unfolding products weight
  products_length i j =
      length_cat j (λ k. pick (g.held i k && g.held j k) k)
      ∙ sum_ext j (λ k. length (pick (g.held i k && g.held j k) k)) (λ k. one (g.held i k && g.held j k)) (λ k b. length_pick (g.held i k && g.held j k) k)

  products_each : (i j : ℕ) (F : ℕ → Float → Float) (v : Float)
      → fold (length (products g i j)) (λ k r. F (get_or (products g i j) k 0) r) v ≡ each j (λ k. g.held i k && g.held j k) F v
  unfolding products
  products_each i j F v = sym (picks (λ k. g.held i k && g.held j k) F v j)

  module _ (i j : ℕ) (hi : i < m) (hj : j ≤ i) where
    pub ldecomp_i_at : (k : ℕ) → k < w_d i j → get_or (list_of g LdecompIndptrI m) (before w_d i j + k) 0 ≡ lplace g i (get_or (products g i j) k 0)
    unfolding list_of piece
    ldecomp_i_at k h =
        pairs_at (λ a b. map (lplace g a) (products g a b)) w_d (λ a b _. length-map (products g a b) (lplace g a) ∙ products_length a b) m i j k hi hj h
        ∙ map_at (lplace g i) (products g i j) k (omega (arith, products_length i j))

    pub ldecomp_j_at : (k : ℕ) → k < w_d i j → get_or (list_of g LdecompIndptrJ m) (before w_d i j + k) 0 ≡ lplace g j (get_or (products g i j) k 0)
    unfolding list_of piece
    ldecomp_j_at k h =
        pairs_at (λ a b. map (lplace g b) (products g a b)) w_d (λ a b _. length-map (products g a b) (lplace g b) ∙ products_length a b) m i j k hi hj h
        ∙ map_at (lplace g j) (products g i j) k (omega (arith, products_length i j))

    pub ldecomp_i_long : before w_d i (suc j) ≤ length (list_of g LdecompIndptrI m)
    unfolding list_of piece
    ldecomp_i_long = pairs_long (λ a b. map (lplace g a) (products g a b)) w_d (λ a b _. length-map (products g a b) (lplace g a) ∙ products_length a b) m i j hi hj

    pub ldecomp_j_long : before w_d i (suc j) ≤ length (list_of g LdecompIndptrJ m)
    unfolding list_of piece
    ldecomp_j_long = pairs_long (λ a b. map (lplace g b) (products g a b)) w_d (λ a b _. length-map (products g a b) (lplace g b) ∙ products_length a b) m i j hi hj

    -- what the lists name are entries of the factor
    pub products_in : (k : ℕ) → k < w_d i j → (lplace g i (get_or (products g i j) k 0) < lplace g m 0) × (lplace g j (get_or (products g i j) k 0) < lplace g m 0)
    unfolding products
    products_in k h =
        picks_all (λ (c : ℕ). (lplace g i c < lplace g m 0) × (lplace g j c < lplace g m 0)) (λ c. g.held i c && g.held j c) j
        (λ c b t. both_of c b (g.held i c) refl (g.held j c) refl t) k (omega (arith, products_length i j))
      where
        both_of : (c : ℕ) → c < j → (p : Bool) → g.held i c ≡ p → (q : Bool) → g.held j c ≡ q → p && q ≡ true → (lplace g i c < lplace g m 0) × (lplace g j c < lplace g m 0)
        both_of c b true p true q t = (lplace_lt g i c m hi (omega arith) p, lplace_lt g j c m (omega arith) (omega arith) q)
        both_of c b true p false q t = absurd (false≢true t)
        both_of c b false p q q' t = absurd (false≢true t)

    -- THE k OF D: the differences by the lists are the machine's, of the factor as it stands in the memory
    pub products_is : (width : ℕ) (work : List Float) (lo l : ℕ) (v : Float)
        → fold (w_d i j) (product_step width (list_of g LdecompIndptrI m) (list_of g LdecompIndptrJ m) work lo (before w_d i j) l) v
        ≡ each j (λ k. in_factor A i k && in_factor A j k) (λ k r. sub binary64 r (mul binary64 (here width work (lo + lplace g i k) l) (here width work (lo + lplace g j k) l))) v
    unfolding in_factor
    products_is width work lo l v =
        fold_same (w_d i j) (product_step width (list_of g LdecompIndptrI m) (list_of g LdecompIndptrJ m) work lo (before w_d i j) l)
        (λ k r. F (get_or (products g i j) k 0) r) v
        (λ k h r. rw (ldecomp_i_at k h, ldecomp_j_at k h) refl)
        ∙ ap (λ (c : ℕ). fold c (λ k r. F (get_or (products g i j) k 0) r) v) (sym (products_length i j))
        ∙ products_each i j F v
        ∙ each_pick j (λ k. g.held i k && g.held j k) (λ k. factor_has off cols i k && factor_has off cols j k) F v
        (λ k b. ap₂ ◌&&◌ (sym (held_factor off cols i k (omega arith))) (sym (held_factor off cols j k (omega arith))))
      where
        F : ℕ → Float → Float
        F k r = sub binary64 r (mul binary64 (here width work (lo + lplace g i k) l) (here width work (lo + lplace g j k) l))
