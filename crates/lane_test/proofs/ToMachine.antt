-- What the kernels work out by their lists is what the machine works out by its rules. Assumes nothing.
use mathlib.Core.Path.{◌≡◌, refl, sym, ap, ◌∙◌}
use mathlib.Core.Bool.{Bool, ◌&&◌}
use mathlib.Core.List.{List, [], ◌∷◌, ◌++◌}
use Prim.Native.Nat.{ℕ, zero, suc, ◌+◌, ◌-◌, ◌≤◌, ◌<◌}
use native.Mathlib.Omega.{arith}
use lib.Dec.{ltb}
use lib.ListN.{length, get_or, set}
use lib.Ieee.{Float, nan}
use Rattle.csr.specs.Pattern.{has, row}
use Rattle.lanes.specs.Lists.{at, grow, fold, each, Between}
use Rattle.machine.specs.Machine.{Problem, holds, entry, in_factor, forward, backward, column_product}
use Rattle.lanes.specs.Arithmetic.{◌⊕◌, ◌⊖◌, ◌⊗◌, ◌⊘◌, null}
use Rattle.lanes.proofs.Lists.{fold_same}
use Rattle.machine.proofs.Entries.{through, along}
use Rattle.base.specs.Numbers.{cut, span}
use Rattle.sparse.specs.Sparse.{plus_all, less_all, less_each, front_at, front, back_at, back}
use Rattle.sparse.specs.Parts.{plus_row, less_row, plus_col, less_col}
use Rattle.plan_laws.specs.Meaning.{RowsOf, ColsOf, LowOf, HighOf, Holds}
use Rattle.base.proofs.Numbers.{cut_length, cut_at}

-- ONE LAW FOR EVERY LIST: a loop over a rising list, with a number of its own for each turn
pub listed : (n : ℕ) (p : ℕ → Bool) (es : List ℕ) (a : ℕ → Float) (f : ℕ → Float) (F : ℕ → Float → Float → Float) (v : Float) → Between 0 n es
    → ((k : ℕ) → k < n → p k ≡ has es k) → ((j : ℕ) → j < length es → a j ≡ f (get_or es j 0))
    → fold (length es) (λ j r. F (get_or es j 0) (a j) r) v ≡ each n p (λ e r. F e (f e) r) v
listed n p es a f F v b h e =
    fold_same (length es) (λ j r. F (get_or es j 0) (a j) r) (λ j r. F (get_or es j 0) (f (get_or es j 0)) r) v (λ j l r. ap (λ (x : Float). F (get_or es j 0) x r) (e j l))
    ∙ sym (through n p es (λ e r. F e (f e) r) v b h)

grow_same : (n : ℕ) (F G : List Float → ℕ → Float) → ((k : ℕ) → k < n → (d : List Float) → F d k ≡ G d k) → grow n F ≡ grow n G
unfolding grow
grow_same zero F G h = refl
grow_same (suc n) F G h =
    ap (λ (v : List Float). v ++ (F v n ∷ [])) (grow_same n F G (λ k b d. h k (omega arith) d)) ∙ ap (λ (x : Float). grow n G ++ (x ∷ [])) (h n (omega arith) (grow n G))

module _ (A : Problem) where
  -- ---- rows
  module _ (R : RowsOf A) (i : ℕ) (h : i < A.m) where
    row_sum : (F : ℕ → Float → Float → Float) (v : Float)
        → fold (length (span A.off A.cols i)) (λ j r. F (get_or (span A.off A.cols i) j 0) (at (span A.off A.vals i) j) r) v
        ≡ each A.n (holds A i) (λ e r. F e (entry A i e) r) v
    row_sum F v =
        let c = R.ranges.csr in
        let a = get_or A.off i 0 in
        let b = get_or A.off (i + 1) 0 in
        let up : a ≤ b = c.rises i h in
        let end : b ≤ length A.cols = c.ends i h in
        let z : length (span A.off A.cols i) ≡ b - a = cut_length a b A.cols end in
        ap (λ (k : ℕ). fold k (λ j r. F (get_or (span A.off A.cols i) j 0) (at (span A.off A.vals i) j) r) v) z
        ∙ fold_same (b - a) (λ j r. F (get_or (span A.off A.cols i) j 0) (at (span A.off A.vals i) j) r) (λ j r. F (get_or A.cols (a + j) 0) (at A.vals (a + j)) r) v
        (λ j l r. ap (λ (e : ℕ). F e (at (span A.off A.vals i) j) r) (cut_at a b A.cols j 0 l) ∙ ap (λ (x : Float). F (get_or A.cols (a + j) 0) x r) (cut_at a b A.vals j nan l))
        ∙ sym (along A i (unfold row in R.rising i h) (omega arith) F v)

    pub row_plus : (u : List Float) (v : Float) → plus_row A.off A.cols A.vals (at u) i v ≡ each A.n (holds A i) (λ e r. r ⊕ entry A i e ⊗ at u e) v
    unfolding plus_row plus_all
    row_plus u v = row_sum (λ e a r. r ⊕ a ⊗ at u e) v

    pub row_less : (u : List Float) (v : Float) → less_row A.off A.cols A.vals (at u) i v ≡ each A.n (holds A i) (λ e r. r ⊖ entry A i e ⊗ at u e) v
    unfolding less_row less_all
    row_less u v = row_sum (λ e a r. r ⊖ a ⊗ at u e) v

  -- ---- columns
  module _ (atindptr atindices atmap : List ℕ) (C : ColsOf A atindptr atindices atmap) (e : ℕ) (h : e < A.n) where
    col_sum : (F : ℕ → Float → Float → Float) (v : Float)
        → fold (length (span atindptr atindices e)) (λ j r. F (get_or (span atindptr atindices e) j 0) (at A.vals (get_or (span atindptr atmap e) j 0)) r) v
        ≡ each A.m (λ i. holds A i e) (λ i r. F i (entry A i e) r) v
    col_sum F v = listed A.m (λ i. holds A i e) (span atindptr atindices e) (λ j. at A.vals (get_or (span atindptr atmap e) j 0)) (λ i. entry A i e) F v (C.rising e h) (C.holding e h) (C.entries e h)

    pub col_plus : (y : List Float) → plus_col atindptr atindices atmap A.vals (at y) e null ≡ column_product A y e
    unfolding plus_col plus_all column_product
    col_plus y = col_sum (λ i a r. r ⊕ a ⊗ at y i) null

    pub col_less : (y : List Float) (v : Float) → less_col atindptr atindices atmap A.vals (at y) e v ≡ each A.m (λ i. holds A i e) (λ i r. r ⊖ entry A i e ⊗ at y i) v
    unfolding less_col less_all
    col_less y v = col_sum (λ i a r. r ⊖ a ⊗ at y i) v

  -- ---- substitution
  module _ (ptr ind : List ℕ) (P : LowOf A ptr ind) (lv : List Float) (L : ℕ → ℕ → Float) (H : Holds A ptr ind lv L) where
    diag : (i : ℕ) → i < A.m → at lv (get_or ptr (i + 1) 0 - 1) ≡ L i i
    diag i h = H.reads i h (get_or ptr (i + 1) 0 - 1) (omega (arith, P.ranges.rises i h)) (omega (arith, P.ranges.rises i h)) ∙ ap (L i) (P.last i h)

    pub front_machine : (f : List Float) → front ptr ind A.m lv f ≡ forward A L f
    unfolding front forward
    front_machine f =
        grow_same A.m (front_at ptr ind lv f) (λ d i. each i (λ j. in_factor A i j) (λ j v. v ⊖ at d j ⊗ L i j) (at f i) ⊘ L i i) one
      where
        one : (i : ℕ) → i < A.m → (d : List Float) → front_at ptr ind lv f d i ≡ each i (λ j. in_factor A i j) (λ j v. v ⊖ at d j ⊗ L i j) (at f i) ⊘ L i i
        one i h d =
            let a = get_or ptr i 0 in
            let g = get_or ptr (i + 1) 0 - 1 in
            let up = P.ranges.rises i h in
            let end = P.ranges.ends i h in
            unfold front_at less_each in
            ap (λ (x : Float). x ⊘ at lv g)
            (listed i (λ j. in_factor A i j) (cut a g ind) (λ k. at lv (a + k)) (L i) (λ j l r. r ⊖ at d j ⊗ l) (at f i) (P.rising i h) (P.holding i h)
            (λ k b.
            let b' : k < g - a = omega (arith, cut_length a g ind (omega arith)) in
            H.reads i h (a + k) (omega arith) (omega arith) ∙ ap (L i) (sym (cut_at a g ind k 0 b'))))
            ∙ ap (λ (x : Float). each i (λ j. in_factor A i j) (λ j v. v ⊖ at d j ⊗ L i j) (at f i) ⊘ x) (diag i h)

    module _ (tptr tind tmap : List ℕ) (T : HighOf A ptr ind tptr tind tmap) where
      back_one : (i : ℕ) → i < A.m → (d : List Float)
          → back_at ptr tptr tind tmap lv d i ≡ each A.m (λ j. ltb i j && in_factor A j i) (λ j v. v ⊖ at d j ⊗ L j i) (at d i) ⊘ L i i
      unfolding back_at less_each
      back_one i h d =
          let es = cut (get_or tptr i 0 + 1) (get_or tptr (i + 1) 0) tind in
          let ps = cut (get_or tptr i 0 + 1) (get_or tptr (i + 1) 0) tmap in
          ap (λ (x : Float). x ⊘ at lv (get_or ptr (i + 1) 0 - 1))
          (listed A.m (λ j. ltb i j && in_factor A j i) es (λ k. at lv (get_or ps k 0)) (λ j. L j i) (λ j l r. r ⊖ at d j ⊗ l) (at d i) (T.rising i h) (T.holding i h)
          (λ k b. let p = T.places i h k b in H.reads (get_or es k 0) (T.above i h k b) (get_or ps k 0) p.0 p.1 ∙ ap (L (get_or es k 0)) p.2))
          ∙ ap (λ (x : Float). each A.m (λ j. ltb i j && in_factor A j i) (λ j v. v ⊖ at d j ⊗ L j i) (at d i) ⊘ x) (diag i h)

      pub back_machine : (i : ℕ) → i ≤ A.m → (d : List Float) → back ptr tptr tind tmap lv i d ≡ backward A L i d
      unfolding back backward
      back_machine zero h d = refl
      back_machine (suc i) h d =
          back_machine i (omega arith) (set d i (back_at ptr tptr tind tmap lv d i)) ∙ ap (λ (x : Float). backward A L i (set d i x)) (back_one i (omega arith) d)
