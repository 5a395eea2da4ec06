-- The factor's and the substitutions' own equations: for a program that keeps them in lists of its own. Assumes nothing.
use mathlib.Core.Path.{◌≡◌, refl, sym, ap, ◌∙◌, subst}
use mathlib.Core.Logic.{◌⊎◌, inl, inr}
use mathlib.Core.Bool.{Bool, true, false, cond, ◌&&◌, true≢false}
use mathlib.Core.List.{List, [], ◌∷◌, ◌++◌}
use Prim.Native.Nat.{ℕ, suc, ◌≤◌, ◌<◌}
use native.Mathlib.Nat.{eq-or-lt_of_le}
use native.Mathlib.Decide.{ℕ_discrete}
use native.Mathlib.Omega.{arith}
use borrow.Author.Tests.{eq-eqb}
use lib.Dec.{eqb, ltb}
use lib.ListN.{get_or, get_or-append}
use lib.Seq.{get_or_at}
use lib.Ieee.{Float, nan, binary64, add, sub, mul, div}
use Rattle.lanes.specs.Lists.{at, grow, each}
use Rattle.machine.specs.Machine.{Problem, State, cell, holds, entry, in_factor, reduced, factor_entry, factor, forward}
use Rattle.lanes.specs.Arithmetic.{null, √, magnitude}
use Rattle.lanes.proofs.Lists.{grow_length, grow_at, fold_same}
use Rattle.base.proofs.Bools.{and_out}

-- ---- folds that do the same

pub each_same : (n : ℕ) (p : ℕ → Bool) (f g : ℕ → Float → Float) (v : Float) → ((k : ℕ) → k < n → p k ≡ true → (r : Float) → f k r ≡ g k r)
    → each n p f v ≡ each n p g v
unfolding each
each_same n p f g v h = fold_same n (λ k r. cond (p k) (f k r) r) (λ k r. cond (p k) (g k r) r) v (λ k b r. go k r (p k) (h k b))
  where
    go : (k : ℕ) (r : Float) (t : Bool) → (t ≡ true → (r : Float) → f k r ≡ g k r) → cond t (f k r) r ≡ cond t (g k r) r
    go k r true e = e refl r
    go k r false e = refl

module _ (A : Problem) (q : State) where
  -- (a, b) stands before (i, j)
  abbrev pub Before : ℕ → ℕ → ℕ → ℕ → Type 0
  Before i j a b = (a < i) ⊎ ((a ≡ i) × (b < j))

  diag : (i : ℕ) → in_factor A i i ≡ true
  unfolding in_factor Rattle.csr.specs.Factor.factor_has
  diag i = rw (eq-eqb i i refl) refl

  -- an entry reads only what stands before it in the factor
  module _ (l l' : ℕ → ℕ → Float) (i j : ℕ) (h : j ≤ i) (e : (a b : ℕ) → b ≤ a → in_factor A a b ≡ true → Before i j a b → l a b ≡ l' a b) where
    before_row : (k : ℕ) → k < j → (j ≡ i) ⊎ (j < i) → Before i j j k
    before_row k b (inl z) = inr (z, b)
    before_row k b (inr z) = inl z

    rest_same : reduced A q l i j ≡ reduced A q l' i j
    unfolding reduced
    rest_same =
        each_same j (λ k. in_factor A i k && in_factor A j k) (λ k r. sub binary64 r (mul binary64 (l i k) (l j k))) (λ k r. sub binary64 r (mul binary64 (l' i k) (l' j k)))
        (each A.n (λ c. holds A i c && holds A j c)
        (λ c r. add binary64 r (div binary64 (mul binary64 (mul binary64 (entry A i c) (entry A j c)) (at q.x c)) (at q.z c)))
        (cond (eqb i j && ltb i A.s) (div binary64 (at q.w i) (at q.y i)) null))
        (λ k b t r.
        let s = and_out (in_factor A i k) (in_factor A j k) t in
        let x : l i k ≡ l' i k = e i k (omega arith) s.0 (inr (refl, b)) in
        let y : l j k ≡ l' j k = e j k (omega arith) s.1 (before_row k b (eq-or-lt_of_le h)) in
        ap (λ (z : Float). sub binary64 r (mul binary64 z (l j k))) x ∙ ap (λ (z : Float). sub binary64 r (mul binary64 (l' i k) z)) y)

    pub entry_same : factor_entry A q l i j ≡ factor_entry A q l' i j
    unfolding factor_entry
    entry_same = go (ℕ_discrete i j)
      where
        by : (t : Bool) → (t ≡ false → l j j ≡ l' j j)
            → cond t (√ (magnitude (reduced A q l i j))) (div binary64 (reduced A q l i j) (l j j)) ≡ cond t (√ (magnitude (reduced A q l' i j))) (div binary64 (reduced A q l' i j) (l' j j))
        by true d = ap (λ (r : Float). √ (magnitude r)) rest_same
        by false d = ap (λ (r : Float). div binary64 r (l j j)) rest_same ∙ ap (div binary64 (reduced A q l' i j)) (d refl)

        go : Dec (i ≡ j)
            → cond (eqb i j) (√ (magnitude (reduced A q l i j))) (div binary64 (reduced A q l i j) (l j j))
            ≡ cond (eqb i j) (√ (magnitude (reduced A q l' i j))) (div binary64 (reduced A q l' i j) (l' j j))
        go (yes z) = by (eqb i j) (λ f. absurd (true≢false (sym (eq-eqb i j z) ∙ f)))
        go (no z) = by (eqb i j) (λ _. e j j (omega arith) (diag j) (inl (omega arith)))

  -- ---- the factor's own equation

  abbrev in_row : List (List Float) → ℕ → List Float → ℕ → Float
  in_row rows i r j = cond (in_factor A i j) (factor_entry A q (cell (rows ++ (r ∷ []))) i j) null

  abbrev as_row : List (List Float) → ℕ → List Float
  as_row rows i = grow (suc i) (in_row rows i)

  factor_grows : factor A q ≡ grow A.m as_row
  unfolding factor
  factor_grows = refl

  row_is : (i : ℕ) → i < A.m → get_or (factor A q) i [] ≡ as_row (grow i as_row) i
  row_is i h = ap (λ (l : List (List Float)). get_or l i []) factor_grows ∙ grow_at as_row A.m i [] h

  -- rows that were there when row i was made
  early : (i a : ℕ) → i < A.m → a < i → get_or (grow i as_row) a [] ≡ get_or (factor A q) a []
  early i a h b =
      grow_at as_row i a [] b ∙ sym (row_is a (omega arith))

  pub factor_is : (i j : ℕ) → i < A.m → j ≤ i → in_factor A i j ≡ true → cell (factor A q) i j ≡ factor_entry A q (cell (factor A q)) i j
  factor_is i j h b f =
      ap (λ (r : List Float). at r j) (row_is i h)
      ∙ grow_at (in_row (grow i as_row) i) (suc i) j nan (omega arith)
      ∙ ap (λ (t : Bool). cond t (factor_entry A q (cell now) i j) null) f
      ∙ entry_same (cell now) (cell (factor A q)) i j b there
    where
      r : List Float
      r = grow j (in_row (grow i as_row) i)

      now : List (List Float)
      now = grow i as_row ++ (r ∷ [])

      there : (a c : ℕ) → c ≤ a → in_factor A a c ≡ true → Before i j a c → cell now a c ≡ cell (factor A q) a c
      there a c d g (inl u) =
          ap (λ (s : List Float). at s c) (get_or-append (grow i as_row) (r ∷ []) [] a (omega (arith, grow_length as_row i)) ∙ early i a h u)
      there a c d g (inr u) =
          subst (λ (x : ℕ). cell now x c ≡ cell (factor A q) x c) (sym u.0)
          (ap (λ (s : List Float). at s c) (get_or_at (grow i as_row) r [] [] i (grow_length as_row i))
          ∙ grow_at (in_row (grow i as_row) i) j c nan u.1
          ∙ sym (grow_at (in_row (grow i as_row) i) (suc i) c nan (omega (arith, u.1)))
          ∙ ap (λ (s : List Float). at s c) (sym (row_is i h)))

  -- ---- forward
  module _ (l : ℕ → ℕ → Float) (f : List Float) where
    abbrev solved_at : List Float → ℕ → Float
    solved_at d i = div binary64 (each i (λ j. in_factor A i j) (λ j v. sub binary64 v (mul binary64 (at d j) (l i j))) (at f i)) (l i i)

    forward_grows : forward A l f ≡ grow A.m solved_at
    unfolding forward
    forward_grows = refl

    pub forward_is : (i : ℕ) → i < A.m → at (forward A l f) i ≡ solved_at (forward A l f) i
    forward_is i h =
        ap (λ (d : List Float). at d i) forward_grows
        ∙ grow_at solved_at A.m i nan h
        ∙ ap (λ (v : Float). div binary64 v (l i i))
        (each_same i (λ j. in_factor A i j) (λ j v. sub binary64 v (mul binary64 (at (grow i solved_at) j) (l i j))) (λ j v. sub binary64 v (mul binary64 (at (forward A l f) j) (l i j))) (at f i)
        (λ j b t v. ap (λ (z : Float). sub binary64 v (mul binary64 z (l i j)))
        (grow_at solved_at i j nan b ∙ sym (ap (λ (d : List Float). at d j) forward_grows ∙ grow_at solved_at A.m j nan (omega arith)))))
