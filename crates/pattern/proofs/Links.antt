-- Links through the first row of each column give the same pattern as the neighbours. Assumes nothing.
use mathlib.Core.Path.{◌≡◌, refl, sym, ap, ◌∙◌}
use mathlib.Core.Logic.{◌⊎◌, inl, inr}
use mathlib.Core.Bool.{Bool, true, false, ◌||◌, cond, false≢true}
use mathlib.Core.List.{List, [], ◌∷◌}
use Prim.Native.Nat.{ℕ, zero, suc, ◌<◌, ◌≤◌}
use native.Mathlib.Omega.{arith}
use native.Mathlib.Decide.{ℕ_discrete, dec_lt}
use borrow.Author.Tests.{eq-eqb, eqb-true}
use lib.Dec.{eqb}
use Rattle.base.proofs.Bools.{or_out, or_left, or_right, same_if}
use Rattle.csr.specs.Pattern.{has, row, neighbours, stored}
use Rattle.csr.proofs.Rule.{by_rule, meets, grows}
use Rattle.csr.specs.Csr.{Accepted}
use Rattle.pattern.specs.Links.{or_else, linked, first_of, links, Inside}
use Rattle.base.proofs.Numbers.{below_more}
use Rattle.csr.proofs.Has.{has_here, has_more, shares_out, shares_in}

-- ---- a number of a list

linked_out : (F : ℕ → ℕ) (xs : List ℕ) (j : ℕ) → linked F xs j ≡ true → (e : ℕ) × (has xs e ≡ true) × (F e ≡ suc j)
unfolding linked
linked_out F [] j h = absurd (false≢true h)
linked_out F (x ∷ xs) j h = go (or_out (eqb (F x) (suc j)) (linked F xs j) h) (linked_out F xs j)
  where
    go : (eqb (F x) (suc j) ≡ true) ⊎ (linked F xs j ≡ true) → (linked F xs j ≡ true → (e : ℕ) × (has xs e ≡ true) × (F e ≡ suc j))
        → (e : ℕ) × (has (x ∷ xs) e ≡ true) × (F e ≡ suc j)
    go (inl t) ih = (x, has_here x xs, eqb-true (F x) (suc j) t)
    go (inr t) ih = let r = ih t in (r.0, has_more x xs r.0 r.1, r.2)

linked_in : (F : ℕ → ℕ) (xs : List ℕ) (e j : ℕ) → has xs e ≡ true → F e ≡ suc j → linked F xs j ≡ true
unfolding linked has
linked_in F [] e j h g = absurd (false≢true h)
linked_in F (x ∷ xs) e j h g = go (or_out (eqb e x) (has xs e) h) (linked_in F xs e j)
  where
    go : (eqb e x ≡ true) ⊎ (has xs e ≡ true) → (has xs e ≡ true → F e ≡ suc j → linked F xs j ≡ true) → eqb (F x) (suc j) || linked F xs j ≡ true
    go (inl t) ih = or_left (eqb (F x) (suc j)) (linked F xs j) (eq-eqb (F x) (suc j) (sym (ap F (eqb-true e x t)) ∙ g))
    go (inr t) ih = or_right (eqb (F x) (suc j)) (linked F xs j) (ih t g)

module _ (off cols : List ℕ) where
  -- the first row of a column holds it
  first_step : (i e f : ℕ) (b : Bool) → has (row off cols i) e ≡ b → (x : ℕ) → or_else x (cond b (suc i) 0) ≡ suc f
      → (x ≡ suc f) ⊎ ((has (row off cols i) e ≡ true) × (f ≡ i))
  first_step i e f true h zero q = inr (h, omega arith)
  first_step i e f false h zero q = absurd (omega arith)
  first_step i e f b h (suc x) q = inl q

  pub first_has : (i e f : ℕ) → first_of off cols i e ≡ suc f → (has (row off cols f) e ≡ true) × (f < i)
  unfolding first_of
  first_has zero e f q = absurd (omega arith)
  first_has (suc i) e f q = go (first_step i e f (has (row off cols i) e) refl (first_of off cols i e) q) (first_has i e f)
    where
      go : (first_of off cols i e ≡ suc f) ⊎ ((has (row off cols i) e ≡ true) × (f ≡ i)) → (first_of off cols i e ≡ suc f → (has (row off cols f) e ≡ true) × (f < i))
          → (has (row off cols f) e ≡ true) × (f < suc i)
      go (inl t) ih = let r = ih t in (r.0, omega (arith, r.1))
      go (inr t) ih = (ap (λ (x : ℕ). has (row off cols x) e) t.1 ∙ t.0, omega (arith, t.1))

  -- a first row stays the first
  keep_one : (x y f : ℕ) → x ≡ suc f → or_else x y ≡ suc f
  keep_one zero y f q = absurd (omega arith)
  keep_one (suc x) y f q = q

  first_keep : (i j e f : ℕ) → j ≤ i → first_of off cols j e ≡ suc f → first_of off cols i e ≡ suc f
  unfolding first_of
  first_keep zero j e f l q = let z : j ≡ 0 = omega arith in sym (ap (λ (x : ℕ). first_of off cols x e) z) ∙ q
  first_keep (suc i) j e f l q = go (dec_lt i j) (λ h. first_keep i j e f h q)
    where
      go : Dec (i < j) → (j ≤ i → first_of off cols i e ≡ suc f) → or_else (first_of off cols i e) (cond (has (row off cols i) e) (suc i) 0) ≡ suc f
      go (yes h) ih = let z : j ≡ suc i = omega arith in sym (ap (λ (x : ℕ). first_of off cols x e) z) ∙ q
      go (no h) ih = keep_one (first_of off cols i e) _ f (ih (omega arith))

  -- a column that row j holds has a first row up to j
  some_one : (j : ℕ) (b : Bool) → b ≡ true → (x : ℕ) → ((f : ℕ) → x ≡ suc f → f < j) → (f : ℕ) × (or_else x (cond b (suc j) 0) ≡ suc f) × (f ≤ j)
  some_one j true h zero g = (j, refl, omega arith)
  some_one j false h x g = absurd (false≢true h)
  some_one j true h (suc x) g = (x, refl, omega (arith, g x refl))

  first_at_lem : (j e : ℕ) → has (row off cols j) e ≡ true → (f : ℕ) × (first_of off cols (suc j) e ≡ suc f) × (f ≤ j)
  unfolding first_of
  first_at_lem j e h = some_one j (has (row off cols j) e) h (first_of off cols j e) (λ f q. (first_has j e f q).1)

  pub first_some : (i j e : ℕ) → j < i → has (row off cols j) e ≡ true → (f : ℕ) × (first_of off cols i e ≡ suc f) × (f ≤ j)
  first_some i j e l h = let r = first_at_lem j e h in (r.0, first_keep i (suc j) e r.0 (omega arith) r.1, r.2)

  -- the first row of a column is the same for every row that holds it
  first_same : (i j e f : ℕ) → f < j → j ≤ i → first_of off cols i e ≡ suc f → first_of off cols j e ≡ suc f
  first_same i j e f l h q =
      let r = first_some j f e l (first_has i e f q).0 in
      let s = first_keep i j e r.0 h r.1 in
      let t : r.0 ≡ f = omega (arith, sym s ∙ q) in
      r.1 ∙ ap suc t

  -- a link is a neighbour
  link_near : (i j : ℕ) → links off cols i j ≡ true → neighbours off cols i j ≡ true
  unfolding links neighbours
  link_near i j h =
      let r = linked_out (first_of off cols i) (row off cols i) j h in
      shares_in (row off cols i) (row off cols j) r.0 r.1 (first_has i r.0 j r.2).0

  pub link_of : (i j e : ℕ) → has (row off cols i) e ≡ true → first_of off cols i e ≡ suc j → links off cols i j ≡ true
  unfolding links
  link_of i j e h q = linked_in (first_of off cols i) (row off cols i) e j h q

  -- neighbours are linked, or both are linked to an earlier row
  near_link : (i j : ℕ) → j < i → neighbours off cols i j ≡ true → (links off cols i j ≡ true) ⊎ ((f : ℕ) × (f < j) × (links off cols i f ≡ true) × (links off cols j f ≡ true))
  unfolding neighbours
  near_link i j l h = go (ℕ_discrete f j)
    where
      s : (e : ℕ) × (has (row off cols i) e ≡ true) × (has (row off cols j) e ≡ true)
      s = shares_out (row off cols i) (row off cols j) h

      r : (f : ℕ) × (first_of off cols i s.0 ≡ suc f) × (f ≤ j)
      r = first_some i j s.0 l s.2

      f : ℕ
      f = r.0

      go : Dec (r.0 ≡ j) → (links off cols i j ≡ true) ⊎ ((f : ℕ) × (f < j) × (links off cols i f ≡ true) × (links off cols j f ≡ true))
      go (yes q) = inl (link_of i j s.0 s.1 (r.1 ∙ ap suc q))
      go (no q) =
          let d : r.0 < j = omega (arith, r.2) in
          inr (r.0, d, link_of i r.0 s.0 s.1 r.1, link_of j r.0 s.0 s.2 (first_same i j s.0 r.0 d (omega arith) r.1))

  -- what is stored by links has all neighbours
  near_stored : (i j : ℕ) → j < i → neighbours off cols i j ≡ true → stored (links off cols) i j ≡ true
  near_stored i j l h = go (near_link i j l h)
    where
      go : (links off cols i j ≡ true) ⊎ ((f : ℕ) × (f < j) × (links off cols i f ≡ true) × (links off cols j f ≡ true)) → stored (links off cols) i j ≡ true
      go (inl t) = by_rule (links off cols) i j l t
      go (inr t) =
          meets (links off cols) i j t.0 (omega arith) t.1 (by_rule (links off cols) i t.0 (omega (arith, t.1)) t.2) (by_rule (links off cols) j t.0 t.1 t.3)

  -- THE SAME PATTERN
  pub links_stored : (i j : ℕ) → j < i → stored (links off cols) i j ≡ stored (neighbours off cols) i j
  links_stored i j l =
      same_if (stored (links off cols) i j) (stored (neighbours off cols) i j)
      (grows (links off cols) (neighbours off cols) (λ a b d t. by_rule (neighbours off cols) a b d (link_near a b t)) (suc j) i j (omega arith) l)
      (grows (neighbours off cols) (links off cols) near_stored (suc j) i j (omega arith) l)

-- ---- an accepted matrix has its columns below 1,024

pub inside : (off cols : List ℕ) (m n : ℕ) → Accepted off cols m n → Inside off cols m 1024
inside off cols m n ok i l = below_more n 1024 (row off cols i) ok.wide (ok.within i l)
