-- Laws of `grow`, `vec`, `fold`, `lane` and `first`. Assumes nothing.
use mathlib.Core.Path.{◌≡◌, refl, sym, ap, ◌∙◌, subst}
use mathlib.Core.Logic.{◌⊎◌, inl, inr}
use mathlib.Core.Bool.{Bool, true, false, cond, true≢false}
use mathlib.Core.List.{List, [], ◌∷◌}
use Prim.Native.Nat.{ℕ, zero, suc, ◌+◌, ◌*◌, ◌≤◌, ◌<◌}
use native.Mathlib.Nat.{eq-or-lt_of_le}
use native.Mathlib.Omega.{arith}
use lib.ListN.{get_or, length, length-append, get_or-append}
use lib.Seq.{get_or_at, ext_get_or}
use lib.Ieee.{Float, nan}
use Rattle.lanes.specs.Lists.{at, grow, vec, fold, first, lane}

module _ {A : Type 0} (f : List A → ℕ → A) where
  pub grow_length : (n : ℕ) → length (grow n f) ≡ n
  unfolding grow
  grow_length zero = refl
  grow_length (suc n) = length-append (grow n f) (f (grow n f) n ∷ []) ∙ omega (arith, grow_length n)

  -- element k is made by f from the k before it
  pub grow_at : (n k : ℕ) (z : A) → k < n → get_or (grow n f) k z ≡ f (grow k f) k
  unfolding grow
  grow_at zero k z h = absurd (omega arith)
  grow_at (suc n) k z h = go (λ l. grow_at n k z l) (eq-or-lt_of_le h)
    where
      go : (k < n → get_or (grow n f) k z ≡ f (grow k f) k) → (suc k ≡ suc n) ⊎ (suc k < suc n) → get_or (grow (suc n) f) k z ≡ f (grow k f) k
      go ih (inl e) =
          let s : k ≡ n = omega arith in
          subst (λ (j : ℕ). get_or (grow (suc n) f) j z ≡ f (grow j f) j) (sym s) (get_or_at (grow n f) (f (grow n f) n) [] z n (grow_length n))
      go ih (inr l) = get_or-append (grow n f) (f (grow n f) n ∷ []) z k (omega (arith, grow_length n)) ∙ ih (omega arith)

pub vec_length : (n : ℕ) (f : ℕ → Float) → length (vec n f) ≡ n
unfolding vec
vec_length n f = grow_length (λ _ k. f k) n

pub vec_at : (n : ℕ) (f : ℕ → Float) (k : ℕ) → k < n → at (vec n f) k ≡ f k
unfolding vec
vec_at n f k h = grow_at (λ _ j. f j) n k nan h

pub vec_same : (n : ℕ) (f g : ℕ → Float) → ((k : ℕ) → k < n → f k ≡ g k) → vec n f ≡ vec n g
vec_same n f g h =
    ext_get_or nan (vec n f) (vec n g) (vec_length n f ∙ sym (vec_length n g))
    (λ k l. let b : k < n = omega (arith, vec_length n f) in vec_at n f k b ∙ h k b ∙ sym (vec_at n g k b))

pub lane_at : (K n l : ℕ) (v : List Float) (k : ℕ) → k < n → at (lane K n l v) k ≡ at v (K * k + l)
unfolding lane
lane_at K n l v k h = vec_at n (λ j. at v (K * j + l)) k h

-- ---- the first that passes
module _ (p : ℕ → Bool) where
  step : (r n : ℕ) → (t : Bool) → p r ≡ t → first n p ≡ r → first (suc n) p ≡ cond t r (suc r)
  unfolding first
  step r n t e q = rw q (rw e refl)

  pub first_le : (n : ℕ) → first n p ≤ n
  unfolding first
  first_le zero = omega arith
  first_le (suc n) = go (p (first n p)) (first_le n)
    where
      go : (t : Bool) → first n p ≤ n → cond t (first n p) (suc (first n p)) ≤ suc n
      go true h = omega arith
      go false h = omega arith

  -- none below it passes
  pub first_none : (n k : ℕ) → k < first n p → p k ≡ false
  unfolding first
  first_none zero k h = absurd (omega arith)
  first_none (suc n) k h = go (p (first n p)) refl (first_none n k) h
    where
      go : (t : Bool) → p (first n p) ≡ t → (k < first n p → p k ≡ false) → k < cond t (first n p) (suc (first n p)) → p k ≡ false
      go true e ih l = ih l
      go false e ih l = pick (eq-or-lt_of_le l)
        where
          pick : (suc k ≡ suc (first n p)) ⊎ (suc k < suc (first n p)) → p k ≡ false
          pick (inl s) = let z : k ≡ first n p = omega arith in ap p z ∙ e
          pick (inr s) = ih (omega arith)

  -- where it is below n, it passes
  pub first_hit : (n : ℕ) → first n p < n → p (first n p) ≡ true
  unfolding first
  first_hit zero h = absurd (omega arith)
  first_hit (suc n) h = go (p (first n p)) refl (first_hit n) h
    where
      go : (t : Bool) → p (first n p) ≡ t → (first n p < n → p (first n p) ≡ true) → cond t (first n p) (suc (first n p)) < suc n
          → p (cond t (first n p) (suc (first n p))) ≡ true
      go true e ih l = e
      go false e ih l = absurd (true≢false (sym (ih (omega arith)) ∙ e))

  -- no higher than one that passes
  pub first_under : (n k : ℕ) → k < n → p k ≡ true → first n p ≤ k
  first_under n k h e = go (native.Mathlib.Decide.dec_le (first n p) k)
    where
      go : Dec (first n p ≤ k) → first n p ≤ k
      go (yes l) = l
      go (no l) = absurd (true≢false (sym e ∙ first_none n k (omega arith)))

  -- under a larger limit it is the same
  pub first_larger : (n n' : ℕ) → n ≤ n' → first n p < n → first n' p ≡ first n p
  first_larger n n' h l =
      let up : first n' p ≤ first n p = first_under n' (first n p) (omega arith) (first_hit n l) in
      let down : first n p ≤ first n' p = first_under n (first n' p) (omega arith) (first_hit n' (omega arith)) in
      omega arith

  pub first_at_lem : (n r : ℕ) → r < n → p r ≡ true → ((k : ℕ) → k < r → p k ≡ false) → first n p ≡ r
  first_at_lem n r h e q = go (native.Mathlib.Decide.dec_lt (first n p) r)
    where
      u : first n p ≤ r
      u = first_under n r h e

      go : Dec (first n p < r) → first n p ≡ r
      go (yes l) = absurd (true≢false (sym (first_hit n (omega arith)) ∙ q (first n p) l))
      go (no l) = omega (arith, u)

  pub first_all : (n : ℕ) → ((k : ℕ) → k < n → p k ≡ false) → first n p ≡ n
  first_all n q = go (native.Mathlib.Decide.dec_lt (first n p) n)
    where
      go : Dec (first n p < n) → first n p ≡ n
      go (yes l) = absurd (true≢false (sym (first_hit n l) ∙ q (first n p) l))
      go (no l) = omega (arith, first_le n)

pub first_same : (p q : ℕ → Bool) (n : ℕ) → ((k : ℕ) → k < n → p k ≡ q k) → first n p ≡ first n q
unfolding first
first_same p q zero h = refl
first_same p q (suc n) h =
    let e : first n p ≡ first n q = first_same p q n (λ k b. h k (omega arith)) in
    let z : p (first n p) ≡ q (first n p) = h (first n p) (omega (arith, first_le p n)) in
    ap (λ (t : Bool). cond t (first n p) (suc (first n p))) z ∙ ap (λ (r : ℕ). cond (q r) r (suc r)) e

-- folds that do the same
pub fold_same : (n : ℕ) (f g : ℕ → Float → Float) (v : Float) → ((k : ℕ) → k < n → (r : Float) → f k r ≡ g k r) → fold n f v ≡ fold n g v
unfolding fold
fold_same zero f g v h = refl
fold_same (suc n) f g v h = ap (f n) (fold_same n f g v (λ k b. h k (omega arith))) ∙ h n (omega arith) (fold n g v)
