-- A program walks a list of places where the machine's definitions go through all indices and pick: the two are the same where the list rises. Assumes nothing.
use mathlib.Core.Path.{◌≡◌, refl, sym, ap, ◌∙◌}
use mathlib.Core.Logic.{◌⊎◌, inl, inr}
use mathlib.Core.Bool.{Bool, true, false, cond}
use mathlib.Core.List.{List, [], ◌∷◌, ◌++◌}
use Prim.Native.Nat.{ℕ, zero, suc, ◌≤◌, ◌<◌}
use native.Mathlib.Nat.{eq-or-lt_of_le}
use native.Mathlib.Omega.{arith}
use borrow.Author.Tests.{ne_eqb, eq-eqb}
use lib.Ieee.{Float}
use Rattle.csr.specs.Pattern.{has}
use Rattle.lanes.specs.Lists.{fold, each, Between}

-- f of each place of the list in turn
unfoldable pub walk : List ℕ → (ℕ → Float → Float) → Float → Float
walk [] f v = v
walk (e ∷ es) f v = walk es f (f e v)

module _ (f : ℕ → Float → Float) where
  -- nothing below n passes
  each_none : (n : ℕ) (p : ℕ → Bool) (v : Float) → ((k : ℕ) → k < n → p k ≡ false) → each n p f v ≡ v
  unfolding each fold
  each_none zero p v h = refl
  each_none (suc n) p v h =
      ap (λ (t : Bool). cond t (f n (each n p f v)) (each n p f v)) (h n (omega arith)) ∙ each_none n p v (λ k b. h k (omega arith))

  -- p passes e, and elsewhere what p' passes, which is nothing up to e
  each_first : (n e : ℕ) (p p' : ℕ → Bool) (v : Float) → e < n → ((k : ℕ) → k < e → p k ≡ false) → p e ≡ true → ((k : ℕ) → e < k → p k ≡ p' k) → ((k : ℕ) → k ≤ e → p' k ≡ false)
      → each n p f v ≡ each n p' f (f e v)
  unfolding each fold
  each_first zero e p p' v h a b c d = absurd (omega arith)
  each_first (suc n) e p p' v h a b c d = go (each_first n e p p' v) (eq-or-lt_of_le h)
    where
      go : (e < n → ((k : ℕ) → k < e → p k ≡ false) → p e ≡ true → ((k : ℕ) → e < k → p k ≡ p' k) → ((k : ℕ) → k ≤ e → p' k ≡ false) → each n p f v ≡ each n p' f (f e v))
          → (suc e ≡ suc n) ⊎ (suc e < suc n)
          → cond (p n) (f n (each n p f v)) (each n p f v) ≡ cond (p' n) (f n (each n p' f (f e v))) (each n p' f (f e v))
      go ih (inl z) =
          let s : e ≡ n = omega arith in
          let pn : p n ≡ true = ap p (sym s) ∙ b in
          let qn : p' n ≡ false = d n (omega arith) in
          let x : each n p f v ≡ v = each_none n p v (λ k l. a k (omega arith)) in
          let y : each n p' f (f e v) ≡ f e v = each_none n p' (f e v) (λ k l. d k (omega arith)) in
          ap (λ (t : Bool). cond t (f n (each n p f v)) (each n p f v)) pn
          ∙ ap (f n) x
          ∙ ap (λ (k : ℕ). f k v) (sym s)
          ∙ sym y
          ∙ sym (ap (λ (t : Bool). cond t (f n (each n p' f (f e v))) (each n p' f (f e v))) qn)
      go ih (inr l) =
          let x : each n p f v ≡ each n p' f (f e v) = ih (omega arith) a b c d in
          ap (λ (r : Float). cond (p n) (f n r) r) x ∙ ap (λ (t : Bool). cond t (f n (each n p' f (f e v))) (each n p' f (f e v))) (c n (omega arith))

  below_none : (b n : ℕ) (es : List ℕ) → Between b n es → (k : ℕ) → k < b → has es k ≡ false
  unfolding has
  below_none b n [] r k h = refl
  below_none b n (e ∷ es) r k h = rw (ne_eqb k e (λ z. omega (arith, r.0))) (below_none (suc e) n es r.2 k (omega (arith, r.0)))

  -- THE WALK: through a rising list, as through all indices, picking those in the list
  pub each_walk : (b n : ℕ) (es : List ℕ) (v : Float) → Between b n es → each n (has es) f v ≡ walk es f v
  unfolding walk
  each_walk b n [] v r = each_none n (has []) v (λ k h. unfold has in refl)
  each_walk b n (e ∷ es) v r =
      each_first n e (has (e ∷ es)) (has es) v r.1 (λ k h. below_none e n (e ∷ es) (omega arith, r.1, r.2) k h)
      (unfold has in rw (eq-eqb e e refl) refl)
      (λ k h. unfold has in rw (ne_eqb k e (λ z. omega arith)) refl)
      (λ k h. below_none (suc e) n es r.2 k (omega arith))
      ∙ each_walk (suc e) n es (f e v) r.2

-- a loop over the list: one more place
pub walk_more : (es : List ℕ) (e : ℕ) (f : ℕ → Float → Float) (v : Float) → walk (es ++ (e ∷ [])) f v ≡ f e (walk es f v)
unfolding walk
walk_more [] e f v = refl
walk_more (x ∷ es) e f v = walk_more es e f (f x v)
