-- The machine goes through all indices and picks; the plan lists what is picked. Assumes nothing.
use mathlib.Core.Path.{◌≡◌, refl, sym, ap, ◌∙◌, subst}
use mathlib.Core.Logic.{inl, inr}
use mathlib.Core.Bool.{Bool, true, false, cond, ◌&&◌, ◌||◌, false≢true}
use mathlib.Core.List.{List, [], ◌∷◌, ◌++◌, append-nil}
use Prim.Native.Nat.{ℕ, zero, suc, ◌<◌, ◌≤◌}
use native.Mathlib.Omega.{arith}
use native.Mathlib.Decide.{dec_lt}
use lib.Dec.{eqb}
use lib.ListN.{length, get_or, length-append, get_or-append}
use lib.Seq.{get_or_at}
use borrow.Author.Tests.{eq-eqb}
use lib.Ieee.{Float}
use Rattle.csr.specs.Pattern.{has, row, neighbours}
use Rattle.base.specs.Numbers.{Below, Under, Rising}
use Rattle.csr.proofs.Rule.{stored_rule, stored_diag}
use Rattle.csr.specs.Factor.{factor_has}
use Rattle.csr.proofs.Chain.{factor_stored}
use Rattle.base.specs.Sums.{one}
use Rattle.base.specs.Cat.{cat, pick}
use Rattle.lists.specs.Lists.{Shape, shape, both, weight}
use Rattle.lists.specs.declared.Which.TheVariants.{AnormIndptr, LdecompIndptr}
use Rattle.lanes.specs.Lists.{fold, each, Between}
use Rattle.machine.proofs.Walks.{walk, walk_more, each_walk}
use Rattle.machine.proofs.Entries.{walk_fold}
use Rattle.lanes.proofs.Lists.{fold_same}
use Rattle.base.proofs.Sums.{sum_zero}
use Rattle.csr.proofs.Has.{common_none}
use Rattle.lists.proofs.Counts.{held_stored}

-- ---- through the numbers below n that pass, as a list
module _ (p : ℕ → Bool) (f : ℕ → Float → Float) (v : Float) where
  picks_walk : (n : ℕ) → each n p f v ≡ walk (cat n (λ k. pick (p k) k)) f v
  unfolding each fold cat walk
  picks_walk zero = refl
  picks_walk (suc n) = go (p n) (picks_walk n)
    where
      go : (t : Bool) → each n p f v ≡ walk (cat n (λ k. pick (p k) k)) f v
          → cond t (f n (each n p f v)) (each n p f v) ≡ walk (cat n (λ k. pick (p k) k) ++ pick t n) f v
      go true ih = ap (f n) ih ∙ sym (walk_more (cat n (λ k. pick (p k) k)) n f v)
      go false ih = ih ∙ ap (λ (l : List ℕ). walk l f v) (sym (append-nil (cat n (λ k. pick (p k) k))))

  pub picks : (n : ℕ) → each n p f v ≡ fold (length (cat n (λ k. pick (p k) k))) (λ t r. f (get_or (cat n (λ k. pick (p k) k)) t 0) r) v
  picks n = picks_walk n ∙ walk_fold (cat n (λ k. pick (p k) k)) f v

-- what is picked passes
pub picks_all : (P : ℕ → Type 0) (p : ℕ → Bool) (n : ℕ) → ((k : ℕ) → k < n → p k ≡ true → P k) → (t : ℕ) → t < length (cat n (λ k. pick (p k) k)) → P (get_or (cat n (λ k. pick (p k) k)) t 0)
unfolding cat
picks_all P p zero h t l = absurd (omega arith)
picks_all P p (suc n) h t l = go (p n) refl l (picks_all P p n (λ k b. h k (omega arith)))
  where
    xs : List ℕ
    xs = cat n (λ k. pick (p k) k)

    go : (c : Bool) → p n ≡ c → t < length (xs ++ pick c n) → ((t : ℕ) → t < length xs → P (get_or xs t 0)) → P (get_or (xs ++ pick c n) t 0)
    go false e l ih = subst (λ (ys : List ℕ). P (get_or ys t 0)) (sym (append-nil xs)) (ih t (subst (λ (ys : List ℕ). t < length ys) (append-nil xs) l))
    go true e l ih = at (dec_lt t (length xs))
      where
        at : Dec (t < length xs) → P (get_or (xs ++ (n ∷ [])) t 0)
        at (yes b) = subst P (sym (get_or-append xs (n ∷ []) 0 t b)) (ih t b)
        at (no b) = subst P (sym (get_or_at xs n [] 0 t (omega (arith, length-append xs (n ∷ []))))) (h n (omega arith) e)

-- ---- through what two rows share
both_walk : (xs ys : List ℕ) (f : ℕ → Float → Float) (v : Float) → walk xs (λ e r. cond (has ys e) (f e r) r) v ≡ walk (both xs ys) f v
unfolding walk both
both_walk [] ys f v = refl
both_walk (x ∷ xs) ys f v = go (has ys x) (λ u. both_walk xs ys f u)
  where
    go : (t : Bool) → ((u : Float) → walk xs (λ e r. cond (has ys e) (f e r) r) u ≡ walk (both xs ys) f u)
        → walk xs (λ e r. cond (has ys e) (f e r) r) (cond t (f x v) v) ≡ walk (pick t x ++ both xs ys) f v
    go true ih = ih (f x v)
    go false ih = ih v

cond_and : (a b : Bool) (x y : Float) → cond (a && b) x y ≡ cond a (cond b x y) y
cond_and true b x y = refl
cond_and false b x y = refl

pub both_each : (n : ℕ) (xs ys : List ℕ) (f : ℕ → Float → Float) (v : Float) → Between 0 n xs
    → each n (λ e. has xs e && has ys e) f v ≡ fold (length (both xs ys)) (λ t r. f (get_or (both xs ys) t 0) r) v
unfolding each
both_each n xs ys f v b =
    fold_same n (λ e r. cond (has xs e && has ys e) (f e r) r) (λ e r. cond (has xs e) (cond (has ys e) (f e r) r) r) v (λ e _ r. cond_and (has xs e) (has ys e) (f e r) r)
    ∙ each_walk (λ e r. cond (has ys e) (f e r) r) 0 n xs v b
    ∙ both_walk xs ys f v
    ∙ walk_fold (both xs ys) f v

-- ---- rows

between_under : (e n : ℕ) (xs : List ℕ) → Under e xs → Rising xs → Below n xs → Between (suc e) n xs
between_under e n [] u r b = tt
between_under e n (x ∷ xs) u r b = (u.0, b.0, between_under x n xs r.0 r.1 b.1)

pub between : (n : ℕ) (xs : List ℕ) → Rising xs → Below n xs → Between 0 n xs
between n [] r b = tt
between n (x ∷ xs) r b = (omega arith, b.0, between_under x n xs r.0 r.1 b.1)

-- what stands in both stands in each
pub both_all : (P : ℕ → Type 0) (xs ys : List ℕ) → ((x : ℕ) → has xs x ≡ true → has ys x ≡ true → P x) → (t : ℕ) → t < length (both xs ys) → P (get_or (both xs ys) t 0)
unfolding both has
both_all P [] ys h t l = absurd (omega arith)
both_all P (x ∷ xs) ys h t l = go (has ys x) refl t l (both_all P xs ys (λ y a b. h y (later y (eqb y x) a) b))
  where
    later : (y : ℕ) (c : Bool) → has xs y ≡ true → c || has xs y ≡ true
    later y true a = refl
    later y false a = a

    go : (c : Bool) → has ys x ≡ c → (t : ℕ) → t < length (pick c x ++ both xs ys) → ((t : ℕ) → t < length (both xs ys) → P (get_or (both xs ys) t 0)) → P (get_or (pick c x ++ both xs ys) t 0)
    go true e zero l ih = h x (rw (eq-eqb x x refl) refl) e
    go true e (suc t) l ih = ih t (omega arith)
    go false e t l ih = ih t l

-- ---- a pair that is not stored counts nothing

module _ (off cols : List ℕ) where
  abbrev g : Shape
  g = shape off cols

  pub held_factor : (i j : ℕ) → j ≤ i → factor_has off cols i j ≡ g.held i j
  held_factor i j h = factor_stored off cols i j h ∙ sym (held_stored off cols i j h)

  pub held_diag : (i : ℕ) → g.held i i ≡ true
  held_diag i = held_stored off cols i i (omega arith) ∙ stored_diag (neighbours off cols) i i refl

  not_nb : (i j : ℕ) → j ≤ i → g.held i j ≡ false → (t : Bool) → neighbours off cols i j ≡ t → t ≡ false
  not_nb i j h e true q = absurd (false≢true (sym (sym (held_stored off cols i j h) ∙ e) ∙ (stored_rule (neighbours off cols) i j h).1 (inr (inl q))))
  not_nb i j h e false q = refl

  pub anorm_none : (i j : ℕ) → j ≤ i → g.held i j ≡ false → weight g AnormIndptr i j ≡ 0
  unfolding weight neighbours
  anorm_none i j h e = common_none (row off cols i) (row off cols j) (not_nb i j h e (neighbours off cols i j) refl)

  pub ldecomp_none : (i j : ℕ) → j ≤ i → g.held i j ≡ false → weight g LdecompIndptr i j ≡ 0
  unfolding weight
  ldecomp_none i j h e = sum_zero j (λ k. one (g.held i k && g.held j k)) (λ k b. go k b (g.held i k) refl (g.held j k) refl)
    where
      go : (k : ℕ) → k < j → (s : Bool) → g.held i k ≡ s → (t : Bool) → g.held j k ≡ t → one (s && t) ≡ 0
      go k b true p true q =
          absurd (false≢true (sym (sym (held_stored off cols i j h) ∙ e)
          ∙ (stored_rule (neighbours off cols) i j h).1 (inr (inr (k, b, sym (held_stored off cols i k (omega arith)) ∙ p, sym (held_stored off cols j k (omega arith)) ∙ q)))))
      go k b true p false q = refl
      go k b false p t q = refl
