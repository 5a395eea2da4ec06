-- The numbers below a bound that pass a test, in a list. Assumes nothing.
use mathlib.Core.Path.{◌≡◌, refl, sym, ap, ap₂, ◌∙◌, subst}
use mathlib.Core.Bool.{Bool, true, false, ◌&&◌, ◌||◌}
use mathlib.Core.List.{List, [], ◌∷◌, ◌++◌, append-nil}
use Prim.Native.Nat.{ℕ, zero, suc, ◌<◌, ◌≤◌}
use native.Mathlib.Omega.{arith}
use native.Mathlib.Decide.{dec_lt, ℕ_discrete}
use borrow.Author.Tests.{lt-ltb, le-ltb}
use lib.Dec.{ltb}
use lib.ListN.{length, get_or, length-append, get_or-append}
use lib.Seq.{get_or_at}
use Rattle.csr.specs.Pattern.{has}
use Rattle.base.specs.Sums.{sum, one}
use Rattle.base.proofs.Sums.{sum_ext}
use Rattle.base.specs.Cat.{cat, pick}
use Rattle.base.proofs.Write.{length_cat, length_pick}
use Rattle.lanes.specs.Lists.{Between}
use Rattle.base.proofs.Bools.{or_nil}
use Rattle.csr.proofs.Has.{has_append, has_self, has_other}

-- the k below n that pass
abbrev pub picked : (ℕ → Bool) → ℕ → List ℕ
picked p n = cat n (λ k. pick (p k) k)

-- the same, each by another name
abbrev pub named : (ℕ → Bool) → (ℕ → ℕ) → ℕ → List ℕ
named p v n = cat n (λ k. pick (p k) (v k))

pub named_length : (p : ℕ → Bool) (v : ℕ → ℕ) (n : ℕ) → length (named p v n) ≡ sum n (λ k. one (p k))
named_length p v n = length_cat n (λ k. pick (p k) (v k)) ∙ sum_ext n (λ k. length (pick (p k) (v k))) (λ k. one (p k)) (λ k b. length_pick (p k) (v k))

pub named_same : (p : ℕ → Bool) (v : ℕ → ℕ) (n : ℕ) → length (named p v n) ≡ length (picked p n)
named_same p v n = named_length p v n ∙ sym (named_length p (λ k. k) n)

-- ---- they rise

between_more : (b n : ℕ) (xs : List ℕ) → Between b n xs → Between b (suc n) xs
between_more b n [] h = tt
between_more b n (x ∷ xs) h = (h.0, omega (arith, h.1), between_more (suc x) n xs h.2)

between_snoc : (b n : ℕ) (xs : List ℕ) → Between b n xs → b ≤ n → Between b (suc n) (xs ++ (n ∷ []))
between_snoc b n [] h l = (l, omega arith, tt)
between_snoc b n (x ∷ xs) h l = (h.0, omega (arith, h.1), between_snoc (suc x) n xs h.2 (omega (arith, h.1)))

pub picked_rise : (p : ℕ → Bool) (n : ℕ) → Between 0 n (picked p n)
unfolding cat
picked_rise p zero = tt
picked_rise p (suc n) = go (p n) (picked_rise p n)
  where
    go : (t : Bool) → Between 0 n (picked p n) → Between 0 (suc n) (picked p n ++ pick t n)
    go true h = between_snoc 0 n (picked p n) h (omega arith)
    go false h = subst (λ (xs : List ℕ). Between 0 (suc n) xs) (sym (append-nil (picked p n))) (between_more 0 n (picked p n) h)

-- ---- which they are

picked_above : (p : ℕ → Bool) (n j : ℕ) → n ≤ j → has (picked p n) j ≡ false
unfolding cat
picked_above p zero j h = unfold has in refl
picked_above p (suc n) j h = has_append (picked p n) (pick (p n) n) j ∙ ap₂ ◌||◌ (picked_above p n j (omega arith)) (has_other (p n) n j (λ e. omega arith))

pub picked_has : (p : ℕ → Bool) (n j : ℕ) → j < n → has (picked p n) j ≡ p j
unfolding cat
picked_has p zero j h = absurd (omega arith)
picked_has p (suc n) j h = has_append (picked p n) (pick (p n) n) j ∙ go (ℕ_discrete j n) (picked_has p n j)
  where
    go : Dec (j ≡ n) → (j < n → has (picked p n) j ≡ p j) → has (picked p n) j || has (pick (p n) n) j ≡ p j
    go (yes e) ih = ap₂ ◌||◌ (picked_above p n j (omega arith)) (ap (has (pick (p n) n)) e ∙ has_self (p n) n ∙ ap p (sym e))
    go (no e) ih = ap₂ ◌||◌ (ih (omega arith)) (has_other (p n) n j e) ∙ or_nil (p j)

-- ---- one of them, and the first

pub named_at : (p : ℕ → Bool) (v : ℕ → ℕ) (n t : ℕ) → t < length (picked p n) → get_or (named p v n) t 0 ≡ v (get_or (picked p n) t 0)
unfolding cat
named_at p v zero t l = absurd (omega arith)
named_at p v (suc n) t l = go (p n) l (named_at p v n t)
  where
    xs : List ℕ
    xs = picked p n

    ys : List ℕ
    ys = named p v n

    go : (c : Bool) → t < length (xs ++ pick c n) → (t < length xs → get_or ys t 0 ≡ v (get_or xs t 0)) → get_or (ys ++ pick c (v n)) t 0 ≡ v (get_or (xs ++ pick c n) t 0)
    go false l ih =
        ap (λ (u : List ℕ). get_or u t 0) (append-nil ys)
        ∙ ih (subst (λ (u : List ℕ). t < length u) (append-nil xs) l)
        ∙ ap (λ (u : List ℕ). v (get_or u t 0)) (sym (append-nil xs))
    go true l ih = by (dec_lt t (length xs))
      where
        by : Dec (t < length xs) → get_or (ys ++ (v n ∷ [])) t 0 ≡ v (get_or (xs ++ (n ∷ [])) t 0)
        by (yes b) = get_or-append ys (v n ∷ []) 0 t (omega (arith, named_same p v n)) ∙ ih b ∙ ap v (sym (get_or-append xs (n ∷ []) 0 t b))
        by (no b) =
            let e : length xs ≡ t = omega (arith, length-append xs (n ∷ [])) in
            get_or_at ys (v n) [] 0 t (named_same p v n ∙ e) ∙ ap v (sym (get_or_at xs n [] 0 t e))

none_named : (p : ℕ → Bool) (v : ℕ → ℕ) (n : ℕ) → ((k : ℕ) → k < n → p k ≡ false) → named p v n ≡ []
unfolding cat
none_named p v zero h = refl
none_named p v (suc n) h = rw (none_named p v n (λ k b. h k (omega arith)), h n (omega arith)) refl

-- the first that passes, and those behind it
pub first_named : (p : ℕ → Bool) (v : ℕ → ℕ) (i n : ℕ) → i < n → p i ≡ true → ((k : ℕ) → k < i → p k ≡ false)
    → named p v n ≡ v i ∷ named (λ k. ltb i k && p k) v n
unfolding cat
first_named p v i zero h t f = absurd (omega arith)
first_named p v i (suc n) h t f = go (ℕ_discrete i n) (λ l. first_named p v i n l t f)
  where
    go : Dec (i ≡ n) → (i < n → named p v n ≡ v i ∷ named (λ k. ltb i k && p k) v n)
        → named p v n ++ pick (p n) (v n) ≡ v i ∷ (named (λ k. ltb i k && p k) v n ++ pick (ltb i n && p n) (v n))
    go (yes e) ih =
        let q : p n ≡ true = ap p (sym e) ∙ t in
        let x : named p v n ≡ [] = none_named p v n (λ k b. f k (omega arith)) in
        let y : named (λ k. ltb i k && p k) v n ≡ [] =
        none_named (λ k. ltb i k && p k) v n (λ k b. ap (λ (u : Bool). u && p k) (le-ltb i k (omega arith))) in
        let z : ltb i n ≡ false = le-ltb i n (omega arith) in
        rw (x, y, q, z) (ap (λ (k : ℕ). v k ∷ []) (sym e))
    go (no e) ih = let z : ltb i n ≡ true = lt-ltb i n (omega arith) in rw (ih (omega arith), z) refl
