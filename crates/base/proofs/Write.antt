-- Laws of lists joined and written. Assumes nothing.
use mathlib.Core.Path.{◌≡◌, refl, sym, ap, ap₂, ◌∙◌, subst}
use mathlib.Core.Bool.{Bool, true, false}
use mathlib.Core.List.{List, [], ◌∷◌, ◌++◌, append_assoc, append-nil}
use Prim.Native.Nat.{ℕ, zero, suc, ◌+◌, ◌-◌, ◌≤◌, ◌<◌}
use native.Mathlib.Omega.{arith}
use native.Mathlib.Numerals.{add-one}
use native.Mathlib.Decide.{ℕ_discrete}
use lib.ListN.{length, length-append, set}
use lib.Seq.{sets, length-sets}
use Rattle.base.specs.Sums.{sum, one}
use Rattle.base.specs.Cat.{cat, pick, pairs, Wrote}

-- ---- a list written in two parts

sets_at : (l : List ℕ) (i j : ℕ) (vs : List ℕ) → i ≡ j → sets l i vs ≡ sets l j vs
sets_at l i j vs e = ap (λ (k : ℕ). sets l k vs) e

pub sets_append : (l : List ℕ) (i : ℕ) (vs ws : List ℕ) → sets l i (vs ++ ws) ≡ sets (sets l i vs) (i + length vs) ws
sets_append l i [] ws = sets_at l i (i + 0) ws (omega arith)
sets_append l i (v ∷ vs) ws =
    sets_append (set l i v) (suc i) vs ws ∙ sets_at (sets (set l i v) (suc i) vs) (suc i + length vs) (i + suc (length vs)) ws (omega arith)

pub wrote_none : (l : List ℕ) (at : ℕ) → Wrote l l at [] at
wrote_none l at = record { is = refl; next = omega arith }

pub wrote_join : (a b c : List ℕ) (at r s : ℕ) (vs ws : List ℕ) → Wrote a b at vs r → Wrote b c r ws s → Wrote a c at (vs ++ ws) s
wrote_join a b c at r s vs ws p q = record {
  is = q.is ∙ ap₂ (λ (x : List ℕ) (k : ℕ). sets x k ws) p.is p.next ∙ sym (sets_append a at vs ws);
  next = omega (arith, p.next, q.next, length-append vs ws);
}

pub wrote_as : (a b : List ℕ) (at r : ℕ) (vs ws : List ℕ) → vs ≡ ws → Wrote a b at vs r → Wrote a b at ws r
wrote_as a b at r vs ws e p = subst (λ (l : List ℕ). Wrote a b at l r) e p

pub wrote_length : (a b : List ℕ) (at r : ℕ) (vs : List ℕ) → Wrote a b at vs r → length b ≡ length a
wrote_length a b at r vs p = ap length p.is ∙ length-sets a at vs

-- the same, where the lists are found
pub then_written : {a b c : List ℕ} {at r s : ℕ} {t u : List ℕ} → Wrote a b at t r → Wrote b c r u s → Wrote a c at (t ++ u) s
then_written p q = wrote_join _ _ _ _ _ _ _ _ p q

pub same_text : {a b : List ℕ} {at r : ℕ} {t u : List ℕ} → t ≡ u → Wrote a b at t r → Wrote a b at u r
same_text e p = wrote_as _ _ _ _ _ _ e p

pub same_long : {a b : List ℕ} {at r : ℕ} {t : List ℕ} → Wrote a b at t r → length b ≡ length a
same_long p = wrote_length _ _ _ _ _ p

-- ---- joined lists

pub cat_next : (n : ℕ) (f : ℕ → List ℕ) → cat (n + 1) f ≡ cat n f ++ f n
unfolding cat
cat_next n f = ap (λ (k : ℕ). cat k f) (add-one n)

pub cat_ext : (n : ℕ) (f g : ℕ → List ℕ) → ((k : ℕ) → k < n → f k ≡ g k) → cat n f ≡ cat n g
unfolding cat
cat_ext zero f g h = refl
cat_ext (suc n) f g h = ap₂ ◌++◌ (cat_ext n f g (λ k l. h k (omega arith))) (h n (omega arith))

-- the first lists of a longer row of lists are its first part
pub cat_add : (a b : ℕ) (f : ℕ → List ℕ) → cat (a + b) f ≡ cat a f ++ cat b (λ k. f (a + k))
unfolding cat
cat_add a zero f = let e : a + 0 ≡ a = omega arith in ap (λ (n : ℕ). cat n f) e ∙ sym (append-nil (cat a f))
cat_add a (suc b) f =
    let e : a + suc b ≡ suc (a + b) = omega arith in
    ap (λ (n : ℕ). cat n f) e
    ∙ ap (λ (l : List ℕ). l ++ f (a + b)) (cat_add a b f)
    ∙ append_assoc (cat a f) (cat b (λ k. f (a + k))) (f (a + b))

-- one of joined lists, with those before it and those behind it
pub cat_split : (n i : ℕ) (f : ℕ → List ℕ) → i < n → cat n f ≡ cat i f ++ (f i ++ cat (n - suc i) (λ k. f (suc i + k)))
unfolding cat
cat_split n i f h =
    let e : n ≡ suc i + (n - suc i) = omega arith in
    ap (λ (k : ℕ). cat k f) e
    ∙ cat_add (suc i) (n - suc i) f
    ∙ append_assoc (cat i f) (f i) (cat (n - suc i) (λ k. f (suc i + k)))

pub length_cat : (n : ℕ) (f : ℕ → List ℕ) → length (cat n f) ≡ sum n (λ k. length (f k))
unfolding cat sum
length_cat zero f = refl
length_cat (suc n) f = length-append (cat n f) (f n) ∙ ap (λ (k : ℕ). k + length (f n)) (length_cat n f)

-- lists of one number each
pub singles_length : (n : ℕ) (f : ℕ → ℕ) → length (cat n (λ k. f k ∷ [])) ≡ n
unfolding cat
singles_length zero f = refl
singles_length (suc n) f = length-append (cat n (λ k. f k ∷ [])) (f n ∷ []) ∙ omega (arith, singles_length n f)

pub cat_room : (m i : ℕ) (f : ℕ → List ℕ) → i < m → length (cat i f) + length (f i) ≤ length (cat m f)
unfolding cat
cat_room zero i f h = absurd (omega arith)
cat_room (suc m) i f h = go (ℕ_discrete i m) (cat_room m i f)
  where
    go : Dec (i ≡ m) → (i < m → length (cat i f) + length (f i) ≤ length (cat m f)) → length (cat i f) + length (f i) ≤ length (cat m f ++ f m)
    go (yes e) ih = omega (arith, length-append (cat m f) (f m), ap (λ (k : ℕ). length (cat k f) + length (f k)) e)
    go (no n) ih = omega (arith, length-append (cat m f) (f m), ih (omega arith))

pub length_pick : (t : Bool) (x : ℕ) → length (pick t x) ≡ one t
length_pick true x = refl
length_pick false x = refl

pub pairs_next : (m : ℕ) (f : ℕ → ℕ → List ℕ) → pairs (m + 1) f ≡ pairs m f ++ cat (m + 1) (λ j. f m j)
unfolding pairs
pairs_next m f = cat_next m (λ i. cat (suc i) (λ j. f i j)) ∙ ap (λ (k : ℕ). pairs m f ++ cat k (λ j. f m j)) (sym (add-one m))

pub pairs_room : (m i j : ℕ) (f : ℕ → ℕ → List ℕ) → i < m → j ≤ i
    → length (pairs i f) + (length (cat j (λ b. f i b)) + length (f i j)) ≤ length (pairs m f)
unfolding pairs
pairs_room m i j f h l = omega (arith, cat_room m i (λ a. cat (suc a) (λ b. f a b)) h, cat_room (suc i) j (λ b. f i b) (omega arith))

-- what holds of the values of an arm holds of the joined values
pub joined : (P : List ℕ → ℕ → ℕ → Type 0) {x y : List ℕ} {s t : ℕ} {n k : ℕ} → x ≡ y → s ≡ t → n ≡ k → P y t k → P x s n
joined P {x} {y} {s} {t} {n} {k} e f g h = subst (λ (z : List ℕ). P z s n) (sym e) (subst (λ (z : ℕ). P y z n) (sym f) (subst (λ (z : ℕ). P y t z) (sym g) h))
