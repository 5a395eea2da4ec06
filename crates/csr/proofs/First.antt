-- The first number below m at which p holds, and a search for it. Assumes nothing.
use Rattle.std.specs.Prelude.{Some, None}
use Rattle.std.specs.Bool.{then_some}
use mathlib.Core.Path.{◌≡◌, refl, sym, ◌∙◌, ap, ap₂}
use mathlib.Core.Bool.{Bool, true, false, cond, true≢false}
use Prim.Native.Nat.{ℕ, zero, suc, ◌+◌, ◌≤◌, ◌<◌}
use native.Mathlib.Omega.{arith}
use borrow.Author.Tests.{lt-ltb, le-ltb, ltb-false}
use native.Mathlib.Decide.{dec_lt}
use Rattle.base.specs.Numbers.{below}
use lib.Dec.{ltb}
use Rattle.csr.specs.Questions.{first_from}

-- where the search comes to the end, p holds at no number on the way
AllFalse : (ℕ → Bool) → ℕ → Type 0
AllFalse p f = (i k : ℕ) → i + f ≤ first_from p i f → i ≤ k → k < i + f → p k ≡ false

at_one : (p : ℕ → Bool) (f i k : ℕ) → AllFalse p f → (b : Bool) → p i ≡ b → i + suc f ≤ cond b i (first_from p (suc i) f) → Dec (i < k) → i ≤ k → k < i + suc f → p k ≡ false
unfolding AllFalse
at_one p f i k ih true e h d l u = absurd (omega arith)
at_one p f i k ih false e h (yes q) l u = ih (suc i) k (omega arith) (omega arith) (omega arith)
at_one p f i k ih false e h (no q) l u = let s : k ≡ i = omega arith in ap p s ∙ e

all_false : (p : ℕ → Bool) (f : ℕ) → AllFalse p f
unfolding AllFalse first_from
all_false p zero i k h l u = absurd (omega arith)
all_false p (suc f) i k h l u = at_one p f i k (all_false p f) (p i) refl h (dec_lt i k) l u

pub none_below : (p : ℕ → Bool) (m k : ℕ) → ltb (first_from p 0 m) m ≡ false → k < m → p k ≡ false
unfolding AllFalse
none_below p m k h l = all_false p m 0 k (omega (arith, ltb-false (first_from p 0 m) m h)) (omega arith) (omega arith)

first_end : (p : ℕ → Bool) (i f : ℕ) → ((k : ℕ) → i ≤ k → k < i + f → p k ≡ false) → first_from p i f ≡ i + f
unfolding first_from
first_end p i zero h = omega arith
first_end p i (suc f) h = rw (h i (omega arith) (omega arith)) (first_end p (suc i) f (λ k a b. h k (omega arith) (omega arith)) ∙ omega arith)

-- p holds at no number below m
pub first_none : (p : ℕ → Bool) (m : ℕ) → ((k : ℕ) → k < m → p k ≡ false) → ltb (first_from p 0 m) m ≡ false
first_none p m h = le-ltb (first_from p 0 m) m (omega (arith, first_end p 0 m (λ k a b. h k (omega arith))))

-- p holds at one
pub first_some : (p : ℕ → Bool) (m i : ℕ) → i < m → p i ≡ true → ltb (first_from p 0 m) m ≡ true
first_some p m i l e = go (ltb (first_from p 0 m) m) refl
  where
    go : (t : Bool) → ltb (first_from p 0 m) m ≡ t → ltb (first_from p 0 m) m ≡ true
    go true q = q
    go false q = absurd (true≢false (sym e ∙ none_below p m i q l))

-- two tests that agree below m
first_same : (p q : ℕ → Bool) (i f : ℕ) → ((k : ℕ) → i ≤ k → k < i + f → p k ≡ q k) → first_from p i f ≡ first_from q i f
unfolding first_from
first_same p q i zero h = refl
first_same p q i (suc f) h = ap₂ (λ (t : Bool) (r : ℕ). cond t i r) (h i (omega arith) (omega arith)) (first_same p q (suc i) f (λ k a b. h k (omega arith) (omega arith)))

pub first_ext : (p q : ℕ → Bool) (m : ℕ) → ((k : ℕ) → k < m → p k ≡ q k) → first_from p 0 m ≡ first_from q 0 m
first_ext p q m h = first_same p q 0 m (λ k a b. h k (omega arith))

-- ---- a search that answers the number, or none

first_at : (p : ℕ → Bool) (i f k : ℕ) → ((j : ℕ) → i ≤ j → j < k → p j ≡ false) → i ≤ k → k < i + f → p k ≡ true → first_from p i f ≡ k
unfolding first_from
first_at p i zero k h l u e = absurd (omega arith)
first_at p i (suc f) k h l u e =
    elim (dec_lt i k) [
      | yes q ↦ rw (h i (omega arith) q) (first_at p (suc i) f k (λ j a b. h j (omega arith) b) (omega arith) (omega arith) e)
      | no q ↦ let s : i ≡ k = omega arith in rw (ap p s ∙ e) s
    ]

-- p holds at i, and at no number before it: the search answers i
pub found_some : (p : ℕ → Bool) (m i : ℕ) → i < m → ((j : ℕ) → j < i → p j ≡ false) → p i ≡ true → Some i ≡ below m (first_from p 0 m)
found_some p m i l h e = rw (first_at p 0 m i (λ j a b. h j b) (omega arith) (omega arith) e, lt-ltb i m l) refl

-- p holds at no number below m: the search answers none
pub found_none : (p : ℕ → Bool) (m : ℕ) → ((k : ℕ) → k < m → p k ≡ false) → None ≡ below m (first_from p 0 m)
found_none p m h = rw (first_none p m h) refl

-- the two ways to read an answer
pub below_some : (m e i : ℕ) → Some i ≡ below m e → (e ≡ i) × (ltb i m ≡ true)
below_some m e i h = go (ltb e m) refl
  where
    go : (t : Bool) → ltb e m ≡ t → (e ≡ i) × (ltb i m ≡ true)
    go true q = let z : Some i ≡ Some e = h ∙ ap (λ (t : Bool). then_some t e) q in let s : i ≡ e = cc in (sym s, ap (λ (k : ℕ). ltb k m) s ∙ q)
    go false q = let z : Some i ≡ None = h ∙ ap (λ (t : Bool). then_some t e) q in cc

pub below_none : (m e : ℕ) → None ≡ below m e → ltb e m ≡ false
below_none m e h = go (ltb e m) refl
  where
    go : (t : Bool) → ltb e m ≡ t → ltb e m ≡ false
    go true q = let z : None ≡ Some e = h ∙ ap (λ (t : Bool). then_some t e) q in cc
    go false q = q
