-- Laws of the numbers that a list has, and of those that two lists have in common. Assumes nothing.
use mathlib.Core.Path.{◌≡◌, refl, sym, ap, ◌∙◌}
use mathlib.Core.Logic.{◌⊎◌, inl, inr}
use mathlib.Core.Bool.{Bool, true, false, cond, ◌||◌, true≢false, false≢true}
use mathlib.Core.List.{List, [], ◌∷◌, ◌++◌}
use Prim.Native.Nat.{ℕ, zero, suc, ◌+◌, ◌<◌, ◌≤◌}
use native.Mathlib.Omega.{arith}
use native.Mathlib.Decide.{ℕ_discrete}
use lib.Dec.{eqb}
use lib.ListN.{length, get_or, take}
use borrow.Author.Tests.{ne_eqb, eq-eqb, eqb-true}
use Rattle.base.specs.Cat.{pick}
use Rattle.base.specs.Numbers.{find, Below, Under, Rising}
use Rattle.base.specs.Sums.{one}
use Rattle.base.proofs.Bools.{or_left, or_right, or_out, or_nil, or_assoc}
use Rattle.base.proofs.Numbers.{under_at}
use Rattle.base.proofs.Sums.{one_le}
use Rattle.csr.specs.Counts.{common}
use Rattle.csr.specs.Pattern.{has, shares}

-- ---- a number of a list

pub has_here : (y : ℕ) (ys : List ℕ) → has (y ∷ ys) y ≡ true
unfolding has
has_here y ys = or_left (eqb y y) (has ys y) (eq-eqb y y refl)

pub has_more : (y : ℕ) (ys : List ℕ) (x : ℕ) → has ys x ≡ true → has (y ∷ ys) x ≡ true
unfolding has
has_more y ys x e = or_right (eqb x y) (has ys x) e

pub has_at : (l : List ℕ) (q : ℕ) → q < length l → has l (get_or l q 0) ≡ true
has_at [] q b = absurd (omega arith)
has_at (x ∷ l) zero b = has_here x l
has_at (x ∷ l) (suc q) b = has_more x l (get_or l q 0) (has_at l q (omega arith))

pub has_append : (xs ys : List ℕ) (x : ℕ) → has (xs ++ ys) x ≡ has xs x || has ys x
unfolding has
has_append [] ys x = refl
has_append (y ∷ xs) ys x = ap (λ (t : Bool). eqb x y || t) (has_append xs ys x) ∙ sym (or_assoc (eqb x y) (has xs x) (has ys x))

pub has_last : (xs : List ℕ) (e x : ℕ) → has (xs ++ (e ∷ [])) x ≡ has xs x || eqb x e
unfolding has
has_last xs e x = has_append xs (e ∷ []) x ∙ ap (λ (t : Bool). has xs x || t) (or_nil (eqb x e))

pub has_self : (t : Bool) (x : ℕ) → has (pick t x) x ≡ t
unfolding has
has_self true x = rw (eq-eqb x x refl)
has_self false x = refl

pub has_other : (t : Bool) (x e : ℕ) → (e ≡ x → ⊥) → has (pick t x) e ≡ false
unfolding has
has_other true x e n = rw (ne_eqb e x n)
has_other false x e n = refl

-- ---- bounds

pub below_has : (n e : ℕ) (xs : List ℕ) → Below n xs → has xs e ≡ true → e < n
unfolding has
below_has n e [] b h = absurd (false≢true h)
below_has n e (x ∷ xs) b h = go (ℕ_discrete e x) (below_has n e xs b.1)
  where
    go : Dec (e ≡ x) → (has xs e ≡ true → e < n) → e < n
    go (yes q) ih = omega (arith, b.0)
    go (no q) ih = ih (sym (ap (λ (t : Bool). t || has xs e) (ne_eqb e x q)) ∙ h)

pub absent : (x : ℕ) (zs : List ℕ) → Under x zs → has zs x ≡ false
unfolding has
absent x [] h = refl
absent x (z ∷ zs) h = rw (ne_eqb x z (λ e. omega (arith, h.0))) (absent x zs h.1)

-- a rising list has its entry q not among those before it
pub not_before : (l : List ℕ) (q : ℕ) → Rising l → q < length l → has (take q l) (get_or l q 0) ≡ false
unfolding has
not_before [] q h b = absurd (omega arith)
not_before (x ∷ l) zero h b = refl
not_before (x ∷ l) (suc q) h b =
    let u : x < get_or l q 0 = under_at x l q h.0 (omega arith) in
    rw (ne_eqb (get_or l q 0) x (λ e. omega arith)) (not_before l q h.1 (omega arith))

-- ---- numbers in common

pub shares_out : (xs ys : List ℕ) → shares xs ys ≡ true → (e : ℕ) × (has xs e ≡ true) × (has ys e ≡ true)
unfolding shares
shares_out [] ys h = absurd (false≢true h)
shares_out (x ∷ xs) ys h = go (or_out (has ys x) (shares xs ys) h) (shares_out xs ys)
  where
    go : (has ys x ≡ true) ⊎ (shares xs ys ≡ true) → (shares xs ys ≡ true → (e : ℕ) × (has xs e ≡ true) × (has ys e ≡ true))
        → (e : ℕ) × (has (x ∷ xs) e ≡ true) × (has ys e ≡ true)
    go (inl t) ih = (x, has_here x xs, t)
    go (inr t) ih = let r = ih t in (r.0, has_more x xs r.0 r.1, r.2)

pub shares_in : (xs ys : List ℕ) (e : ℕ) → has xs e ≡ true → has ys e ≡ true → shares xs ys ≡ true
unfolding shares has
shares_in [] ys e h g = absurd (false≢true h)
shares_in (x ∷ xs) ys e h g = go (or_out (eqb e x) (has xs e) h) (shares_in xs ys e)
  where
    go : (eqb e x ≡ true) ⊎ (has xs e ≡ true) → (has xs e ≡ true → has ys e ≡ true → shares xs ys ≡ true) → has ys x || shares xs ys ≡ true
    go (inl t) ih = or_left (has ys x) (shares xs ys) (sym (ap (has ys) (eqb-true e x t)) ∙ g)
    go (inr t) ih = or_right (has ys x) (shares xs ys) (ih t g)

pub common_none : (xs ys : List ℕ) → shares xs ys ≡ false → common xs ys ≡ 0
unfolding shares common
common_none [] ys e = refl
common_none (x ∷ xs) ys e = go (has ys x) e (common_none xs ys)
  where
    go : (t : Bool) → t || shares xs ys ≡ false → (shares xs ys ≡ false → common xs ys ≡ 0) → one t + common xs ys ≡ 0
    go true e ih = absurd (true≢false e)
    go false e ih = omega (arith, ih e)

pub common_le : (xs ys : List ℕ) → common xs ys ≤ length xs
unfolding common
common_le [] ys = omega arith
common_le (x ∷ xs) ys = omega (arith, common_le xs ys, one_le (has ys x))

common_nil : (xs : List ℕ) → common xs [] ≡ 0
unfolding common has
common_nil [] = refl
common_nil (x ∷ xs) = omega (arith, common_nil xs)

-- a number more in the second list
common_more : (xs : List ℕ) (y : ℕ) (ys : List ℕ) → Rising xs → common xs (y ∷ ys) ≤ one (has xs y) + common xs ys
unfolding common has
common_more [] y ys h = omega arith
common_more (x ∷ xs) y ys h = go (ℕ_discrete x y) (common_more xs y ys h.1)
  where
    go : Dec (x ≡ y) → common xs (y ∷ ys) ≤ one (has xs y) + common xs ys → one (eqb x y || has ys x) + common xs (y ∷ ys) ≤ one (eqb y x || has xs y) + (one (has ys x) + common xs ys)
    go (yes e) ih = omega (arith, ih, one_le (eqb x y || has ys x), ap one (or_left (eqb y x) (has xs y) (eq-eqb y x (sym e))), ap one (sym (ap (has xs) e) ∙ absent x xs h.0))
    go (no e) ih = rw (ne_eqb x y e, ne_eqb y x (λ q. e (sym q))) (omega (arith, ih))

-- a rising list has each number of the second at most once
pub common_second : (xs ys : List ℕ) → Rising xs → common xs ys ≤ length ys
unfolding common
common_second xs [] h = omega (arith, common_nil xs)
common_second xs (y ∷ ys) h = omega (arith, common_more xs y ys h, common_second xs ys h, one_le (has xs y))

-- ---- where a number stands first

pub find_lt : (e : ℕ) (xs : List ℕ) → has xs e ≡ true → find e xs < length xs
unfolding has find
find_lt e [] h = absurd (false≢true h)
find_lt e (x ∷ xs) h = go (eqb e x) h (find_lt e xs)
  where
    go : (t : Bool) → t || has xs e ≡ true → (has xs e ≡ true → find e xs < length xs) → cond t 0 (suc (find e xs)) < suc (length xs)
    go true h ih = omega arith
    go false h ih = omega (arith, ih h)

pub find_in : (xs ys : List ℕ) (e : ℕ) → has xs e ≡ true → find e (xs ++ ys) ≡ find e xs
unfolding has find
find_in [] ys e q = absurd (false≢true q)
find_in (x ∷ xs) ys e q = go (eqb e x) (find_in xs ys e) q
  where
    go : (t : Bool) → (has xs e ≡ true → find e (xs ++ ys) ≡ find e xs) → t || has xs e ≡ true → cond t 0 (suc (find e (xs ++ ys))) ≡ cond t 0 (suc (find e xs))
    go true ih r = refl
    go false ih r = ap suc (ih r)

pub find_out : (xs ys : List ℕ) (e : ℕ) → has xs e ≡ false → find e (xs ++ ys) ≡ length xs + find e ys
unfolding has find
find_out [] ys e q = omega arith
find_out (x ∷ xs) ys e q = go (eqb e x) (find_out xs ys e) q
  where
    go : (t : Bool) → (has xs e ≡ false → find e (xs ++ ys) ≡ length xs + find e ys) → t || has xs e ≡ false → cond t 0 (suc (find e (xs ++ ys))) ≡ suc (length xs) + find e ys
    go true ih r = absurd (true≢false r)
    go false ih r = omega (arith, ih r)

pub find_one : (t : Bool) (x : ℕ) → t ≡ true → find x (pick t x) ≡ 0
unfolding find
find_one true x q = ap (λ (t : Bool). cond t 0 1) (eq-eqb x x refl)
find_one false x q = refl
