-- What two rising rows share. Assumes nothing.
use mathlib.Core.Path.{◌≡◌, refl, ap}
use mathlib.Core.Bool.{Bool, true, false}
use mathlib.Core.List.{List, [], ◌∷◌, ◌++◌}
use Prim.Native.Nat.{ℕ, ◌+◌, ◌<◌}
use native.Mathlib.Omega.{arith}
use lib.ListN.{length}
use borrow.Author.Tests.{ne_eqb, eq-eqb}
use Rattle.csr.specs.Pattern.{has}
use Rattle.csr.specs.Counts.{common}
use Rattle.base.specs.Sums.{one}
use Rattle.base.specs.Numbers.{Under}
use Rattle.base.specs.Cat.{pick}
use Rattle.lists.specs.Lists.{both}
use Rattle.base.proofs.Numbers.{under_trans}
use Rattle.csr.proofs.Has.{absent}

skip : (y : ℕ) (zs ys : List ℕ) → Under y zs → both zs (y ∷ ys) ≡ both zs ys
unfolding both has
skip y [] ys h = refl
skip y (z ∷ zs) ys h = rw (ne_eqb z y (λ e. omega (arith, h.0))) (ap (λ (l : List ℕ). pick (has ys z) z ++ l) (skip y zs ys h.1))

pub both_eq : (x : ℕ) (xs ys : List ℕ) → Under x xs → both (x ∷ xs) (x ∷ ys) ≡ x ∷ both xs ys
unfolding both has
both_eq x xs ys h = rw (eq-eqb x x refl) (ap (λ (l : List ℕ). x ∷ l) (skip x xs ys h))

pub both_lt : (x : ℕ) (xs : List ℕ) (y : ℕ) (ys : List ℕ) → x < y → Under y ys → both (x ∷ xs) (y ∷ ys) ≡ both xs (y ∷ ys)
unfolding both
both_lt x xs y ys l h = ap (λ (t : Bool). pick t x ++ both xs (y ∷ ys)) (absent x (y ∷ ys) (l, under_trans x y ys l h))

pub both_gt : (x : ℕ) (xs : List ℕ) (y : ℕ) (ys : List ℕ) → y < x → Under x xs → both (x ∷ xs) (y ∷ ys) ≡ both (x ∷ xs) ys
both_gt x xs y ys l h = skip y (x ∷ xs) ys (l, under_trans y x xs l h)

pub both_nil : (xs : List ℕ) → both xs [] ≡ []
unfolding both has
both_nil [] = refl
both_nil (x ∷ xs) = both_nil xs

pub length_both : (xs ys : List ℕ) → length (both xs ys) ≡ common xs ys
unfolding both common
length_both [] ys = refl
length_both (x ∷ xs) ys = go (has ys x) (length_both xs ys)
  where
    go : (t : Bool) → length (both xs ys) ≡ common xs ys → length (pick t x ++ both xs ys) ≡ one t + common xs ys
    go true ih = omega (arith, ih)
    go false ih = omega (arith, ih)
