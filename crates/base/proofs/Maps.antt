-- Laws of a list's elements each replaced. Assumes nothing.
use mathlib.Core.Path.{◌≡◌, refl, ap, ◌∙◌}
use mathlib.Core.Bool.{Bool, true, false}
use mathlib.Core.List.{List, [], ◌∷◌, ◌++◌, map}
use Prim.Native.Nat.{ℕ, zero, suc}
use Rattle.base.specs.Cat.{cat, pick}

pub map_join : (h : ℕ → ℕ) (xs ys : List ℕ) → map h (xs ++ ys) ≡ map h xs ++ map h ys
map_join h [] ys = refl
map_join h (x ∷ xs) ys = ap (λ (l : List ℕ). h x ∷ l) (map_join h xs ys)

pub map_self : (xs : List ℕ) → map (λ e. e) xs ≡ xs
map_self [] = refl
map_self (x ∷ xs) = ap (λ (l : List ℕ). x ∷ l) (map_self xs)

pub map_pick : (h : ℕ → ℕ) (t : Bool) (x : ℕ) → map h (pick t x) ≡ pick t (h x)
map_pick h true x = refl
map_pick h false x = refl

pub map_cat : (h : ℕ → ℕ) (n : ℕ) (f : ℕ → List ℕ) → map h (cat n f) ≡ cat n (λ k. map h (f k))
unfolding cat
map_cat h zero f = refl
map_cat h (suc n) f = map_join h (cat n f) (f n) ∙ ap (λ (l : List ℕ). l ++ map h (f n)) (map_cat h n f)
