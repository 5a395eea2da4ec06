-- That a list is below a bound, or rises, is a fact: it has no more than one proof.
use Prim.Native.Nat.{ℕ}
use mathlib.Core.Bool.{Bool}
use mathlib.Core.List.{List, [], ◌∷◌}
use mathlib.Core.HLevel.{×_prop}
use native.Mathlib.Bridge.{le_prop}
use native.Mathlib.Nat.{ℕ_set}
use mathlib.Core.Path.{◌≡◌}
use denote.Struct.Props.{≡_prop}
use Rattle.std.specs.Coded.{coded_ℕ, coded_bool, coded_list}
use Rattle.base.specs.Numbers.{Below, Under, Rising}

pub Below-prop : (b : ℕ) (l : List ℕ) → IsProp (Below b l)
Below-prop b [] = λ x y. λ i. x
Below-prop b (k ∷ ks) = ×_prop le_prop (Below-prop b ks)

pub Under-prop : (b : ℕ) (l : List ℕ) → IsProp (Under b l)
Under-prop b [] = λ x y. λ i. x
Under-prop b (k ∷ ks) = ×_prop le_prop (Under-prop b ks)

pub Rising-prop : (l : List ℕ) → IsProp (Rising l)
Rising-prop [] = λ x y. λ i. x
Rising-prop (x ∷ xs) = ×_prop (Under-prop x xs) (Rising-prop xs)

pub list_set : (a b : List ℕ) → IsProp (a ≡ b)
list_set a b = ≡_prop (coded_list coded_ℕ) a b

pub bool_set : (a b : Bool) → IsProp (a ≡ b)
bool_set a b = ≡_prop coded_bool a b

pub ruleset facts = (Below-prop, Rising-prop, le_prop, ℕ_set, bool_set, list_set)
