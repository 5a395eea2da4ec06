-- Parts of a list, places in it, and lists of numbers that are below a bound or rise. Definitions only.
use Rattle.std.specs.Prelude.{cond, Option, List, [], ◌∷◌, ℕ, suc, ◌+◌, ◌-◌, ◌<◌, ◌≤◌, eqb, ltb, get_or, take, drop, length}
use Rattle.std.specs.Bool.{then_some}

-- the elements from a to e - 1
abbrev pub cut {ℓ} : {A : Type ℓ} → ℕ → ℕ → List A → List A
cut a e xs = take (e - a) (drop a xs)

-- part i: the elements between offsets i and i + 1
abbrev pub span {ℓ} : {A : Type ℓ} → List ℕ → List A → ℕ → List A
span off xs i = cut (get_or off i 0) (get_or off (i + 1) 0) xs

-- offsets i and i + 1 are there and rise, and the part ends within a list of this size
pub record Part (off : List ℕ) (i size : ℕ) : Type 0 where
  pub here : i + 1 < length off
  pub rises : get_or off i 0 ≤ get_or off (i + 1) 0
  pub ends : get_or off (i + 1) 0 ≤ size

-- a number that is below n, or none
abbrev pub below : ℕ → ℕ → Option ℕ
below n i = then_some (ltb i n) i

-- where x stands first, or the length where it does not stand
unfoldable pub find : ℕ → List ℕ → ℕ
find x [] = 0
find x (y ∷ ys) = cond (eqb x y) 0 (suc (find x ys))

-- every number of the list is below b
abbrev pub Below : ℕ → List ℕ → Type 0
Below b [] = Unit {0}
Below b (k ∷ ks) = (k < b) × Below b ks

-- each number is below all that follow it
abbrev pub Under : ℕ → List ℕ → Type 0
Under x [] = Unit {0}
Under x (y ∷ ys) = (x < y) × Under x ys

abbrev pub Rising : List ℕ → Type 0
Rising [] = Unit {0}
Rising (x ∷ xs) = Under x xs × Rising xs
