-- The lane's arithmetic of document 01: each operation rounds once, to nearest even, and is never fused. Definitions only.
use Rattle.std.specs.Prelude.{false, cond, List, ℕ, pos, Float}
use Rattle.std.specs.Float.{nan, inf, fin, binary64}
use Rattle.std.specs.Float.Ieee.{add, sub, mul, div, lt, of_int}
use Rattle.root.specs.Root.{root}
use Rattle.lanes.specs.Lists.{at, fold}

infixl 60 ◌⊕◌ ◌⊖◌
infixl 70 ◌⊗◌ ◌⊘◌
abbrev pub ◌⊕◌ : Float → Float → Float
p ⊕ q = add binary64 p q

abbrev pub ◌⊖◌ : Float → Float → Float
p ⊖ q = sub binary64 p q

abbrev pub ◌⊗◌ : Float → Float → Float
p ⊗ q = mul binary64 p q

abbrev pub ◌⊘◌ : Float → Float → Float
p ⊘ q = div binary64 p q

abbrev pub √ : Float → Float
√ p = root binary64 p

-- the whole number n
abbrev pub whole : ℕ → Float
whole n = of_int binary64 (pos n)

abbrev pub null : Float
null = whole 0

abbrev pub one : Float
one = whole 1

-- q where q > p, else p
unfoldable pub larger : Float → Float → Float
unfolding lt
larger p q = cond (lt p q) q p

-- q where q < p, else p
unfoldable pub smaller : Float → Float → Float
unfolding lt
smaller p q = cond (lt q p) q p

-- the absolute value
unfoldable pub magnitude : Float → Float
magnitude nan = nan
magnitude (inf s) = inf false
magnitude (fin s m e) = fin false m e

-- sums start at +0.0, index rising
unfoldable pub Σ : ℕ → (ℕ → Float) → Float
unfolding fold
Σ n f = fold n (λ k v. v ⊕ f k) null

-- the root of the sum of squares of a list's first n
unfoldable pub norm : ℕ → List Float → Float
unfolding Σ root
norm n v = √ (Σ n (λ k. at v k ⊗ at v k))
