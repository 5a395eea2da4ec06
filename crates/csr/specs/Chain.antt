-- The chain rule, and the rule of `stored` as it is read. Definitions only.
use Rattle.std.specs.Prelude.{◌≡◌, ◌⊎◌, ◌↔◌, Bool, true, List, [], ◌∷◌, ℕ, ◌<◌, ◌≤◌}
use Rattle.base.specs.Numbers.{Below}
use Rattle.csr.specs.Pattern.{stored}

-- each row a neighbour of the next, from i through the rows between to j
abbrev pub Linked : (ℕ → ℕ → Bool) → ℕ → List ℕ → ℕ → Type 0
Linked nb i [] j = nb i j ≡ true
Linked nb i (k ∷ ks) j = (nb i k ≡ true) × Linked nb k ks j

-- rows from i to j, each a neighbour of the next, those strictly between the ends below b
pub record Walk (nb : ℕ → ℕ → Bool) (b i j : ℕ) : Type 0 where
  pub between : List ℕ
  pub linked : Linked nb i between j
  pub below : Below b between

-- a chain from i to j: the rows strictly between the ends are below j
abbrev pub Chain : (ℕ → ℕ → Bool) → ℕ → ℕ → Type 0
Chain nb i j = Walk nb j i j

-- ---- the rule of `stored`, as it is read

-- (i, k) and (j, k) are stored, and k is below b
abbrev pub Meets : (ℕ → ℕ → Bool) → ℕ → ℕ → ℕ → Type 0
Meets nb b i j = (k : ℕ) × (k < b) × (stored nb i k ≡ true) × (stored nb j k ≡ true)

-- (i, j), j ≤ i, is stored exactly when i = j, or i and j are neighbours, or some k < j has (i, k) and (j, k) stored: proofs/Rule.antt
abbrev pub StoredRule : (ℕ → ℕ → Bool) → Type 0
StoredRule nb = (i j : ℕ) → j ≤ i → (stored nb i j ≡ true) ↔ ((i ≡ j) ⊎ ((nb i j ≡ true) ⊎ Meets nb j i j))
