-- What the machine's factor has, read from chains.
-- Assumes nothing.
use Rattle.std.specs.Prelude.{◌≡◌, Bool, ◌||◌, List, ℕ, eqb}
use Rattle.std.proofs.Math.Path.{refl}
use Rattle.std.proofs.Common.{sym, ◌∙◌}
use Rattle.std.proofs.Math.Bool.{true, false, false≢true}
use Rattle.csr.specs.Pattern.{fill, neighbours}
use Rattle.csr.specs.Chain.{Chain}
use Rattle.csr.specs.Walks.{fill→walk, walk→fill, neighbours_sym}

module _ (nb : ℕ → ℕ → Bool) (nb-sym : (i j : ℕ) → nb i j ≡ nb j i) where
  -- is there a chain from i to j?
  unfoldable pub chain? : (i j : ℕ) → Dec (Chain nb i j)
  unfolding fill
  chain? i j = go (fill nb j i j) refl
    where
      go : (t : Bool) → fill nb j i j ≡ t → Dec (Chain nb i j)
      go true e = yes (fill→walk nb nb-sym j i j e)
      go false e = no (λ w. false≢true (sym e ∙ walk→fill nb nb-sym j i j w))

-- the machine's factor has (i, j): i = j, or there is a chain from i to j
abbrev pub said : {A : Type 0} → Dec A → Bool
said (yes a) = true
said (no n) = false

unfoldable pub factor_has : List ℕ → List ℕ → ℕ → ℕ → Bool
unfolding chain? neighbours
factor_has off cols i j = eqb i j || said (chain? (neighbours off cols) (neighbours_sym off cols) i j)
