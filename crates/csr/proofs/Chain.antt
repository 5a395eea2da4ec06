-- The chain theorem: what is stored is what has a chain. Assumes nothing.
use mathlib.Core.Path.{◌≡◌, refl, sym, ◌∙◌}
use mathlib.Core.Logic.{◌↔◌}
use mathlib.Core.Bool.{Bool, true, false, ◌||◌, false≢true}
use mathlib.Core.List.{List}
use Prim.Native.Nat.{ℕ, ◌<◌, ◌≤◌}
use native.Mathlib.Omega.{arith}
use native.Mathlib.Decide.{ℕ_discrete}
use borrow.Author.Tests.{ne_eqb, eq-eqb}
use lib.Dec.{eqb}
use Rattle.csr.specs.Pattern.{neighbours, stored}
use Rattle.csr.specs.Chain.{Chain}
use Rattle.csr.proofs.Rule.{stored_diag, off_diag}
use Rattle.csr.specs.Walks.{fill→walk, walk→fill, neighbours_sym}
use Rattle.csr.specs.Factor.{chain?, said, factor_has}

module _ (nb : ℕ → ℕ → Bool) (nb-sym : (i j : ℕ) → nb i j ≡ nb j i) where
  -- THE CHAIN THEOREM: below the diagonal, (i, j) is stored exactly when there is a chain from i to j
  pub stored↔chain : (i j : ℕ) → j < i → (stored nb i j ≡ true) ↔ Chain nb i j
  stored↔chain i j h = (λ e. fill→walk nb nb-sym j i j (sym (off_diag nb i j h) ∙ e), λ w. off_diag nb i j h ∙ walk→fill nb nb-sym j i j w)

module _ (off cols : List ℕ) where
  -- at and below the diagonal the factor has just what is stored
  pub factor_stored : (i j : ℕ) → j ≤ i → factor_has off cols i j ≡ stored (neighbours off cols) i j
  unfolding factor_has
  factor_stored i j h = go (ℕ_discrete i j)
    where
      nb : ℕ → ℕ → Bool
      nb = neighbours off cols

      below : j < i → (d : Dec (Chain nb i j)) (t : Bool) → stored nb i j ≡ t → said d ≡ t
      below l (yes w) true e = refl
      below l (yes w) false e = absurd (false≢true (sym e ∙ (stored↔chain nb (neighbours_sym off cols) i j l).1 w))
      below l (no n) true e = absurd (n ((stored↔chain nb (neighbours_sym off cols) i j l).0 e))
      below l (no n) false e = refl

      go : Dec (i ≡ j) → eqb i j || said (chain? nb (neighbours_sym off cols) i j) ≡ stored nb i j
      go (yes e) = rw (eq-eqb i j e) (sym (stored_diag nb i j e))
      go (no n) = rw (ne_eqb i j n) (below (omega arith) (chain? nb (neighbours_sym off cols) i j) (stored nb i j) refl)
