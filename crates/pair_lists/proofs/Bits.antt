-- What the pattern's bits hold, and what they count. Assumes nothing.
use mathlib.Core.Path.{◌≡◌, sym, ap, ap₂, ◌∙◌}
use mathlib.Core.Bool.{Bool, ◌&&◌}
use mathlib.Core.List.{List}
use Prim.Native.Nat.{ℕ, ◌+◌, ◌<◌, ◌≤◌}
use native.Mathlib.Omega.{arith}
use Rattle.base.specs.Sums.{sum, one}
use Rattle.base.proofs.Sums.{sum_ext}
use Rattle.csr.specs.Pattern.{stored, neighbours}
use Rattle.csr.specs.Counts.{is_stored}
use Rattle.pattern.specs.Word.{bit}
use Rattle.pattern.specs.Ready.{Ready}
use Rattle.pattern.proofs.Whole.{both_count}
use Rattle.lists.specs.Lists.{shape, weight}
use Rattle.lists.specs.declared.Which.TheVariants.{LdecompIndptr}
use Rattle.lists.proofs.Counts.{held_stored}

module _ (off cols : List ℕ) (m : ℕ) (p : List ℕ) (ready : Ready off cols m p) where
  pub bit_held : (i j : ℕ) → i < m → j < 256 → bit p i j ≡ (shape off cols).held i j
  unfolding is_stored
  bit_held i j h l = ready.rows i h j l

  -- the ones that rows i and j have in common: what D counts at (i, j), and (i, j)
  pub both_weight : (i j : ℕ) → i < m → j ≤ i
      → sum 256 (λ k. one (bit p i k && bit p j k)) ≡ weight (shape off cols) LdecompIndptr i j + one (bit p i j)
  unfolding weight
  both_weight i j h l =
      both_count (neighbours off cols) p i j (omega (arith, ready.csr.few)) l (ready.rows i h) (ready.rows j (omega arith))
      ∙ ap₂ ◌+◌
      (sum_ext j (λ k. one (stored (neighbours off cols) i k && stored (neighbours off cols) j k)) (λ k. one ((shape off cols).held i k && (shape off cols).held j k))
      (λ k n. sym (ap₂ (λ (s t : Bool). one (s && t)) (held_stored off cols i k (omega arith)) (held_stored off cols j k (omega arith)))))
      (ap one (sym (bit_held i j h (omega (arith, ready.csr.few)) ∙ held_stored off cols i j l)))
