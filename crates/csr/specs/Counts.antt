-- The counts E, S, D and the sizes W and F. Definitions only.
use Rattle.std.specs.Prelude.{◌≡◌, Bool, ◌&&◌, List, [], ◌∷◌, ℕ, suc, ◌+◌, ◌*◌}
use Rattle.std.proofs.Math.ListN.{length}
use Rattle.base.specs.Sums.{sum, one}
use Rattle.layout.specs.Layout.{working_size}
use Rattle.csr.specs.Pattern.{has, row, neighbours, stored}

-- how many numbers of the first list stand in the second
unfoldable pub common : List ℕ → List ℕ → ℕ
unfolding has
common [] ys = 0
common (x ∷ xs) ys = one (has ys x) + common xs ys

module _ (off cols : List ℕ) where
  unfoldable pub is_stored : ℕ → ℕ → Bool
  unfolding stored neighbours
  is_stored i j = stored (neighbours off cols) i j

  unfoldable pub count_e : ℕ → ℕ
  unfolding sum is_stored
  count_e m = sum m (λ i. sum (suc i) (λ j. one (is_stored i j)))

  unfoldable pub count_s : ℕ → ℕ
  unfolding sum row common
  count_s m = sum m (λ i. sum (suc i) (λ j. common (row off cols i) (row off cols j)))

  unfoldable pub count_d : ℕ → ℕ
  unfolding sum is_stored
  count_d m = sum m (λ i. sum (suc i) (λ j. sum j (λ k. one (is_stored i k && is_stored j k))))

  unfoldable pub size_w : ℕ → ℕ → ℕ
  unfolding count_e count_s count_d
  size_w m n = 5 * count_e m + 3 * count_s m + 2 * count_d m + 3 * m + n + 2 * length cols + 5

  unfoldable pub size_f : ℕ → ℕ → ℕ → ℕ
  unfolding count_e
  size_f m n s = working_size 4 m n s (count_e m)

  -- these are E, S and D
  pub record Counted (m E S D : ℕ) : Type 0 where
    pub stored : E ≡ count_e m
    pub shared : S ≡ count_s m
    pub products : D ≡ count_d m
