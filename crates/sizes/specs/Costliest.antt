-- The costliest pattern of m rows: one column shared by all. Definitions only.
use Rattle.std.specs.Prelude.{◌≡◌, List, [], ◌∷◌, ℕ, zero, suc, ◌+◌, ◌-◌, ◌*◌, ◌≤◌, replicate}
use Rattle.csr.specs.Counts.{count_e, count_d}

-- a, a + 1, .., of these n numbers
unfoldable pub up_from : ℕ → ℕ → List ℕ
up_from a zero = []
up_from a (suc n) = a ∷ up_from (suc a) n

-- m rows with one entry each, in column 0: the offsets 0 to m, and m columns
unfoldable pub one_offsets : ℕ → List ℕ
unfolding up_from
one_offsets m = up_from 0 (suc m)

unfoldable pub one_columns : ℕ → List ℕ
one_columns m = replicate m 0

-- 'E and D of the costliest pattern of m rows: one column shared by all'
unfoldable pub full_e : ℕ → ℕ
unfolding one_offsets one_columns count_e
full_e m = count_e (one_offsets m) (one_columns m) m

unfoldable pub full_d : ℕ → ℕ
unfolding one_offsets one_columns count_d
full_d m = count_d (one_offsets m) (one_columns m) m

-- 'It has m(m + 1)/2 entries and (m − 1)m(m + 1)/6 products, and no m-row matrix has more of either': no lists of m rows at all, accepted or not.
-- `costliest` of proofs/Most.antt, for every m
pub record Costliest (m : ℕ) : Type 0 where
  pub entries : 2 * full_e m ≡ m * (m + 1)
  pub products : 6 * full_d m ≡ (m - 1) * m * (m + 1)
  pub most_e : (off cols : List ℕ) → count_e off cols m ≤ full_e m
  pub most_d : (off cols : List ℕ) → count_d off cols m ≤ full_d m
