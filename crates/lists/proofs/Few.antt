-- How large E, S and D may be: a matrix has at most 256 rows and 16384 entries. Assumes nothing.
use mathlib.Core.Path.{◌≡◌, refl}
use mathlib.Core.Bool.{◌&&◌}
use mathlib.Core.List.{List}
use Prim.Native.Nat.{ℕ, suc, ◌+◌, ◌*◌, ◌≤◌}
use native.Mathlib.Omega.{arith}
use native.Mathlib.Nat.{mul-le-mul, mul-le-mul_left}
use native.Mathlib.Numerals.{add-one}
use lib.ListN.{length}
use Rattle.base.specs.Sums.{sum, one}
use Rattle.base.proofs.Sums.{sum_le, sum_more, sum_pairs, count_le}
use Rattle.csr.specs.Pattern.{row}
use Rattle.csr.specs.Csr.{Csr}
use Rattle.csr.specs.Counts.{common, is_stored, count_e, count_s, count_d}
use Rattle.csr.proofs.Has.{common_le, common_second}
use Rattle.csr.proofs.RowParts.{rows_le}

-- ---- pairs j ≤ i of m rows, and triples k < j ≤ i

pub pairs_16 : sum 16 suc ≡ 136
unfolding sum
pairs_16 = refl

pub pairs_256 : sum 256 suc ≡ 32896
unfolding sum
pairs_256 = refl

abbrev pub triples : ℕ → ℕ
triples m = sum m (λ i. sum (suc i) (λ j. j))

pub triples_16 : triples 16 ≡ 680
unfolding sum
triples_16 = refl

pub triples_256 : triples 256 ≡ 2796160
unfolding sum
triples_256 = refl

-- at most one entry for each pair of rows
pub stored_few : (off cols : List ℕ) (m : ℕ) → count_e off cols m ≤ sum m suc
unfolding count_e
stored_few off cols m = sum_le m (λ i. sum (suc i) (λ j. one (is_stored off cols i j))) suc (λ i b. count_le (suc i) (is_stored off cols i))

-- at most one product for each triple
pub products_few : (off cols : List ℕ) (m : ℕ) → count_d off cols m ≤ triples m
unfolding count_d
products_few off cols m =
    sum_le m (λ i. sum (suc i) (λ j. sum j (λ k. one (is_stored off cols i k && is_stored off cols j k)))) (λ i. sum (suc i) (λ j. j))
    (λ i b. sum_le (suc i) (λ j. sum j (λ k. one (is_stored off cols i k && is_stored off cols j k))) (λ j. j) (λ j d. count_le j (λ k. is_stored off cols i k && is_stored off cols j k)))

module _ (off cols : List ℕ) (m : ℕ) (ok : Csr off cols m) where
  -- two rows share at most half of the entries that they have together
  pub shared_few : 2 * count_s off cols m ≤ (m + 1) * length cols
  unfolding count_s
  shared_few =
      let pairs = sum_pairs m (λ i j. common (row off cols i) (row off cols j)) (λ i. length (row off cols i))
      (λ i j b d. omega (arith, common_le (row off cols i) (row off cols j), common_second (row off cols i) (row off cols j) (ok.rising i b))) in
      let all : sum m (λ i. length (row off cols i)) ≤ length cols = omega (arith, rows_le off cols m m ok (omega arith), ok.ends m (omega arith)) in
      rw add-one (omega (arith, pairs, mul-le-mul_left (suc m) all))

  pub few_stored : count_e off cols m ≤ 32896
  few_stored = omega (arith, stored_few off cols m, sum_more m 256 suc ok.few, pairs_256)

  pub few_shared : length cols ≤ 16384 → count_s off cols m ≤ 256 * (256 * 16384)
  few_shared short = let r : m + 1 ≤ 257 = omega (arith, ok.few) in omega (arith, shared_few, mul-le-mul r short)

  pub few_products : count_d off cols m ≤ 256 * (256 * 256)
  few_products = omega (arith, products_few off cols m, sum_more m 256 (λ i. sum (suc i) (λ j. j)) ok.few, triples_256)
