-- The factor's rows share D + E columns. Assumes nothing.
use mathlib.Core.Path.{◌≡◌, refl, sym, ap, ap₂, ◌∙◌}
use mathlib.Core.Bool.{Bool, true, false, ◌&&◌}
use mathlib.Core.List.{List, [], ◌∷◌, ◌++◌}
use Prim.Native.Nat.{ℕ, zero, suc, ◌+◌, ◌<◌}
use native.Mathlib.Omega.{arith}
use native.Mathlib.Decide.{dec_lt}
use borrow.Author.Tests.{lt-leb}
use Rattle.csr.specs.Pattern.{has, row, stored, neighbours}
use Rattle.base.specs.Sums.{sum, one}
use Rattle.csr.specs.Counts.{common, count_e, count_s, count_d}
use Rattle.pattern.specs.Word.{bit}
use Rattle.base.proofs.Sums.{sum_ext, sum_cut}
use Rattle.pattern.proofs.Whole.{count_d_lem}
use Rattle.base.specs.Cat.{cat, pick}
use Rattle.pattern.specs.Ready.{Ready}
use Rattle.pair_lists.specs.Kept.{kept, Rows}
use Rattle.pair_lists.proofs.Lists.{kept_has, kept_none}

common_join : (xs ys zs : List ℕ) → common (xs ++ ys) zs ≡ common xs zs + common ys zs
unfolding common
common_join [] ys zs = omega arith
common_join (x ∷ xs) ys zs = omega (arith, common_join xs ys zs)

common_pick : (t : Bool) (x : ℕ) (zs : List ℕ) → common (pick t x) zs ≡ one (t && has zs x)
unfolding common
common_pick true x zs = omega arith
common_pick false x zs = refl

common_kept : (h : ℕ → Bool) (n : ℕ) (zs : List ℕ) → common (kept h n) zs ≡ sum n (λ k. one (h k && has zs k))
unfolding kept cat sum common
common_kept h zero zs = refl
common_kept h (suc n) zs = common_join (kept h n) (pick (h n) n) zs ∙ ap₂ ◌+◌ (common_kept h n zs) (common_pick (h n) n zs)

module _ (off cols : List ℕ) (m : ℕ) (p lindptr lindices : List ℕ) (ready : Ready off cols m p) (v : Rows (bit p) lindptr lindices m) where
  -- past its diagonal a row holds nothing
  past : (i k : ℕ) → i < m → i < k → k < 256 → bit p i k ≡ false
  past i k hi l h = ready.rows i hi k h ∙ ap (λ (t : Bool). t && stored (neighbours off cols) i k) (lt-leb k i l)

  in_list : (j k : ℕ) → j < m → k < 256 → has (kept (bit p j) (j + 1)) k ≡ bit p j k
  in_list j k hj h = go (dec_lt k (j + 1))
    where
      go : Dec (k < j + 1) → has (kept (bit p j) (j + 1)) k ≡ bit p j k
      go (yes l) = kept_has (bit p j) (j + 1) k l
      go (no n) = kept_none (bit p j) (j + 1) k (omega arith) ∙ sym (past j k hj (omega arith) h)

  pair : (i j : ℕ) → i < m → j < m → common (row lindptr lindices i) (row lindptr lindices j) ≡ sum 256 (λ k. one (bit p i k && bit p j k))
  pair i j hi hj =
      ap₂ common (v.rows i hi) (v.rows j hj)
      ∙ common_kept (bit p i) (i + 1) (kept (bit p j) (j + 1))
      ∙ sym (sum_cut 256 (i + 1) (λ k. one (bit p i k && bit p j k)) (λ k. one (bit p i k && has (kept (bit p j) (j + 1)) k)) (omega (arith, v.few))
      (λ k l. ap (λ (t : Bool). one (bit p i k && t)) (sym (in_list j k hj (omega (arith, v.few)))))
      (λ k l h. ap (λ (t : Bool). one (t && bit p j k)) (past i k hi (omega arith) h)))

  -- THE FACTOR'S ROWS SHARE D + E
  pub factor_pairs : count_s lindptr lindices m ≡ count_d off cols m + count_e off cols m
  unfolding count_s
  factor_pairs =
      sum_ext m (λ i. sum (suc i) (λ j. common (row lindptr lindices i) (row lindptr lindices j))) (λ i. sum (suc i) (λ j. sum 256 (λ k. one (bit p i k && bit p j k))))
      (λ i l. sum_ext (suc i) (λ j. common (row lindptr lindices i) (row lindptr lindices j)) (λ j. sum 256 (λ k. one (bit p i k && bit p j k))) (λ j h. pair i j l (omega arith)))
      ∙ count_d_lem off cols p m v.few ready.rows

-- what pairs of rows share, of rows that are the same
pub pairs_as : {off off' cols cols' : List ℕ} {m m' n n' : ℕ} → (m ≡ m') × (n ≡ n') × (off ≡ off') × (cols ≡ cols') → count_s off cols m ≡ count_s off' cols' m'
pairs_as e = rw (e.0, e.2, e.3) refl
