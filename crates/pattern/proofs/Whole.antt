-- Laws of the whole pattern and of its counts. Assumes nothing.
use mathlib.Core.Path.{◌≡◌, refl, sym, ap, ap₂, ◌∙◌}
use mathlib.Core.Bool.{Bool, false, ◌&&◌}
use mathlib.Core.List.{List}
use Prim.Native.Nat.{ℕ, zero, suc, ◌+◌, ◌*◌, ◌/◌, ◌%◌, ◌<◌, ◌≤◌}
use native.Mathlib.Omega.{arith}
use native.Mathlib.Decide.{dec_lt}
use lib.Dec.{leb, ltb}
use lib.ListN.{length, get_or, replicate}
use borrow.Author.Tests.{le-leb, lt-leb, lt-ltb, le-ltb}
use Rattle.csr.specs.Pattern.{stored, neighbours}
use Rattle.csr.specs.Csr.{Csr}
use Rattle.csr.specs.Questions.{max_entries}
use Rattle.csr.proofs.Rule.{stored_diag}
use Rattle.base.specs.Sums.{sum, one}
use Rattle.csr.specs.Counts.{is_stored, count_e, count_d}
use Rattle.pattern.specs.Word.{pattern_words, bit, digit, Done, Whole, row_ones, Clear}
use Rattle.pattern.specs.Ready.{Ready}
use Rattle.base.proofs.Sums.{sum_ext, sum_plus, sum_cut}
use Rattle.pattern.proofs.Digits.{digit_zero}
use Rattle.base.proofs.Bools.{and_false, and_true}

-- ---- all rows

pub rows_all : (nb : ℕ → ℕ → Bool) (p : List ℕ) (m : ℕ) → ((i : ℕ) → i < m → Done nb p i) → ((i : ℕ) → m ≤ i → i < 256 → Clear p i) → Whole nb p m
rows_all nb p m d z i b h l = go (dec_lt i m)
  where
    go : Dec (i < m) → bit p i b ≡ ltb i m && (leb b i && stored nb i b)
    go (yes u) = d i u b l ∙ ap (λ (t : Bool). t && (leb b i && stored nb i b)) (sym (lt-ltb i m u))
    go (no u) = z i (omega arith) h b l ∙ ap (λ (t : Bool). t && (leb b i && stored nb i b)) (sym (le-ltb i m (omega arith)))

pub rows_ready : (off cols p : List ℕ) (m : ℕ) → Csr off cols m → length cols ≤ max_entries → length p ≡ pattern_words → Whole (neighbours off cols) p m → Ready off cols m p
rows_ready off cols p m g few long w = record {
  csr = g;
  short = few;
  words = long;
  rows = λ i h b l. w i b (omega (arith, g.few)) l ∙ ap (λ (t : Bool). t && (leb b i && stored (neighbours off cols) i b)) (lt-ltb i m h);
}

module _ (nb : ℕ → ℕ → Bool) (p : List ℕ) where
  in_row_lem : (i k : ℕ) → Done nb p i → k ≤ i → i < 256 → bit p i k ≡ stored nb i k
  in_row_lem i k d l h = d k (omega arith) ∙ ap (λ (t : Bool). t && stored nb i k) (le-leb k i l)

  past_row : (i k : ℕ) → Done nb p i → i < k → k < 256 → bit p i k ≡ false
  past_row i k d l h = d k h ∙ ap (λ (t : Bool). t && stored nb i k) (lt-leb k i l)

  pub row_count : (i : ℕ) → i < 256 → Done nb p i → row_ones p i ≡ sum (suc i) (λ j. one (stored nb i j))
  unfolding row_ones
  row_count i h d =
      sum_cut 256 (suc i) (λ j. one (bit p i j)) (λ j. one (stored nb i j)) (omega arith)
      (λ k l. ap one (in_row_lem i k d (omega arith) h)) (λ k l m. ap one (past_row i k d (omega arith) m))

  -- the bits that rows i and j have in common, j ≤ i: those of D, and (i, j) itself
  pub both_count : (i j : ℕ) → i < 256 → j ≤ i → Done nb p i → Done nb p j
      → sum 256 (λ k. one (bit p i k && bit p j k)) ≡ sum j (λ k. one (stored nb i k && stored nb j k)) + one (stored nb i j)
  unfolding sum
  both_count i j h l d e =
      sum_cut 256 (suc j) (λ k. one (bit p i k && bit p j k)) (λ k. one (stored nb i k && stored nb j k)) (omega arith)
      (λ k m. ap one (ap₂ ◌&&◌ (in_row_lem i k d (omega arith) h) (in_row_lem j k e (omega arith) (omega arith))))
      (λ k m n. ap one (ap (λ (t : Bool). bit p i k && t) (past_row j k e (omega arith) n) ∙ and_false (bit p i k)))
      ∙ ap (λ (t : Bool). sum j (λ k. one (stored nb i k && stored nb j k)) + one (stored nb i j && t)) (stored_diag nb j j refl)
      ∙ ap (λ (t : Bool). sum j (λ k. one (stored nb i k && stored nb j k)) + one t) (and_true (stored nb i j))

module _ (off cols p : List ℕ) (m : ℕ) (hm : m ≤ 256) (d : (i : ℕ) → i < m → Done (neighbours off cols) p i) where
  pub count_e_lem : sum m (λ i. row_ones p i) ≡ count_e off cols m
  unfolding count_e
  count_e_lem =
      sum_ext m (λ i. row_ones p i) (λ i. sum (suc i) (λ j. one (is_stored off cols i j)))
      (λ i l. row_count (neighbours off cols) p i (omega arith) (d i l))

  pub count_d_lem : sum m (λ i. sum (suc i) (λ j. sum 256 (λ k. one (bit p i k && bit p j k)))) ≡ count_d off cols m + count_e off cols m
  unfolding count_d count_e
  count_d_lem =
      sum_ext m (λ i. sum (suc i) (λ j. sum 256 (λ k. one (bit p i k && bit p j k))))
      (λ i. sum (suc i) (λ j. sum j (λ k. one (is_stored off cols i k && is_stored off cols j k))) + sum (suc i) (λ j. one (is_stored off cols i j)))
      (λ i l.
      sum_ext (suc i) (λ j. sum 256 (λ k. one (bit p i k && bit p j k)))
      (λ j. sum j (λ k. one (is_stored off cols i k && is_stored off cols j k)) + one (is_stored off cols i j))
      (λ j n. both_count (neighbours off cols) p i j (omega arith) (omega arith) (d i l) (d j (omega arith)))
      ∙ sum_plus (suc i) (λ j. sum j (λ k. one (is_stored off cols i k && is_stored off cols j k))) (λ j. one (is_stored off cols i j)))
      ∙ sum_plus m (λ i. sum (suc i) (λ j. sum j (λ k. one (is_stored off cols i k && is_stored off cols j k)))) (λ i. sum (suc i) (λ j. one (is_stored off cols i j)))

-- ---- the loops that count

pub zeros : (n k : ℕ) → ◌≡◌ {A = ℕ} (get_or (replicate n 0) k 0) 0
zeros zero k = refl
zeros (suc n) zero = refl
zeros (suc n) (suc k) = zeros n k

pub clear_zeros : (n i : ℕ) → Clear (replicate n 0) i
unfolding bit
clear_zeros n i b h = ap (λ (x : ℕ). digit x (b % 64)) (zeros n (i * 4 + b / 64)) ∙ digit_zero (b % 64)
