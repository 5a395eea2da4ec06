-- The theorems of specs/Theorems.antt, each under its name in lower case. Assumes nothing.
use mathlib.Core.Path.{◌≡◌, refl, sym, ap, ◌∙◌}
use mathlib.Core.Logic.{◌≢◌}
use mathlib.Core.Bool.{Bool, true, false, not, ◌&&◌, ◌||◌, false≢true}
use mathlib.Core.List.{List}
use Prim.Native.Nat.{ℕ, suc, ◌+◌, ◌*◌, ◌≤◌, ◌<◌}
use native.Mathlib.Omega.{arith}
use native.Mathlib.Nat.{mul-le-mul}
use borrow.Author.Tests.{eq-eqb, le-leb, leb-true, leb-false, not-true}
use lib.Dec.{eqb, leb, ltb}
use Rattle.base.proofs.Bools.{or_none}
use lib.ListN.{length}
use Rattle.base.specs.Sums.{sum}
use Rattle.base.proofs.Sums.{sum_more}
use Rattle.layout.specs.Layout.{working_size}
use Rattle.lanes.specs.Lists.{vec}
use Rattle.lanes.specs.Controls.{fractions_proper}
use Rattle.lanes.specs.declared.Controls.{Controls}
use Rattle.lanes.proofs.Fractions.{standard_proper}
use Rattle.lanes.proofs.Lists.{grow_length}
use Rattle.csr.specs.Pattern.{row}
use Rattle.csr.specs.Csr.{Csr, Accepted}
use Rattle.csr.specs.Counts.{count_e, count_s, count_d, size_w}
use Rattle.csr.specs.Verdict.{Verdict, passed, told, refused, ask, and_then}
use Rattle.csr.specs.Questions.{max_columns, first_from, empty, bad_row, offsets_right, rows_right, first_no}
use Rattle.csr.proofs.Yes.{accepted_of}
use Rattle.lists.proofs.Few.{pairs_16, triples_16, stored_few, products_few, shared_few}
use Rattle.machine.specs.declared.Outcome.{Outcome}
use Rattle.machine.specs.declared.Outcome.TheVariants as outcomes
use Rattle.machine.specs.Outcome.{largest_limit, solved}
use Rattle.machine.specs.Demand3.{Buffers}
use Rattle.ipm_simd.specs.declared.Lengths.{Lengths}
use Rattle.ipm_simd.specs.Solve.{lengths_right, outcome_verdict, lengths_verdict, controls_of, call, price_count, lengths_of, memory_verdict, matrix_verdict, begun, solve_verdict}
use Rattle.file_questions.proofs.Three.{then_passed}
use Rattle.ipm_simd.proofs.Questions.{lengths_last}
use Rattle.record.specs.Little.{shorts, floats}
use Rattle.record.specs.Record.{m_of, n_of, s_of, t_of, limit_of, offsets_of, columns_of, values_of, most_rows, most_columns, most_entries, well_formed, columns_at}
use Rattle.reading.specs.Answer.{most_stored, most_shared, most_products, index_words, work_floats, given_of, lent_for}
use Rattle.reading.specs.Theorems as theorems
use Rattle.reading.proofs.Headers.{own_whole}
use Rattle.reading.proofs.Parts.{zeros_long, blank_long}

-- ---- answers that are no refusal at 6, 8, 9, 13 or above
fine : Verdict → Bool
fine passed = true
fine (told a) = true
fine (refused q p l) = not (eqb q 6 || eqb q 8 || eqb q 9 || leb 13 q)

fine_not : (q p l : ℕ) → fine (refused q p l) ≡ true → (q ≢ 6) × (q ≢ 8) × (q ≢ 9) × (q < 13)
unfolding fine
fine_not q p l h = (λ e. false≢true (rw e at h), λ e. false≢true (rw e at h), λ e. false≢true (rw e at h), leb-false 13 q (or_none (eqb q 6 || eqb q 8 || eqb q 9) (leb 13 q) (not-true _ h)).1)

-- a question that may get a no, one that gets a yes, and what follows a first part of the questions
either : (t : Bool) (next : Verdict) (q p l : ℕ) → fine (refused q p l) ≡ true → (t ≡ true → fine next ≡ true) → fine (ask t next (refused q p l)) ≡ true
either true next q p l n f = f refl
either false next q p l n f = n

sure : (t : Bool) (next other : Verdict) → t ≡ true → fine next ≡ true → fine (ask t next other) ≡ true
sure t next other e f = rw e f

then_fine : (v w : Verdict) → fine v ≡ true → (v ≡ passed → fine w ≡ true) → fine (and_then v w) ≡ true
unfolding fine
then_fine passed w f g = g refl
then_fine (told a) w f g = refl
then_fine (refused q p l) w f g = f

-- questions 1 to 5
early_fine : (m n : ℕ) (off cols : List ℕ) (values : ℕ) → fine (first_no m n off cols values) ≡ true
unfolding fine first_no
early_fine m n off cols values =
    let e = first_from (empty off) 0 m in
    let b = first_from (λ (i : ℕ). bad_row n (row off cols i)) 0 m in
    either (rows_right m) _ 1 0 0 refl
    (λ _. either (leb 1 n && leb n max_columns) _ 2 0 0 refl
    (λ _. either (offsets_right m off (length cols) values) _ 3 0 0 refl
    (λ _. either (not (ltb e m)) _ 4 e 0 refl
    (λ _. either (not (ltb b m)) passed 5 b 0 refl
    (λ _. refl)))))

-- questions 6 to 10 and 13
lengths_fine : (W E m n s : ℕ) (L : Lengths) (k : Controls) → W ≤ L.index → lengths_right m n L ≡ true → (s ≤ m → working_size 4 m n s E ≤ L.work) → fractions_proper k ≡ true
    → fine (lengths_verdict W E m n s L k) ≡ true
unfolding fine lengths_verdict
lengths_fine W E m n s L k six eight nine proper =
    sure (leb W L.index) _ _ (le-leb W L.index six)
    (either (leb s m) _ 7 0 0 refl
    (λ t. sure (lengths_right m n L) _ _ eight
    (sure (leb (working_size 4 m n s E) L.work) _ _ (le-leb (working_size 4 m n s E) L.work (nine (leb-true s m t)))
    (either (leb 1 k.limit && leb k.limit largest_limit) _ 10 0 0 refl
    (λ _. sure (fractions_proper k) _ _ proper refl)))))

-- questions 11 and 12
outcome_fine : (count : ℕ) (o : Outcome) → fine (outcome_verdict count o) ≡ true
unfolding fine
outcome_fine count (outcomes.Accepted k) = refl
outcome_fine count (outcomes.NoAt11 k l) = refl
outcome_fine count (outcomes.NoAt12 k) = refl

-- ---- how long the lists are
shorts_long : (s : List ℕ) (at k : ℕ) → length (shorts s at k) ≡ k
unfolding shorts
shorts_long s at k = grow_length _ k

floats_long : (s : List ℕ) (at k : ℕ) → length (floats s at k) ≡ k
unfolding floats vec
floats_long s at k = grow_length _ k

-- ---- W and F within the limits
module _ (off cols : List ℕ) (m n : ℕ) (ok : Csr off cols m) (rows : m ≤ most_rows) (columns : n ≤ most_columns) where
  stored_most : count_e off cols m ≤ most_stored
  stored_most = omega (arith, stored_few off cols m, sum_more m most_rows suc rows, pairs_16)

  shared_most : length cols ≤ most_entries → count_s off cols m ≤ most_shared
  shared_most entries = let r : m + 1 ≤ most_rows + 1 = omega arith in omega (arith, shared_few off cols m ok, mul-le-mul r entries)

  products_most : count_d off cols m ≤ most_products
  products_most = omega (arith, products_few off cols m, sum_more m most_rows (λ i. sum (suc i) (λ j. j)) rows, triples_16)

  words_most : length cols ≤ most_entries → size_w off cols m n ≤ index_words
  unfolding size_w
  words_most entries = omega (arith, stored_most, shared_most entries, products_most)

  numbers_most : (s : ℕ) → s ≤ m → working_size 4 m n s (count_e off cols m) ≤ work_floats
  numbers_most s slack = omega (arith, stored_most)

-- ---- the answer to a record
module _ (s : List ℕ) (w : well_formed s ≡ true) where
  abbrev memories : Buffers
  memories = lent_for (m_of s) (n_of s)

  memory_fine : Accepted (offsets_of s) (columns_of s) (m_of s) (n_of s) → fine (memory_verdict (given_of s) memories) ≡ true
  unfolding memory_verdict
  memory_fine ok =
      let W = own_whole s w in
      let short : length (columns_of s) ≤ most_entries = omega (arith, shorts_long s (columns_at (m_of s)) (t_of s), W.entries) in
      let L = lengths_of (given_of s) memories in
      lengths_fine _ (count_e (offsets_of s) (columns_of s) (m_of s)) (m_of s) (n_of s) (s_of s) L (controls_of (given_of s))
      (omega (arith, words_most (offsets_of s) (columns_of s) (m_of s) (n_of s) ok.csr W.rows W.columns short, zeros_long index_words))
      (sym (lengths_last (m_of s) (n_of s) L (floats_long s _ _) (floats_long s _ _) (floats_long s _ _) (blank_long (4 * n_of s))) ∙ eq-eqb _ _ (blank_long (4 * m_of s)))
      (λ slack. omega (arith, numbers_most (offsets_of s) (columns_of s) (m_of s) (n_of s) ok.csr W.rows W.columns (s_of s) slack, blank_long work_floats))
      (standard_proper (limit_of s))

  begun_fine : fine (begun (given_of s) memories) ≡ true
  unfolding begun matrix_verdict fine
  begun_fine =
      let first5 = first_no (m_of s) (n_of s) (offsets_of s) (columns_of s) (length (values_of s)) in
      then_fine (and_then first5 passed) _ (then_fine first5 passed (early_fine (m_of s) (n_of s) (offsets_of s) (columns_of s) (length (values_of s))) (λ _. refl))
      (λ e. memory_fine (accepted_of (m_of s) (n_of s) (offsets_of s) (columns_of s) (length (values_of s)) (sym (then_passed first5) ∙ e)))

  solve_fine : fine (solve_verdict (given_of s) memories) ≡ true
  unfolding solve_verdict
  solve_fine = then_fine _ _ begun_fine (λ _. outcome_fine (price_count (given_of s)) (solved (call (given_of s)) (limit_of s)))

pub own_parts_pass : theorems.OwnPartsPass
own_parts_pass s w q p l e = fine_not q p l (sym (ap fine e) ∙ solve_fine s w)
