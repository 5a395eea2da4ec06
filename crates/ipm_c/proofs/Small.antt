-- Every answer fits one number: lengths are below 2 ^ 16, places below 2 ^ 32, lanes below 2 ^ 8. Assumes nothing.
use mathlib.Core.Path.{◌≡◌, refl, ◌∙◌, ap}
use mathlib.Core.Bool.{Bool, true, false, not, cond, ◌&&◌, ◌||◌}
use mathlib.Core.List.{List}
use Prim.Native.Nat.{ℕ, zero, suc, ◌+◌, ◌*◌, ◌^◌, ◌≤◌, ◌<◌}
use native.Mathlib.Omega.{arith}
use native.Mathlib.Nat.{mul-le-mul}
use lib.Dec.{eqb, leb, ltb}
use borrow.Author.Tests.{leb-true}
use lib.ListN.{length}
use Rattle.csr.specs.Counts.{count_e, size_w}
use Rattle.csr.specs.Pattern.{row}
use Rattle.csr.specs.Verdict.{Verdict, passed, told, planned, refused, ask, and_then}
use Rattle.csr.specs.Questions.{first_from, empty, bad_row, offsets_right, rows_right, first_no}
use Rattle.csr.specs.Csr.{Accepted}
use Rattle.base.proofs.Bools.{and_right}
use Rattle.csr.proofs.Yes.{accepted_of}
use Rattle.sizes.specs.Sizes.{slack_verdict, sizes_verdict, costliest_verdict}
use Rattle.lanes.specs.Lists.{first}
use Rattle.lanes.specs.Controls.{fractions_proper}
use Rattle.lanes.specs.declared.Controls.{Controls}
use Rattle.lanes.proofs.Lists.{first_le}
use Rattle.ipm_common.specs.Plan.{told_plan, room_verdict, plan_verdict}
use Rattle.machine.specs.declared.Status.{Status}
use Rattle.machine.specs.declared.Outcome.{Outcome}
use Rattle.machine.specs.declared.Outcome.TheVariants.{Accepted as accepted_at, NoAt11 as no_at11, NoAt12 as no_at12}
use Rattle.machine.specs.Outcome.{is_spoilt, lowest_spoilt, some_spoilt, all_done, outcome, lane_status, solved}
use Rattle.machine.specs.Demand3.{Buffers}
use Rattle.ipm_simd.specs.declared.Lengths.{Lengths}
use Rattle.csr.specs.declared.Refusal.{Refusal}
use Rattle.ipm_simd.specs.declared.Solution.{Solution}
use Rattle.std.specs.Prelude.{Option, Some, None, Result, Ok, Err}
use Rattle.ipm_simd.specs.Solve.{Given, controls_of, call, price_count, lengths_of, told_solve, Solved, outcome_verdict, lengths_right, lengths_verdict, memory_verdict, if_filed, matrix_verdict, begun, solve_verdict}
use Rattle.ipm_simd.proofs.Questions.{lengths_passed}
use Rattle.ipm_c.specs.Packed.{packed, Small, SolvedInOne}
use Rattle.lists.proofs.Few.{few_stored, shared_few, few_products}
use Rattle.plan_file.specs.Matrix.{matrix_lists}
use Rattle.plan_file.specs.Tables.{wide}
use Rattle.plan_file.specs.Verdicts.{file_verdict, whole_file, ordered_file, matrixs_file}
use Rattle.plan_file.proofs.Files.{one_by_one}
use Rattle.file_questions.proofs.Three.{passes}
use Rattle.file_calls.specs.Calls.{told_write, file_bytes, rooms_verdict, write_verdict, read_verdict}

small_ask : (t : Bool) (v w : Verdict) → (t ≡ true → Small v) → Small w → Small (ask t v w)
small_ask true v w h g = h refl
small_ask false v w h g = g

small_no : (q : ℕ) → q ≤ 16 → Small (refused q 0 0)
small_no q h = (h, omega arith, omega arith)

small_then : (v w : Verdict) → Small v → (v ≡ passed → Small w) → Small (and_then v w)
small_then passed w h g = g refl
small_then (told a) w h g = h
small_then (refused q p l) w h g = h

-- W and 4W + 96 are below 2 ^ 32
pub words_small : (off cols : List ℕ) (m n : ℕ) → Accepted off cols m n → 4 * size_w off cols m n + 96 < 2 ^ 32
unfolding size_w
words_small off cols m n ok =
    let rows : m + 1 ≤ 257 = omega (arith, ok.csr.few) in
    omega (arith, ok.csr.few, ok.offsets.few, ok.wide, few_stored off cols m ok.csr, shared_few off cols m ok.csr, mul-le-mul rows ok.offsets.few, few_products off cols m ok.csr)

first_one : (b : Bool) (i x f : ℕ) → x ≤ suc i + f → cond b i x ≤ i + suc f
first_one true i x f h = omega arith
first_one false i x f h = omega arith

first_most : (p : ℕ → Bool) (i f : ℕ) → first_from p i f ≤ i + f
unfolding first_from
first_most p i zero = omega arith
first_most p i (suc f) = first_one (p i) i (first_from p (suc i) f) f (first_most p (suc i) f)

-- QUESTIONS 1 TO 5
pub small_first : (m n : ℕ) (off cols : List ℕ) (values : ℕ) → Small (first_no m n off cols values)
unfolding first_no
small_first m n off cols values =
    let e = first_from (empty off) 0 m in
    let bad : ℕ → Bool = λ (i : ℕ). bad_row n (row off cols i) in
    let b = first_from bad 0 m in
    small_ask (rows_right m) _ (refused 1 0 0)
    (λ h.
    let few = leb-true m 256 (and_right (leb 1 m) (leb m 256) h) in
    small_ask (leb 1 n && leb n 1024) _ (refused 2 0 0)
    (λ _.
    small_ask (offsets_right m off (length cols) values) _ (refused 3 0 0)
    (λ _.
    small_ask (not (ltb e m)) _ (refused 4 e 0)
    (λ _. small_ask (not (ltb b m)) passed (refused 5 b 0) (λ _. tt) (omega arith, omega (arith, few, first_most bad 0 m), omega arith))
    (omega arith, omega (arith, few, first_most (empty off) 0 m), omega arith))
    (omega arith, omega arith, omega arith))
    (omega arith, omega arith, omega arith))
    (omega arith, omega arith, omega arith)

-- QUESTIONS 1 TO 6
pub small_plan : (m n : ℕ) (off cols : List ℕ) (words : ℕ) → Small (plan_verdict m n off cols words)
unfolding plan_verdict room_verdict
small_plan m n off cols words =
    small_then (first_no m n off cols (length cols)) _ (small_first m n off cols (length cols))
    (λ h.
    small_ask (leb (size_w off cols m n) words) (told (planned (size_w off cols m n))) (refused 6 0 0)
    (λ _. omega (arith, words_small off cols m n (accepted_of m n off cols (length cols) h)))
    (omega arith, omega arith, omega arith))

-- QUESTIONS 1 TO 5 AND 7
pub small_matrix : (m n s : ℕ) (off cols : List ℕ) → Small (sizes_verdict m n s off cols)
unfolding sizes_verdict slack_verdict
small_matrix m n s off cols =
    small_then (first_no m n off cols (length cols)) _ (small_first m n off cols (length cols))
    (λ h. small_ask (leb s m) _ (refused 7 0 0) (λ _. omega (arith, words_small off cols m n (accepted_of m n off cols (length cols) h))) (small_no 7 (omega arith)))

-- QUESTIONS 1 TO 6 AND 8
pub small_write : (m n : ℕ) (off cols : List ℕ) (words bytes : ℕ) → Small (write_verdict m n off cols words bytes)
unfolding write_verdict rooms_verdict
small_write m n off cols words bytes =
    small_then (first_no m n off cols (length cols)) _ (small_first m n off cols (length cols))
    (λ h.
    small_ask (leb (size_w off cols m n) words) _ (refused 6 0 0)
    (λ _. small_ask (leb (file_bytes m n off cols) bytes) _ (refused 8 0 0) (λ _. words_small off cols m n (accepted_of m n off cols (length cols) h)) (small_no 8 (omega arith)))
    (small_no 6 (omega arith)))

-- QUESTIONS 14 TO 16
small_file : (lists : ℕ → List ℕ) (file : List ℕ) → Small (file_verdict wide lists file)
small_file lists file =
    rw (one_by_one wide lists file)
    (small_ask (whole_file wide file) _ (refused 14 0 0)
    (λ _. small_ask (ordered_file wide 1 file) _ (refused 15 0 0) (λ _. small_ask (matrixs_file wide lists file) passed (refused 16 0 0) (λ _. tt) (small_no 16 (omega arith))) (small_no 15 (omega arith)))
    (small_no 14 (omega arith)))

small_filed : (file : Option (List ℕ)) (says : List ℕ → Verdict) → ((bytes : List ℕ) → Small (says bytes)) → Small (if_filed file says)
small_filed (Some bytes) says h = h bytes
small_filed None says h = tt

-- QUESTIONS 1 TO 5, 14 TO 16 AND 6
pub small_read : (m n : ℕ) (off cols file : List ℕ) (words : ℕ) → Small (read_verdict m n off cols file words)
unfolding read_verdict room_verdict
small_read m n off cols file words =
    let matrix = and_then (first_no m n off cols (length cols)) (file_verdict wide (matrix_lists off cols m n) file) in
    small_then matrix _ (small_then (first_no m n off cols (length cols)) _ (small_first m n off cols (length cols)) (λ _. small_file (matrix_lists off cols m n) file))
    (λ h.
    small_ask (leb (size_w off cols m n) words) _ (refused 6 0 0)
    (λ _. omega (arith, words_small off cols m n (accepted_of m n off cols (length cols) (passes _ _ h).0)))
    (small_no 6 (omega arith)))

-- QUESTION 1
pub small_costliest : (m : ℕ) → Small (costliest_verdict m)
unfolding costliest_verdict
small_costliest m = small_ask (rows_right m) _ (refused 1 0 0) (λ _. tt) (small_no 1 (omega arith))

-- ---- the tests

small_choice : (count : ℕ) (t : Bool) (o o' : Outcome) → Small (outcome_verdict count o) → Small (outcome_verdict count o') → Small (outcome_verdict count (cond t o o'))
small_choice count true o o' h g = h
small_choice count false o o' h g = g

-- QUESTIONS 11 AND 12, of at most four lanes, under a limit that question 10 lets pass, with y that is not too long
pub small_outcome : (K : ℕ) (says : ℕ → ℕ → Status) (N count : ℕ) → K ≤ 4 → N ≤ 10000 → count < 2 ^ 16 → Small (outcome_verdict count (outcome K says N))
unfolding outcome lowest_spoilt
small_outcome K says N count few limit short =
    let stops : ℕ → Bool = λ (i : ℕ). some_spoilt K says (i + 1) || all_done K says (i + 1) in
    let k = first N stops + 1 in
    let up_to = first_le stops N in
    let lane = first_le (λ (l : ℕ). is_spoilt (says l k)) K in
    small_choice count (eqb (first N stops) N) (no_at12 N) _ (omega arith, omega (arith, limit), omega arith)
    (small_choice count (some_spoilt K says k) (no_at11 k (lowest_spoilt K says k)) (accepted_at k)
    (omega arith, omega (arith, limit, up_to), omega (arith, few, lane)) (omega (arith, limit, up_to), short))

-- QUESTIONS 6 TO 10 AND 13
small_lengths : (W E m n s : ℕ) (L : Lengths) (k : Controls) → Small (lengths_verdict W E m n s L k)
unfolding lengths_verdict
small_lengths W E m n s L k =
    let q7 = leb s m in
    let q8 = lengths_right m n L in
    let q9 = leb (4 * (5 * n + 3 * m + 2 * s + E)) L.work in
    let q10 = leb 1 k.limit && leb k.limit 10000 in
    let q13 = fractions_proper k in
    let from13 = ask q13 passed (refused 13 0 0) in
    let from10 = ask q10 from13 (refused 10 0 0) in
    let from9 = ask q9 from10 (refused 9 0 0) in
    let from8 = ask q8 from9 (refused 8 0 0) in
    let from7 = ask q7 from8 (refused 7 0 0) in
    let s13 = small_ask q13 passed (refused 13 0 0) (λ _. tt) (small_no 13 (omega arith)) in
    let s10 = small_ask q10 from13 (refused 10 0 0) (λ _. s13) (small_no 10 (omega arith)) in
    let s9 = small_ask q9 from10 (refused 9 0 0) (λ _. s10) (small_no 9 (omega arith)) in
    let s8 = small_ask q8 from9 (refused 8 0 0) (λ _. s9) (small_no 8 (omega arith)) in
    let s7 = small_ask q7 from8 (refused 7 0 0) (λ _. s8) (small_no 7 (omega arith)) in
    small_ask (leb W L.index) from7 (refused 6 0 0) (λ _. s7) (small_no 6 (omega arith))

-- QUESTIONS 1 TO 16
pub small_solve : (a : Given) (B : Buffers) → Small (solve_verdict a B)
unfolding solve_verdict begun matrix_verdict solved memory_verdict
small_solve a B =
    let W = size_w a.offsets a.columns a.m a.n in
    let E = count_e a.offsets a.columns a.m in
    let first5 = first_no a.m a.n a.offsets a.columns (length a.values) in
    let matrix = and_then first5 (if_filed a.file (file_verdict wide (matrix_lists a.offsets a.columns a.m a.n))) in
    small_then (and_then matrix (memory_verdict a B)) _
    (small_then matrix _ (small_then first5 _ (small_first a.m a.n a.offsets a.columns (length a.values)) (λ _. small_filed a.file _ (small_file (matrix_lists a.offsets a.columns a.m a.n))))
    (λ _. small_lengths W E a.m a.n a.s (lengths_of a B) (controls_of a)))
    (λ e.
    let both = passes matrix (memory_verdict a B) e in
    let ok = accepted_of a.m a.n a.offsets a.columns (length a.values) (passes first5 _ both.0).0 in
    let asked = lengths_passed W E a.m a.n a.s (lengths_of a B) (controls_of a) both.1 in
    small_outcome 4 (lane_status (call a)) a.limit (price_count a) (omega arith) asked.up_to (omega (arith, ok.csr.few)))

-- what solve promises of its answer holds of the number
pub in_one : {a : Given} {B B' : Buffers} {r : Result Solution Refusal} {code : ℕ} → Solved a B B' r → code ≡ packed (told_solve r) → SolvedInOne a B B' code
in_one s e = record {
  answer = e ∙ ap packed s.answer;
  buffers = s.buffers;
  demand3 = λ h. let d = s.demand3 h in (d.0, e ∙ ap packed d.1, d.2);
}

-- whether a call tells words or bytes, the one number is the same
pub packed_alike : (r : Result ℕ Refusal) → packed (told_plan r) ≡ packed (told_write r)
packed_alike (Ok k) = refl
packed_alike (Err e) = refl

pub small_alike : (r : Result ℕ Refusal) → Small (told_write r) → Small (told_plan r)
small_alike (Ok k) h = h
small_alike (Err e) h = h
