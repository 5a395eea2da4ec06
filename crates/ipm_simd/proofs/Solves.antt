-- From the parts of a solve to its contract. Assumes nothing.
use mathlib.Core.Path.{◌≡◌, refl, sym, ap, ap₂, ◌∙◌}
use mathlib.Core.List.{List, ◌++◌}
use Prim.Native.Nat.{ℕ, suc, ◌+◌, ◌-◌, ◌*◌, ◌≤◌, ◌<◌}
use native.Mathlib.Omega.{arith}
use lib.ListN.{length, drop, replicate, length-drop}
use lib.Seq.{ext_get_or, get_or-drop}
use lib.Ieee.{Float, nan}
use Rattle.std.specs.Prelude.{Option, Result, Err}
use Rattle.csr.specs.Verdict.{Verdict, passed, and_then, numbered, refusal}
use Rattle.csr.specs.declared.Refusal.{Refusal}
use Rattle.csr.specs.Questions.{first_no}
use Rattle.csr.specs.Csr.{Accepted}
use Rattle.csr.specs.Counts.{count_e, size_w, size_f}
use Rattle.csr.specs.Pattern.{has, row, neighbours, stored}
use Rattle.lanes.specs.Arithmetic.{null}
use Rattle.lanes.specs.Lanes.{room as room_in}
use Rattle.lanes.proofs.Regions.{room_fits}
use Rattle.lists.specs.Lists.{shape, list_of}
use Rattle.lists.specs.declared.Which.TheVariants.{Lindptr, Lindices}
use Rattle.lists.proofs.Sizes.{plan_size}
use Rattle.lists.proofs.Counts.{held_stored}
use Rattle.machine.specs.declared.Outcome.{Outcome}
use Rattle.machine.specs.declared.Outcome.TheVariants.{Accepted as accepted, NoAt11 as no_at11, NoAt12 as no_at12}
use Rattle.machine.specs.Machine.{State, as_given}
use Rattle.machine.specs.Outcome.{Call, solved}
use Rattle.machine.specs.Demand3.{Buffers, Memory, output_after, leaves}
use Rattle.machine.specs.Work.{Ran}
use Rattle.machine.proofs.Demand3.{solved_ends, demand3}
use Rattle.machine.proofs.Turns.{ran_field}
use Rattle.plan_file.specs.Matrix.{matrix_lists}
use Rattle.plan_file.specs.Tables.{wide}
use Rattle.plan_file.specs.Verdicts.{file_verdict}
use Rattle.plan_laws.proofs.Low.{row_cut}
use Rattle.plan_laws.proofs.Picked.{picked_has}
use Rattle.layout.specs.declared.Block.{Block}
use Rattle.layout.specs.declared.Plan.{Plan}
use Rattle.layout.specs.Layout.{l_at, working_size}
use Rattle.memory.specs.Numbers.{Lent}
use Rattle.layout.specs.Lists.{words_at}
use Rattle.counts.proofs.Plans.{planned_sizes, words_are}
use Rattle.memory.specs.Planned.{Planned}
use Rattle.memory.specs.Calls.{call_in, memory_in}
use Rattle.memory.proofs.Calls.{lanes_all}
use Rattle.outputs.specs.Outputs.{output_of}
use Rattle.step.specs.Steps.{Untouched}
use Rattle.ipm_simd.specs.declared.Solution.{Solution}
use Rattle.ipm_simd.specs.Solve.{Given, lent, controls_of, call, words, room, price_count, lengths_of, planned_has, told_solve, outcome_verdict, lengths_verdict, memory_verdict, with_file, if_filed, matrix_verdict, begun, solve_verdict, if_passed, solve_buffers, Solved}
use Rattle.ipm_simd.specs.Parts.{Asked10, Finished, Continued}
use Rattle.ipm_simd.proofs.Questions.{lengths_passed, not_passed}

-- the plan by value, of E, S and D
abbrev pub plan_of : Given → ℕ → ℕ → ℕ → Plan
plan_of a stored shared products = record { m = a.m; n = a.n; s = a.s; t = length a.columns; stored = stored; shared = shared; products = products }

-- F, of E
room_of : (off cols : List ℕ) (m n s e : ℕ) → e ≡ count_e off cols m → working_size 4 m n s e ≡ size_f off cols m n s
unfolding size_f
room_of off cols m n s e q = omega (arith, q)

-- what lies behind the entries that were touched
rest_same : (top k : ℕ) (old new : List Float) → Untouched 4 top old new → k ≡ 4 * top → drop k new ≡ drop k old
rest_same top k old new U e =
    ext_get_or nan (drop k new) (drop k old) (length-drop k new ∙ ap (λ (j : ℕ). j - k) U.size ∙ sym (length-drop k old))
    (λ i h. get_or-drop k new i nan ∙ U.beyond (k + i) (omega arith) ∙ sym (get_or-drop k old i nan))

-- ---- the lowest spoilt lane is one of four
pub lane_under : (C : Call) (N : ℕ) (o : Outcome) → o ≡ solved C N → (k l : ℕ) → o ≡ no_at11 k l → l < C.K
lane_under C N o e k l f = ((solved_ends C N).named k l (sym e ∙ f)).2.0

-- ---- the planned factor's entries are the stored pairs
planned_stored : (off cols : List ℕ) (m i j : ℕ) → i < m → j < i
    → has (row (list_of (shape off cols) Lindptr m) (list_of (shape off cols) Lindices m) i) j ≡ stored (neighbours off cols) i j
unfolding row
planned_stored off cols m i j h l =
    ap (λ (xs : List ℕ). has xs j) (row_cut off cols m i h) ∙ picked_has ((shape off cols).held i) (suc i) j (omega arith) ∙ held_stored off cols i j (omega arith)

-- ---- the tests: one block of all four lanes
abbrev four : Block
four = record { total = 4; first = 0 }

-- ---- before and after the tests
module _ (a : Given) {output prices work : List Float} {index : List ℕ} {stored shared products : ℕ} (Q : Asked10 a (lent output prices index work) stored shared products) where
  -- the same once the plan is written
  pub asked_on : {new : List ℕ} → length new ≡ length index → Asked10 a (lent output prices new work) stored shared products
  asked_on e = record {
    ok = Q.ok;
    values = Q.values;
    counts = Q.counts;
    index = omega (arith, Q.index, e);
    slack = Q.slack;
    b_long = Q.b_long;
    c_long = Q.c_long;
    tol_long = Q.tol_long;
    output = Q.output;
    prices = Q.prices;
    work = Q.work;
    from = Q.from;
    up_to = Q.up_to;
  }

  pub planned_on : {new : List ℕ} → new ≡ words a ++ drop (size_w a.offsets a.columns a.m a.n) index → Planned a.offsets a.columns a.values (plan_of a stored shared products) new
  planned_on e = record {
    ok = Q.ok;
    values = Q.values;
    entries = refl;
    slack = Q.slack;
    counts = Q.counts;
    rest = drop (size_w a.offsets a.columns a.m a.n) index;
    plan = e;
  }

  pub lent_four : Lent four 4 a.m a.n a.s a.b a.c a.tolerances
  lent_four = record {
    rows = Q.ok.csr.few;
    columns = Q.ok.wide;
    slack = Q.slack;
    lanes = omega arith;
    wide = record { some = omega arith; most = omega arith };
    within = omega arith;
    b_long = room_fits 4 a.b a.m (omega arith) (omega (arith, Q.b_long));
    c_long = room_fits 4 a.c a.n (omega arith) (omega (arith, Q.c_long));
    tol_long = omega (arith, Q.tol_long);
  }

  pub room_four : l_at a.n a.m a.s + stored ≤ room_in 4 work
  room_four = room_fits 4 work (l_at a.n a.m a.s + stored) (omega arith) (omega (arith, Q.work))

  -- the block's lanes are the call's
  pub run_four : {M : Memory} {o : Outcome} → Ran (call_in (as_given a.centring a.damping) (plan_of a stored shared products) four 4 a.offsets a.columns a.values a.b a.c a.tolerances) a.limit M o → Ran (call a) a.limit M o
  run_four R =
      rw (lanes_all 4 a.m a.b (omega arith) Q.b_long, lanes_all 4 a.n a.c (omega arith) Q.c_long, lanes_all 4 3 a.tolerances (omega arith) Q.tol_long)
      at R

  -- an output that takes a list of each lane's numbers takes that list of each machine
  output_is : {M : Memory} {o : Outcome} → Ran (call a) a.limit M o → (f : State → List Float) (count : ℕ) (old : List Float) {new : List Float}
      → new ≡ output_of 4 f count M o old → new ≡ output_after (call a) f count (solved (call a) a.limit) old
  output_is {M} {o} R f count old {new} e = e ∙ go o refl ∙ ap (λ (z : Outcome). output_after (call a) f count z old) R.answer
    where
      go : (z : Outcome) → o ≡ z → output_of 4 f count M z old ≡ output_after (call a) f count z old
      go (accepted k) q = ran_field (call a) R f count k q (omega arith)
      go (no_at11 k l) q = refl
      go (no_at12 k) q = refl

  pub finished : {index1 : List ℕ} {work1 output1 prices1 work2 : List Float} {o : Outcome} {r : Result Solution Refusal}
      → index1 ≡ words a ++ drop (size_w a.offsets a.columns a.m a.n) index
      → Untouched 4 (l_at a.n a.m a.s + stored) work work1
      → Ran (call a) a.limit (memory_in (plan_of a stored shared products) 4 work1) o
      → told_solve r ≡ outcome_verdict (length prices) o
      → output1 ≡ output_of 4 (λ q. q.x) a.n (memory_in (plan_of a stored shared products) 4 work1) o output
      → prices1 ≡ output_of 4 (λ q. q.y) a.m (memory_in (plan_of a stored shared products) 4 work1) o prices
      → work2 ≡ replicate (working_size 4 a.m a.n a.s stored) null ++ drop (working_size 4 a.m a.n a.s stored) work1
      → Finished a (lent output prices index work) (lent output1 prices1 index1 work2) r
  finished {index1} {work1} {output1} {prices1} {work2} {o} {r} ei U R er eo ep ew = record {
    answer = er ∙ ap₂ outcome_verdict Q.prices R.answer;
    buffers = all;
    demand3 = demand3 (call a) (words a) (room a) (planned_has a) a.limit (lent output prices index work) (lent output1 prices1 index1 work2) (solved (call a) a.limit) (memory_in (plan_of a stored shared products) 4 work1)
        R.said R.tests (λ i j l b. planned_stored a.offsets a.columns a.m i j b l) refl all;
  }
    where
      F : ℕ
      F = working_size 4 a.m a.n a.s stored

      x_out : output1 ≡ output_after (call a) (λ q. q.x) a.n (solved (call a) a.limit) output
      x_out = output_is R (λ q. q.x) a.n output eo

      y_out : prices1 ≡ output_after (call a) (λ q. q.y) a.m (solved (call a) a.limit) prices
      y_out = output_is R (λ q. q.y) a.m prices ep

      plan : index1 ≡ words a ++ drop (length (words a)) index
      plan = ei ∙ ap (λ (k : ℕ). words a ++ drop k index) (sym (plan_size a.offsets a.columns a.m a.n Q.ok))

      clear : work2 ≡ replicate (room a) null ++ drop (room a) work
      clear =
          ew
          ∙ ap (λ (x : List Float). replicate F null ++ x) (rest_same (l_at a.n a.m a.s + stored) F work work1 U (omega arith))
          ∙ ap (λ (k : ℕ). replicate k null ++ drop k work) (room_of a.offsets a.columns a.m a.n a.s stored Q.counts.stored)

      all : lent output1 prices1 index1 work2 ≡ leaves (call a) (words a) (room a) a.limit (lent output prices index work)
      all = λ i. record { output = x_out i; prices = y_out i; index = plan i; work = clear i }

-- ---- questions 6 to 10 and 13
-- the plan by value, with the matrix's E, S and D, and its W
abbrev plan_for : Given → Plan
plan_for a = planned_sizes a.offsets a.columns a.m a.n a.s

module _ (a : Given) (B : Buffers) where
  -- the questions put about this plan
  pub asked_is : {v : Verdict} {w : ℕ} {p : Plan} → p ≡ plan_for a → w ≡ words_at p → v ≡ lengths_verdict w p.stored p.m p.n p.s (lengths_of a B) (controls_of a) → v ≡ memory_verdict a B
  unfolding memory_verdict
  asked_is {v} {w} {p} ep ew e =
      e
      ∙ ap (λ (x : ℕ). lengths_verdict x p.stored p.m p.n p.s (lengths_of a B) (controls_of a)) ew
      ∙ ap (λ (q : Plan). lengths_verdict (words_at q) q.stored q.m q.n q.s (lengths_of a B) (controls_of a)) ep
      ∙ ap (λ (x : ℕ). lengths_verdict x (plan_for a).stored a.m a.n a.s (lengths_of a B) (controls_of a)) (words_are a.offsets a.columns a.m a.n a.s)

  pub asked_all : Accepted a.offsets a.columns a.m a.n → length a.values ≡ length a.columns → passed ≡ memory_verdict a B → Asked10 a B (plan_for a).stored (plan_for a).shared (plan_for a).products
  unfolding memory_verdict
  asked_all ok values v =
      let q = lengths_passed _ _ a.m a.n a.s (lengths_of a B) (controls_of a) (sym v) in
      record {
        ok = ok;
        values = values;
        counts = record { stored = refl; shared = refl; products = refl };
        index = q.index_long;
        slack = q.slack;
        b_long = q.lengths.b_long;
        c_long = q.lengths.c_long;
        tol_long = q.lengths.tolerances_long;
        output = q.lengths.output_long;
        prices = q.lengths.prices_long;
        work = q.work_long;
        from = q.from;
        up_to = q.up_to;
      }

  pub go_on : {B' : Buffers} {r : Result Solution Refusal} → passed ≡ memory_verdict a B → Finished a B B' r → Continued a B B' r
  go_on v F = record {
    answer = F.answer ∙ ap (λ (x : Verdict). and_then x (outcome_verdict (price_count a) (solved (call a) a.limit))) v;
    buffers = F.buffers ∙ ap (λ (x : Verdict). if_passed a x (leaves (call a) (words a) (room a) a.limit B) B) v;
    demand3 = λ _. F.demand3;
  }

  pub refused_here : (r : Refusal) → refusal r ≡ memory_verdict a B → Continued a B B (Err r)
  refused_here r v = record {
    answer = ap (λ (x : Verdict). and_then x (outcome_verdict (price_count a) (solved (call a) a.limit))) v;
    buffers = ap (λ (x : Verdict). if_passed a x (leaves (call a) (words a) (room a) a.limit B) B) v;
    demand3 = λ p. absurd (not_passed (numbered r).question (numbered r).place (numbered r).lane (v ∙ p));
  }

  begun_is : (v : Verdict) → matrix_verdict a ≡ v → begun a B ≡ and_then v (memory_verdict a B)
  unfolding begun
  begun_is v e = ap (λ (x : Verdict). and_then x (memory_verdict a B)) e

  verdict_is : (v : Verdict) → begun a B ≡ v → solve_verdict a B ≡ and_then v (outcome_verdict (price_count a) (solved (call a) a.limit))
  unfolding solve_verdict
  verdict_is v e = ap (λ (x : Verdict). and_then x (outcome_verdict (price_count a) (solved (call a) a.limit))) e

  buffers_are : (v : Verdict) → begun a B ≡ v → solve_buffers a B ≡ if_passed a v (leaves (call a) (words a) (room a) a.limit B) B
  unfolding solve_buffers
  buffers_are v e = ap (λ (x : Verdict). if_passed a x (leaves (call a) (words a) (room a) a.limit B) B) e

  pub solved_on : {B' : Buffers} {r : Result Solution Refusal} → passed ≡ matrix_verdict a → Continued a B B' r → Solved a B B' r
  solved_on {B'} {r} v K =
      let z : begun a B ≡ memory_verdict a B = begun_is passed (sym v) in
      record {
        answer = K.answer ∙ sym (verdict_is (memory_verdict a B) z);
        buffers = K.buffers ∙ sym (buffers_are (memory_verdict a B) z);
        demand3 = λ p.
            let q : memory_verdict a B ≡ passed = sym z ∙ p in
            (solved (call a) a.limit, K.answer ∙ ap (λ (x : Verdict). and_then x (outcome_verdict (price_count a) (solved (call a) a.limit))) q, K.demand3 q);
      }

  pub solved_not : (r : Refusal) → refusal r ≡ matrix_verdict a → Solved a B B (Err r)
  solved_not r v =
      let z : begun a B ≡ refusal r = begun_is (refusal r) (sym v) in
      record {
        answer = sym (verdict_is (refusal r) z);
        buffers = sym (buffers_are (refusal r) z);
        demand3 = λ p. absurd (not_passed (numbered r).question (numbered r).place (numbered r).lane (sym z ∙ p));
      }

-- ---- a file that is lent or not

-- what follows questions 1 to 5 and 14 to 16 does not look at it
pub with_file_lem : (file : Option (List ℕ)) (a : Given) {B B' : Buffers} {r : Result Solution Refusal} → Continued a B B' r → Continued (with_file file a) B B' r
unfolding memory_verdict
with_file_lem file a K = record { answer = K.answer; buffers = K.buffers; demand3 = K.demand3 }

pub matrix_is : (a : Given) {v : Verdict}
    → v ≡ and_then (first_no a.m a.n a.offsets a.columns (length a.values)) (if_filed a.file (file_verdict wide (matrix_lists a.offsets a.columns a.m a.n)))
    → v ≡ matrix_verdict a
unfolding matrix_verdict
matrix_is a e = e
