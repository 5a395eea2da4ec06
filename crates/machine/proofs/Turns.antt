-- The loop over the tests of a solve. Assumes nothing.
use mathlib.Core.Path.{◌≡◌, refl, sym, ap, ◌∙◌, subst}
use mathlib.Core.Logic.{◌⊎◌, inl, inr, ◌≢◌}
use mathlib.Core.Bool.{Bool, true, false, not}
use mathlib.Core.List.{List}
use Prim.Native.Nat.{ℕ, suc, ◌+◌, ◌-◌, ◌≤◌, ◌<◌}
use native.Mathlib.Nat.{eq-or-lt_of_le}
use native.Mathlib.Omega.{arith}
use borrow.Author.Tests.{ne_eqb, eq-eqb, lt-ltb, le-ltb}
use lib.Dec.{eqb, ltb}
use lib.ListN.{get_or}
use lib.Ieee.{Float}
use Rattle.lanes.specs.Lists.{at, first}
use Rattle.machine.specs.Machine.{State, Machine, live, Status, spoilt, status, next, after, yields, machine}
use Rattle.machine.specs.Outcome.{Outcome, accepted, no_at11, no_at12, tests_made, is_spoilt, is_done, lowest_spoilt, lowest_undone, some_spoilt, all_done, Call, lane_data, lane_machine, lane_status, solved, interleaved, field_of, field_at}
use Rattle.machine.specs.Demand3.{Memory, Has, Started, Reads, AtTest, Made}
use Rattle.machine.specs.Work.{Says, Stepped, Ran}
use Rattle.lanes.proofs.Lists.{first_same}
use Rattle.machine.proofs.Ends.{Quiet, both, ends, some_no, stop_spoilt, stop_done, stop_spent, made_accepted, made_within}
use Rattle.machine.proofs.Lanes.{interleaved_same}
use Rattle.machine.proofs.Machines.{lane_live, said_of, fresh_has, moved_has}
use Rattle.machine.specs.Theorems as theorems
use Rattle.machine.specs.Theorems.{SoundState}
use Rattle.machine.proofs.Wait.{SoundMachine, left_sound, rust_next}
use Rattle.machine.proofs.Demand3.{made_once, made_again, made_test, made_from}

module _ (C : Call) where
  -- k tests are made, and M is what the next one reads
  pub data Ready : ℕ → Memory → Type 0 where
    begin : {M : Memory} → Started C M → Ready 0 M
    onward : {k : ℕ} {M M' : Memory} {said : List Status} → Made C k M said → ((l : ℕ) → l < C.K → lane_status C l k ≢ spoilt) → Stepped C M M' → Ready k M'

  pub record Going (N k : ℕ) (M : Memory) : Type 0 where
    pub ready : Ready k M
    pub quiet : Quiet C.K (lane_status C) (k + 1)
    pub under : k < N

  machine_sound : (l k : ℕ) → SoundMachine C.problem C.settings (lane_data C l) (lane_machine C l k)
  unfolding lane_machine machine
  machine_sound l k = left_sound C.problem C.settings (lane_data C l) (k - 1)

  lane_sound : (k : ℕ) (M : Memory) (said : List Status) → AtTest C k M said → (l : ℕ) → l < C.K → lane_status C l k ≢ spoilt → SoundState C.problem (M l)
  lane_sound k M said a l h n =
      subst (SoundMachine C.problem C.settings (lane_data C l)) (lane_live C k M said a l h n) (machine_sound l k)

  lane_status_lem : (k : ℕ) (M : Memory) (said : List Status) → AtTest C k M said → (l : ℕ) → l < C.K → lane_status C l k ≢ spoilt
      → lane_status C l k ≡ status C.problem C.settings (lane_data C l) (M l)
  unfolding lane_status yields
  lane_status_lem k M said a l h n = ap (yields C.problem C.settings (lane_data C l)) (lane_live C k M said a l h n)

  -- the step's promise, in the machine's terms
  module _ (k : ℕ) (M M' : Memory) (said : List Status) (a : AtTest C k M said) (n : (l : ℕ) → l < C.K → lane_status C l k ≢ spoilt) (v : Stepped C M M') where
    lane_rust : (l : ℕ) → l < C.K
        → Has (next C.problem C.settings (lane_data C l) (live (M l))) (M' l)
        × (status C.problem C.settings (lane_data C l) (M' l) ≡ yields C.problem C.settings (lane_data C l) (next C.problem C.settings (lane_data C l) (live (M l))))
    unfolding next
    lane_rust l h =
        subst (λ (p : State). Has (after C.problem C.settings (lane_data C l) (M l) t) p × (status C.problem C.settings (lane_data C l) p ≡ yields C.problem C.settings (lane_data C l) (after C.problem C.settings (lane_data C l) (M l) t)))
        (sym (v l h))
        (rust_next C.problem C.settings (lane_data C l) (M l) t refl (λ e. n l h (lane_status_lem k M said a l h (n l h) ∙ e)) (lane_sound k M said a l h (n l h)))
      where
        t : Status
        t = status C.problem C.settings (lane_data C l) (M l)

  pub ready_made : (k : ℕ) (M : Memory) (said : List Status) → Ready k M → Says C M said → Made C (k + 1) M said
  ready_made k M said (begin e) h = made_once C M said e h
  ready_made k M said (onward {M = M₀} {said = said₀} m n v) h =
      let a = made_test C k M₀ said₀ m in
      made_again C k M₀ M said₀ said m n (λ l b. (lane_rust k M₀ M said₀ a n v l b).0)
      (λ l b.
      h l b
      ∙ (lane_rust k M₀ M said₀ a n v l b).1
      ∙ said_of C (next C.problem C.settings (lane_data C l) (live (M₀ l))) l (M l) (lane_rust k M₀ M said₀ a n v l b).0)

  -- the next test reads its machines' numbers
  ready_reads : (k : ℕ) (M : Memory) → Ready k M → Reads C (k + 1) M
  ready_reads k M (begin e) l b = fresh_has C M e l b
  ready_reads k M (onward {M = M₀} {said = said₀} m n v) l b =
      let a = made_test C k M₀ said₀ m in
      moved_has C k M₀ M said₀ (made_from C k M₀ said₀ m) a n (λ i h. (lane_rust k M₀ M said₀ a n v i h).0) l b

  pub steps_reads : (N k : ℕ) (M : Memory) → Going N k M → Reads C (k + 1) M
  steps_reads N k M g = ready_reads k M g.ready

  -- ---- what the statuses say of the test
  module _ (N k : ℕ) (M : Memory) (said : List Status) (g : Going N k M) (h : Says C M said) where
    pub made : Made C (k + 1) M said
    made = ready_made k M said g.ready h

    says : (l : ℕ) → l < C.K → get_or said l spoilt ≡ lane_status C l (k + 1)
    says = (made_test C (k + 1) M said made).says

    lowest_is : first C.K (λ l. is_spoilt (get_or said l spoilt)) ≡ lowest_spoilt C.K (lane_status C) (k + 1)
    unfolding lowest_spoilt
    lowest_is = first_same (λ l. is_spoilt (get_or said l spoilt)) (λ l. is_spoilt (lane_status C l (k + 1))) C.K (λ l b. ap is_spoilt (says l b))

    undone_is : first C.K (λ l. not (is_done (get_or said l spoilt))) ≡ lowest_undone C.K (lane_status C) (k + 1)
    unfolding lowest_undone
    undone_is = first_same (λ l. not (is_done (get_or said l spoilt))) (λ l. not (is_done (lane_status C l (k + 1)))) C.K (λ l b. ap (λ (t : Status). not (is_done t)) (says l b))

    some_spoilt_lem : (r : ℕ) → r ≡ first C.K (λ l. is_spoilt (get_or said l spoilt)) → (t : Bool) → ltb r C.K ≡ t → some_spoilt C.K (lane_status C) (k + 1) ≡ t
    unfolding some_spoilt
    some_spoilt_lem r e t z = ap (λ (x : ℕ). ltb x C.K) (sym (e ∙ lowest_is)) ∙ z

    all_done_lem : (r : ℕ) → r ≡ first C.K (λ l. not (is_done (get_or said l spoilt))) → (t : Bool) → eqb r C.K ≡ t → all_done C.K (lane_status C) (k + 1) ≡ t
    unfolding all_done
    all_done_lem r e t z = ap (λ (x : ℕ). eqb x C.K) (sym (e ∙ undone_is)) ∙ z

    pub ran_spoilt : (r : ℕ) → r ≡ first C.K (λ l. is_spoilt (get_or said l spoilt)) → r < C.K → Ran C N M (no_at11 (k + 1) r)
    unfolding solved
    ran_spoilt r e b =
        let s = stop_spoilt C.K (lane_status C) N k g.under g.quiet (some_spoilt_lem r e true (lt-ltb r C.K b)) in
        record {
          answer = ap (no_at11 (k + 1)) (e ∙ lowest_is) ∙ sym s.0;
          said = said;
          tests = subst (λ (j : ℕ). Made C j M said) (sym s.1) made;
          says = h;
        }

    module _ (r u : ℕ) (e : r ≡ first C.K (λ l. is_spoilt (get_or said l spoilt))) (d : u ≡ first C.K (λ l. not (is_done (get_or said l spoilt)))) (b : r < C.K → ⊥) where
      none : some_spoilt C.K (lane_status C) (k + 1) ≡ false
      none = some_spoilt_lem r e false (le-ltb r C.K (omega arith))

      pub ran_done : u ≡ C.K → Ran C N M (accepted (k + 1))
      unfolding solved
      ran_done z =
          let s = stop_done C.K (lane_status C) N k g.under g.quiet none (all_done_lem u d true (eq-eqb u C.K z)) in
          record { answer = sym s.0; said = said; tests = subst (λ (j : ℕ). Made C j M said) (sym s.1) made; says = h }

      module _ (z : u ≡ C.K → ⊥) where
        quieter : Quiet C.K (lane_status C) (k + 1 + 1)
        quieter j o l = go (eq-or-lt_of_le l)
          where
            go : (suc j ≡ k + 1 + 1) ⊎ (suc j < k + 1 + 1) → (some_spoilt C.K (lane_status C) j ≡ false) × (all_done C.K (lane_status C) j ≡ false)
            go (inl q) =
                let y : j ≡ k + 1 = omega arith in
                subst (λ (i : ℕ). (some_spoilt C.K (lane_status C) i ≡ false) × (all_done C.K (lane_status C) i ≡ false)) (sym y)
                (none, all_done_lem u d false (ne_eqb u C.K z))
            go (inr q) = g.quiet j o (omega arith)

        pub ran_spent : k + 1 ≡ N → Ran C N M (no_at12 (k + 1))
        unfolding solved
        ran_spent q =
            let s = stop_spent C.K (lane_status C) N (subst (λ (i : ℕ). Quiet C.K (lane_status C) (i + 1)) q quieter) in
            record {
              answer = ap no_at12 q ∙ sym s.0;
              said = said;
              tests = subst (λ (j : ℕ). Made C j M said) (q ∙ sym s.1) made;
              says = h;
            }

        pub steps_on : (M' : Memory) → (k + 1 ≡ N → ⊥) → Stepped C M M' → Going N (k + 1) M'
        steps_on M' q v =
            record {
              ready = onward made (λ l h e. some_no C.K (lane_status C) (k + 1) none l (h, e)) v;
              quiet = quieter;
              under = omega (arith, g.under);
            }

  pub start_steps : (N : ℕ) (M : Memory) → 1 ≤ N → Started C M → Going N 0 M
  start_steps N M h e = record { ready = begin e; quiet = λ j o l. absurd (omega arith); under = h }

  -- an accepted run's last memory has each machine's numbers
  pub ran_live : {N : ℕ} {M : Memory} {o : Outcome} → Ran C N M o → (k : ℕ) → o ≡ accepted k → (l : ℕ) → l < C.K → lane_machine C l k ≡ live (M l)
  unfolding solved
  ran_live {N} {M} R k e l h =
      let a = sym R.answer ∙ e in
      let made = subst (λ (j : ℕ). AtTest C j M R.said) (made_accepted C.K (lane_status C) N k a) (made_test C (tests_made C.K (lane_status C) N) M R.said R.tests) in
      lane_live C k M R.said made l h (both (lane_status C l k) (((ends C.K (lane_status C) N).reported k a).0.all l h))

  -- so a list f of its lanes, interleaved, is the machines'
  pub ran_field : {N : ℕ} {M : Memory} {o : Outcome} → Ran C N M o → (f : State → List Float) (count k : ℕ) → o ≡ accepted k → 1 ≤ C.K
      → interleaved C.K count (λ l e. at (f (M l)) e) ≡ field_at C f count k
  unfolding field_at
  ran_field {N} {M} R f count k a p =
      interleaved_same C.K count (λ l e. at (f (M l)) e) (λ l e. field_of f (lane_machine C l k) e) p (λ l e h b. sym (ap (λ (X : Machine). field_of f X e) (ran_live R k a l h)))

  -- the run under the limit j ends with test j, where a run under some limit makes that test
  pub test_by_test : theorems.TestByTest C
  test_by_test N j h b M o R =
      (R.said, subst (λ (i : ℕ). AtTest C i M R.said) (made_within C.K (lane_status C) N j h b) (made_test C (tests_made C.K (lane_status C) j) M R.said R.tests), R.says)
