-- The loop over the tests, over the real working memory. Assumes nothing.
use mathlib.Core.Path.{◌≡◌, refl, sym, ap, ◌∙◌, subst}
use mathlib.Core.Logic.{◌≢◌}
use mathlib.Core.Bool.{Bool, true, false, cond, not}
use mathlib.Core.List.{List, [], ◌∷◌}
use Prim.Native.Nat.{ℕ, ◌+◌, ◌<◌, ◌≤◌}
use native.Mathlib.Omega.{arith}
use borrow.Author.Tests.{ltb-true, ltb-false, eqb-true, eqb-false}
use lib.Dec.{eqb, ltb}
use lib.ListN.{get_or}
use lib.Ieee.{Float}
use Rattle.std.specs.Prelude.{Option, Some, None}
use Rattle.std.specs.Bool.{then_some}
use Rattle.lanes.specs.Lists.{at, first}
use Rattle.lanes.specs.Arithmetic.{◌⊕◌, one}
use Rattle.lanes.specs.Lanes.{lanes, Width}
use Rattle.lanes.specs.declared.Controls.{Controls}
use Rattle.lanes.proofs.Lists.{first_under}
use Rattle.lanes.proofs.Quads.{four_lanes, on}
use Rattle.machine.specs.Machine.{Machine, Problem, LaneData, Settings, live, lost, as_given, status, yields}
use Rattle.machine.specs.declared.Status.{Status}
use Rattle.machine.specs.declared.Status.TheVariants.{Spoilt as spoilt}
use Rattle.machine.specs.declared.Outcome.{Outcome}
use Rattle.machine.specs.declared.Outcome.TheVariants.{Accepted as accepted, NoAt11 as no_at11, NoAt12 as no_at12}
use Rattle.machine.specs.Outcome.{is_spoilt, is_done, Call, lane_data, lane_machine, lane_status}
use Rattle.machine.specs.Demand3.{Memory, Has}
use Rattle.machine.specs.Work.{step_of, Says, Stepped, Ran}
use Rattle.machine.proofs.Demand3.{made_test}
use Rattle.machine.proofs.Turns.{Going, steps_reads, made, ran_spoilt, ran_done, ran_spent, steps_on, test_by_test}
use Rattle.layout.specs.declared.Block.{Block}
use Rattle.layout.specs.declared.Plan.{Plan}
use Rattle.memory.specs.Numbers.{numbers_at}
use Rattle.memory.specs.Planned.{problem_in, data_in}
use Rattle.memory.specs.Calls.{call_in, memory_in}
use Rattle.memory.proofs.Calls.{data_in_lem}
use Rattle.lane_test.specs.Measures.{Measured, Divided}
use Rattle.lane_test.proofs.Tests.{mu_lane}
use Rattle.step.specs.Steps.{With, Told, LanesStep}
use Rattle.run.specs.Tests.{ByNorms, Bears, Tested, AtEveryTest, turn_after}

-- document 01's settings with the two as given are such
abbrev pub settings_of : Controls → Settings
settings_of k = as_given k.centring k.damping

pub settings_with : (k : Controls) → With k (settings_of k)
settings_with k = record { centring = refl; damping = refl }

pub settings_norms : (k : Controls) {A : Problem} → ByNorms A (settings_of k)
settings_norms k = record { primal = λ d q. refl; dual = λ d q. refl }

-- the divisors are those of the settings
pub divided : {w : ℕ} → Width w → {A : Problem} {H : Settings} {d : ℕ → LaneData} {centring : Float} {ws nx ny gs ts br bq : List Float} → ByNorms A H → Measured w A.m A.n A.s centring ws nx ny gs ts
    → br ≡ lanes (λ l. one ⊕ at nx l) → bq ≡ lanes (λ l. one ⊕ at ny l) → Divided w A H d ws br bq
divided {w} W {A} {H} {d} {centring} {ws} {nx} {ny} R M er eq = record {
  primal = λ l b. (on W {f = λ l. one ⊕ at nx l} er).lane l b ∙ ap (λ (v : Float). one ⊕ v) (M.x_norm l b) ∙ sym (R.primal (d l) (numbers_at w A.m A.n A.s ws l));
  dual = λ l b. (on W {f = λ l. one ⊕ at ny l} eq).lane l b ∙ ap (λ (v : Float). one ⊕ v) (M.y_norm l b) ∙ sym (R.dual (d l) (numbers_at w A.m A.n A.s ws l));
}

-- ---- what follows a test

-- the lowest spoilt lane, and the lowest that is not done; w where there is none
unfoldable pub spoilt_in : ℕ → List Status → ℕ
spoilt_in w said = first w (λ l. is_spoilt (get_or said l spoilt))

unfoldable pub undone_in : ℕ → List Status → ℕ
undone_in w said = first w (λ l. not (is_done (get_or said l spoilt)))

-- where a step follows: no lane is spoilt, not all are done, and the limit is not reached
pub record Goes (w : ℕ) (said : List Status) (N k : ℕ) : Type 0 where
  pub sound : spoilt_in w said < w → ⊥
  pub behind : undone_in w said ≡ w → ⊥
  pub under : k ≡ N → ⊥

turn_by : ℕ → ℕ → ℕ → Bool → Bool → Bool → Option Outcome
turn_by r k N t s q = cond t (Some (no_at11 k r)) (cond s (Some (accepted k)) (then_some q (no_at12 k)))

turn_by_lem : (w : ℕ) (said : List Status) (N k : ℕ) → turn_after w said N k ≡ turn_by (spoilt_in w said) k N (ltb (spoilt_in w said) w) (eqb (undone_in w said) w) (eqb k N)
unfolding turn_after turn_by spoilt_in undone_in
turn_by_lem w said N k = refl

pub goes : (w : ℕ) (said : List Status) (N k : ℕ) → turn_after w said N k ≡ None → Goes w said N k
unfolding turn_by
goes w said N k e = go (ltb (spoilt_in w said) w) refl (eqb (undone_in w said) w) refl (eqb k N) refl (sym (turn_by_lem w said N k) ∙ e)
  where
    go : (t : Bool) → ltb (spoilt_in w said) w ≡ t → (s : Bool) → eqb (undone_in w said) w ≡ s → (q : Bool) → eqb k N ≡ q → turn_by (spoilt_in w said) k N t s q ≡ None → Goes w said N k
    go true a s b q c z = absurd (cc)
    go false a true b q c z = absurd (cc)
    go false a false b true c z = absurd (cc)
    go false a false b false c z = record { sound = λ h. omega (arith, ltb-false (spoilt_in w said) w a); behind = eqb-false (undone_in w said) w b; under = eqb-false k N c }

-- no lane is spoilt
pub not_spoilt : {w : ℕ} {said : List Status} {N k : ℕ} → Goes w said N k → (l : ℕ) → l < w → get_or said l spoilt ≢ spoilt
unfolding spoilt_in
not_spoilt {w} {said} g l a z = g.sound (omega (arith, first_under (λ i. is_spoilt (get_or said i spoilt)) w l a (ap is_spoilt z)))

module _ (C : Call) (N k : ℕ) (M : Memory) (said : List Status) (g : Going C N k M) (h : Says C M said) where
  pub ends_ran : (o : Outcome) → turn_after C.K said N (k + 1) ≡ Some o → Ran C N M o
  unfolding turn_by spoilt_in undone_in
  ends_ran o e = go (ltb r C.K) refl (eqb u C.K) refl (eqb (k + 1) N) refl (sym (turn_by_lem C.K said N (k + 1)) ∙ e)
    where
      r : ℕ
      r = spoilt_in C.K said

      u : ℕ
      u = undone_in C.K said

      go : (t : Bool) → ltb r C.K ≡ t → (s : Bool) → eqb u C.K ≡ s → (q : Bool) → eqb (k + 1) N ≡ q → turn_by r (k + 1) N t s q ≡ Some o → Ran C N M o
      go true a s b q c z = let e : no_at11 (k + 1) r ≡ o = cc in subst (Ran C N M) e (ran_spoilt C N k M said g h r refl (ltb-true r C.K a))
      go false a true b q c z = let e : accepted (k + 1) ≡ o = cc in subst (Ran C N M) e (ran_done C N k M said g h r u refl refl (λ l. omega (arith, ltb-false r C.K a)) (eqb-true u C.K b))
      go false a false b true c z = let e : no_at12 (k + 1) ≡ o = cc in subst (Ran C N M) e (ran_spent C N k M said g h r u refl refl (λ l. omega (arith, ltb-false r C.K a)) (eqb-false u C.K b) (eqb-true (k + 1) N c))
      go false a false b false c z = absurd (cc)

  pub goes_on : (M' : Memory) → Goes C.K said N (k + 1) → Stepped C M M' → Going C N (k + 1) M'
  unfolding spoilt_in undone_in
  goes_on M' G v = steps_on C N k M said g h (spoilt_in C.K said) (undone_in C.K said) refl refl G.sound G.behind M' G.under v

-- a run, and what its memory is of every run
pub ran_tests : (C : Call) (N : ℕ) → 1 ≤ N → (M : Memory) (o : Outcome) → Ran C N M o → Ran C N M o × AtEveryTest C N M
ran_tests C N h M o R = (R, λ N' b. let t = test_by_test C N' N h b M o R in (t.0, record { made = t.1; says = t.2 }))

-- ---- the tests of a block's lanes
module _ (H : Settings) (plan : Plan) (block : Block) (w : ℕ) (W : Width w) (off cols : List ℕ) (vals b c tol : List Float) where
  abbrev C : Call
  C = call_in H plan block w off cols vals b c tol

  abbrev A : Problem
  A = problem_in plan off cols vals

  abbrev d : ℕ → LaneData
  d = data_in plan block b c tol

  data_is : (l : ℕ) → l < w → lane_data C l ≡ d l
  data_is = data_in_lem H plan block w off cols vals b c tol

  -- what a test says of a lane is what its numbers in the memory yield
  said_by : (v : List Float) (said : List Status) → ((l : ℕ) → l < w → get_or said l spoilt ≡ status A H (d l) (memory_in plan w v l)) → Says C (memory_in plan w v) said
  said_by v said h l a = h l a ∙ ap (λ (e : LaneData). status A H e (memory_in plan w v l)) (sym (data_is l a))

  yields_of : (k : ℕ) (M : Memory) → Bears C k M → (l : ℕ) → l < w → status A H (lane_data C l) (M l) ≡ lane_status C l k
  unfolding lane_status
  yields_of k M B l a = go (lane_machine C l k) (B.reads l a) (B.shown l a)
    where
      go : (X : Machine) → Has X (M l) → (X ≡ lost → status A H (lane_data C l) (M l) ≡ spoilt) → status A H (lane_data C l) (M l) ≡ yields A H (lane_data C l) X
      go (live q) e f = ap (status A H (lane_data C l)) e ∙ (unfold yields in refl)
      go lost e f = f refl ∙ (unfold yields in refl)

  pub tested : (k : ℕ) (v : List Float) (said : List Status) → Bears C k (memory_in plan w v) → ((l : ℕ) → l < w → get_or said l spoilt ≡ status A H (d l) (memory_in plan w v l)) → Tested C k (memory_in plan w v) said
  tested k v said B h = record {
    made = record { has = B.reads; says = λ l a. said_by v said h l a ∙ yields_of k (memory_in plan w v) B l a };
    says = said_by v said h;
  }

  -- the step is told what it needs
  pub told_step : {v ts nx ny gs : List Float} {said : List Status} {N k : ℕ} → Says C (memory_in plan w v) said → Goes w said N k
      → Measured w plan.m plan.n plan.s H.centring v nx ny gs ts → Told w A H d said ts v
  told_step {v} S G M = record {
    says = λ l a. S l a ∙ ap (λ (e : LaneData). status A H e (memory_in plan w v l)) (data_is l a);
    sound = not_spoilt G;
    centred = mu_lane _ A H d _ M;
  }

  pub stepped : {top : ℕ} {v v' : List Float} → LanesStep w A H d top v v' → Stepped C (memory_in plan w v) (memory_in plan w v')
  stepped {top} {v} S l a = S.taken l a ∙ ap (λ (e : LaneData). step_of A H e (memory_in plan w v l) (status A H e (memory_in plan w v l))) (sym (data_is l a))

  module _ (N k : ℕ) (M : Memory) (g : Going C N k M) where
    four : List Status
    four = σ 0 ∷ σ 1 ∷ σ 2 ∷ σ 3 ∷ []
      where
        σ : ℕ → Status
        σ l = status A H (lane_data C l) (M l)

    four_says : Says C M four
    unfolding four
    four_says = λ l a. four_lanes (λ (l : ℕ). get_or four l spoilt ≡ status A H (lane_data C l) (M l)) refl refl refl refl l (omega (arith, W.most))

    status_is : (l : ℕ) → l < w → status A H (lane_data C l) (M l) ≡ lane_status C l (k + 1)
    status_is l a = sym (four_says l a) ∙ (made_test C (k + 1) M four (made C N k M four g four_says)).says l a

    -- the next test's memory bears its machines' numbers
    pub bears : Bears C (k + 1) M
    bears = record {
      reads = steps_reads C N k M g;
      shown = λ l a e. status_is l a ∙ (unfold lane_status in ap (yields A H (lane_data C l)) e ∙ (unfold yields in refl));
    }
