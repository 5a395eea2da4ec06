-- The machine from test to test, and the lanes of a memory. Assumes nothing.
use mathlib.Core.Path.{◌≡◌, refl, sym, ap, ◌∙◌, subst}
use mathlib.Core.Logic.{◌≢◌}
use mathlib.Core.Bool.{Bool, true, false, cond}
use mathlib.Core.List.{List}
use Prim.Native.Nat.{ℕ, zero, suc, ◌+◌, ◌-◌, ◌≤◌, ◌<◌}
use native.Mathlib.Omega.{arith}
use lib.Ieee.{Float}
use Rattle.machine.specs.Machine.{Problem, LaneData, Settings, State, Machine, live, lost, Status, spoilt, done, status, mu, direction, all_finite, after, next, left, machine, yields, start}
use Rattle.machine.specs.Outcome.{Call, lane_data, lane_machine, lane_status}
use Rattle.machine.specs.Demand3.{Memory, is_lost, Has, Started, Moved, AtTest}

module _ (A : Problem) (H : Settings) (d : LaneData) where
  pub machine_next : (k : ℕ) → 1 ≤ k → machine A H d (k + 1) ≡ next A H d (machine A H d k)
  unfolding machine left
  machine_next zero h = absurd (omega arith)
  machine_next (suc j) h =
      let e : suc j + 1 - 1 ≡ suc j = omega arith in
      let z : suc j - 1 ≡ j = omega arith in
      ap (left A H d) e ∙ ap (λ (i : ℕ). next A H d (left A H d i)) (sym z)

  -- spoilt at every later test
  pub lost_next : (M : Machine) → yields A H d M ≡ spoilt → next A H d M ≡ lost
  unfolding next yields after
  lost_next lost e = refl
  lost_next (live q) e = ap (after A H d q) e

  pub spoilt_next : (k : ℕ) → 1 ≤ k → yields A H d (machine A H d k) ≡ spoilt → yields A H d (machine A H d (k + 1)) ≡ spoilt
  unfolding yields
  spoilt_next k h e = ap (yields A H d) (machine_next k h ∙ lost_next (machine A H d k) e)

  pub spoilt_on : (k : ℕ) → 1 ≤ k → yields A H d (machine A H d k) ≡ spoilt → (j : ℕ) → yields A H d (machine A H d (k + j)) ≡ spoilt
  spoilt_on k h e zero = let z : k + 0 ≡ k = omega arith in ap (λ (i : ℕ). yields A H d (machine A H d i)) z ∙ e
  spoilt_on k h e (suc j) =
      let z : k + suc j ≡ k + j + 1 = omega arith in
      ap (λ (i : ℕ). yields A H d (machine A H d i)) z ∙ spoilt_next (k + j) (omega arith) (spoilt_on k h e j)

  -- the wait: a done machine whose step is finite keeps its numbers, and is done at every later test
  pub wait_next : (q : State) → status A H d q ≡ done → all_finite A (direction A H d q (mu A H d q)) ≡ true → next A H d (live q) ≡ live q
  unfolding next after
  wait_next q e t = ap (after A H d q) e ∙ ap (λ (b : Bool). cond b (live q) lost) t

  pub waits : (q : State) (k : ℕ) → 1 ≤ k → machine A H d k ≡ live q → status A H d q ≡ done → all_finite A (direction A H d q (mu A H d q)) ≡ true
      → (j : ℕ) → (machine A H d (k + j) ≡ live q) × (yields A H d (machine A H d (k + j)) ≡ done)
  unfolding yields
  waits q k h m e t zero =
      let z : k + 0 ≡ k = omega arith in
      let n : machine A H d (k + 0) ≡ live q = ap (machine A H d) z ∙ m in
      (n, ap (yields A H d) n ∙ e)
  waits q k h m e t (suc j) =
      let z : k + suc j ≡ k + j + 1 = omega arith in
      let n : machine A H d (k + suc j) ≡ live q = ap (machine A H d) z ∙ machine_next (k + j) (omega arith) ∙ ap (next A H d) (waits q k h m e t j).0 ∙ wait_next q e t in
      (n, ap (yields A H d) n ∙ e)

  -- where the wait's step is not finite, spoilt at the next test
  pub wait_lost : (q : State) → status A H d q ≡ done → all_finite A (direction A H d q (mu A H d q)) ≡ false → next A H d (live q) ≡ lost
  unfolding next after
  wait_lost q e t = ap (after A H d q) e ∙ ap (λ (b : Bool). cond b (live q) lost) t

module _ (C : Call) where
  -- whatever the other lanes hold: a lane's machine is made of the problem, the settings and its own lane
  pub others : (b c t : List Float) (l k : ℕ)
      → let C' : Call = record { K = C.K; problem = C.problem; settings = C.settings; b = b; c = c; tolerances = t } in
      lane_data C' l ≡ lane_data C l → lane_machine C' l k ≡ lane_machine C l k
  unfolding lane_machine
  others b c t l k e = ap (λ (d : LaneData). machine C.problem C.settings d k) e

  -- ---- from test to test, for a program's memory

  HasLive : (M : Machine) (p : State) → M ≢ lost → Has M p → M ≡ live p
  HasLive (live q) p n h = ap live (sym h)
  HasLive lost p n h = absurd (n refl)

  -- a lane that is not spoilt has a machine, and the machine has the lane's numbers
  pub lane_live : (k : ℕ) (M : Memory) (said : List Status) → AtTest C k M said → (l : ℕ) → l < C.K → lane_status C l k ≢ spoilt
      → lane_machine C l k ≡ live (M l)
  unfolding lane_status yields
  lane_live k M said a l h n =
      HasLive (lane_machine C l k) (M l) (λ e. n (ap (yields C.problem C.settings (lane_data C l)) e)) (a.has l h)

  -- so the next test reads what the step leaves
  pub lane_next : (k : ℕ) (M : Memory) (said : List Status) → 1 ≤ k → AtTest C k M said → (l : ℕ) → l < C.K → lane_status C l k ≢ spoilt
      → lane_machine C l (k + 1) ≡ next C.problem C.settings (lane_data C l) (live (M l))
  unfolding lane_machine
  lane_next k M said o a l h n =
      machine_next C.problem C.settings (lane_data C l) k o ∙ ap (next C.problem C.settings (lane_data C l)) (lane_live k M said a l h n)

  pub moved_has : (k : ℕ) (M M' : Memory) (said : List Status) → 1 ≤ k → AtTest C k M said → ((l : ℕ) → l < C.K → lane_status C l k ≢ spoilt)
      → Moved C M M' → (l : ℕ) → l < C.K → Has (lane_machine C l (k + 1)) (M' l)
  moved_has k M M' said o a n v l h =
      subst (λ (X : Machine). Has X (M' l)) (sym (lane_next k M said o a l h (n l h))) (v l h)

  -- what a test says of a lane: spoilt where the step before lost it, else by its numbers
  pub said_of : (X : Machine) (l : ℕ) (p : State) → Has X p
      → yields C.problem C.settings (lane_data C l) X ≡ cond (is_lost X) spoilt (status C.problem C.settings (lane_data C l) p)
  unfolding yields
  said_of (live q) l p h = ap (status C.problem C.settings (lane_data C l)) (sym h)
  said_of lost l p h = refl

  -- ---- test 1

  pub fresh_has : (M : Memory) → Started C M → (l : ℕ) → l < C.K → Has (lane_machine C l 1) (M l)
  unfolding lane_machine machine left start
  fresh_has M e l h = e l h
