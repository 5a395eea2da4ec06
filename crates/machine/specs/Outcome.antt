-- A solve of K lanes up to a limit: 'Solve runs the four machines test by test, stopping at the first no to 11 or the first all-done.' Definitions only.
use Rattle.std.specs.Prelude.{Bool, true, false, ◌||◌, List, ℕ, ◌+◌, ◌*◌, ◌/◌, ◌%◌, Float}
use Rattle.std.proofs.Math.Bool.{cond, not}
use Rattle.std.proofs.Math.Dec.{eqb, ltb}
use Rattle.std.specs.Float.{nan}
pub use Rattle.machine.specs.declared.Outcome.{Outcome}
pub use Rattle.machine.specs.declared.Outcome.TheVariants.{Accepted as accepted, NoAt11 as no_at11, NoAt12 as no_at12}
use Rattle.lanes.specs.Lists.{at, vec, first, lane}
use Rattle.machine.specs.Machine.{Problem, LaneData, Settings, State, Machine, live, lost, Status, spoilt, done, steps, machine, yields}

abbrev pub is_spoilt : Status → Bool
is_spoilt spoilt = true
is_spoilt done = false
is_spoilt (steps t) = false

abbrev pub is_done : Status → Bool
is_done spoilt = false
is_done done = true
is_done (steps t) = false

-- question 10: 'Is N from 1 to 10,000?'
abbrev pub largest_limit : ℕ
largest_limit = 10000

-- `says l k`: what test k of lane l yields
module _ (K : ℕ) (says : ℕ → ℕ → Status) where
  -- question 11's 'Lane: lowest spoilt', at test k; K where none is spoilt
  unfoldable pub lowest_spoilt : ℕ → ℕ
  unfolding first
  lowest_spoilt k = first K (λ l. is_spoilt (says l k))

  -- the lowest lane that is not done at test k; K where all are
  unfoldable pub lowest_undone : ℕ → ℕ
  unfolding first
  lowest_undone k = first K (λ l. not (is_done (says l k)))

  unfoldable pub some_spoilt : ℕ → Bool
  unfolding lowest_spoilt
  some_spoilt k = ltb (lowest_spoilt k) K

  unfoldable pub all_done : ℕ → Bool
  unfolding lowest_undone
  all_done k = eqb (lowest_undone k) K

  -- question 11: 'At this test, is no lane spoilt? Place: the test, counted from 1'; question 12: 'Were all lanes done at some test up to N? Place: N'
  unfoldable pub outcome : ℕ → Outcome
  unfolding first some_spoilt all_done
  outcome N =
      let j = first N (λ i. some_spoilt (i + 1) || all_done (i + 1)) in
      let k = j + 1 in
      cond (eqb j N) (no_at12 N) (cond (some_spoilt k) (no_at11 k (lowest_spoilt k)) (accepted k))

  -- how many tests are made
  unfoldable pub tests_made : ℕ → ℕ
  unfolding first some_spoilt all_done
  tests_made N =
      let j = first N (λ i. some_spoilt (i + 1) || all_done (i + 1)) in
      cond (eqb j N) N (j + 1)

-- the list of n entries of K lanes whose lane l has `f l e` as entry e, at K * e + l
unfoldable pub interleaved : ℕ → ℕ → (ℕ → ℕ → Float) → List Float
unfolding vec
interleaved K n f = vec (K * n) (λ p. f (p % K) (p / K))

-- entry e of one of a machine's lists; no lost machine has an output
abbrev pub field_of : (State → List Float) → Machine → ℕ → Float
field_of f (live q) e = at (f q) e
field_of f lost e = nan

-- ---- a call: the problem, and the lists of all lanes
pub record Call : Type 0 where
  pub K : ℕ
  pub problem : Problem
  pub settings : Settings
  pub b : List Float
  pub c : List Float
  pub tolerances : List Float

module _ (C : Call) where
  -- what lane l is fed: 'Lane l of entry k is at 4k + l'; 'four primal, four dual, four optimality' tolerances
  abbrev pub lane_data : ℕ → LaneData
  lane_data l =
      record {
        b = lane C.K C.problem.m l C.b;
        c = lane C.K C.problem.n l C.c;
        primal = at C.tolerances l;
        dual = at C.tolerances (C.K + l);
        gap = at C.tolerances (2 * C.K + l);
      }

  -- lane l's machine as test k reads it, and what the test yields
  unfoldable pub lane_machine : ℕ → ℕ → Machine
  unfolding machine lane
  lane_machine l k = machine C.problem C.settings (lane_data l) k

  unfoldable pub lane_status : ℕ → ℕ → Status
  unfolding yields lane_machine
  lane_status l k = yields C.problem C.settings (lane_data l) (lane_machine l k)

  unfoldable pub solved : ℕ → Outcome
  unfolding outcome lane_status
  solved N = outcome C.K lane_status N

  -- one list of each machine at test k, of `count` entries, lane l of entry e at K * e + l
  unfoldable pub field_at : (State → List Float) → ℕ → ℕ → List Float
  unfolding interleaved lane_machine
  field_at f count k = interleaved C.K count (λ l e. field_of f (lane_machine l k) e)
