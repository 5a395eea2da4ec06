-- What is proved of these definitions, as types. proofs/Theorems.antt proves each, under the same name in lower case. Definitions only.
use Rattle.std.specs.Prelude.{◌≡◌, ◌⊎◌, ◌↔◌, ◌≢◌, Bool, true, false, List, ◌++◌, ℕ, zero, suc, ◌+◌, ◌*◌, ◌≤◌, ◌<◌, T, length, Float}
use Rattle.std.specs.Float.{nan, inf, fin, binary64}
use Rattle.std.specs.Float.Ieee.{fits}
use Rattle.std.specs.Float.Ieee.Scale.{finite}
use Rattle.csr.specs.Pattern.{neighbours, stored}
use Rattle.csr.specs.Chain.{Chain}
use Rattle.lanes.specs.Arithmetic.{◌⊕◌, ◌⊗◌, null, one}
use Rattle.lanes.specs.Lists.{at}
use Rattle.machine.specs.Machine.{Problem, LaneData, Settings, State, live, Status, spoilt, done, status, mu, direction, all_finite, after, as_given, R, Q, G, machine, yields, in_factor, cell, factor, factor_entry}
use Rattle.machine.specs.Outcome.{Outcome, no_at12, largest_limit, outcome, tests_made, Call, lane_data, lane_status}
use Rattle.machine.specs.Ends.{Ends}
use Rattle.machine.specs.Demand3.{Memory, Buffers, Has, AtTest, Made, Demand3}
use Rattle.machine.specs.Work.{step_of, Says, Ran}

-- ---- the numbers of a machine

-- p is −0
abbrev pub minus_zero : Float → Bool
minus_zero nan = false
minus_zero (inf s) = false
minus_zero (fin false m e) = false
minus_zero (fin true zero e) = true
minus_zero (fin true (suc m) e) = false

-- an f64 holds p, and it is not −0
pub record Sound (p : Float) : Type 0 where
  pub held : T (fits binary64 p)
  pub plus : minus_zero p ≡ false

pub record SoundList (n : ℕ) (v : List Float) : Type 0 where
  pub size : length v ≡ n
  pub each : (k : ℕ) → k < n → Sound (at v k)

pub record SoundState (A : Problem) (q : State) : Type 0 where
  pub x : SoundList A.n q.x
  pub z : SoundList A.n q.z
  pub y : SoundList A.m q.y
  pub w : SoundList A.s q.w

-- a NaN is among x, z, y, w
pub data HasNan (A : Problem) (q : State) : Type 0 where
  in_x : (e : ℕ) → e < A.n → at q.x e ≡ nan → HasNan A q
  in_z : (e : ℕ) → e < A.n → at q.z e ≡ nan → HasNan A q
  in_y : (i : ℕ) → i < A.m → at q.y i ≡ nan → HasNan A q
  in_w : (i : ℕ) → i < A.s → at q.w i ≡ nan → HasNan A q

-- ---- '(The Rust adds 0·dp; no number is ever −0 here.)'

-- 1·p + 0·dp is p where dp is finite, for p that is not −0
abbrev pub ZeroStepKeeps : Type 0
ZeroStepKeeps = (p dp : Float) → Sound p → finite dp ≡ true → one ⊗ p ⊕ null ⊗ dp ≡ p

-- otherwise 0·dp is a NaN, and so is the sum
abbrev pub ZeroStepSpoils : Type 0
ZeroStepSpoils = (p dp : Float) → finite dp ≡ false → (null ⊗ dp ≡ nan) × (one ⊗ p ⊕ null ⊗ dp ≡ nan)

module _ (A : Problem) (H : Settings) (d : LaneData) where
  -- no number of a machine is ever −0
  abbrev pub NoMinusZero : Type 0
  NoMinusZero = (k : ℕ) (q : State) → machine A H d k ≡ live q → SoundState A q

  -- a NaN among x, z, y, w makes G a NaN, and the test spoilt
  abbrev pub NanSpoils : Type 0
  NanSpoils = (q : State) → HasNan A q → (G A H d q ≡ nan) × (status A H d q ≡ spoilt)

  -- so the Rust's step leaves the machine's numbers, and the next test yields of them what it yields of the machine
  abbrev pub RustSteps : Type 0
  RustSteps =
      (q : State)
      → status A H d q ≢ spoilt
      → SoundState A q
      → Has (after A H d q (status A H d q)) (step_of A H d q (status A H d q))
      × (status A H d (step_of A H d q (status A H d q)) ≡ yields A H d (after A H d q (status A H d q)))

  -- ---- a test

  -- 'strictly': a measure that is just its tolerance is not below it
  abbrev pub StrictlyBelow : Type 0
  StrictlyBelow = (q : State) → (R A H d q ≡ d.primal) ⊎ ((Q A H d q ≡ d.dual) ⊎ (G A H d q ≡ d.gap)) → status A H d q ≢ done

  -- '1 + root(Σx²)', '1 + root(Σy²)': with any two numbers given, the divisors of R and Q read neither b nor c
  abbrev pub DivisorsAlone : Type 0
  DivisorsAlone =
      (centring damping : Float) (d' : LaneData) (q : State)
      → let S = as_given centring damping in
      (S.divisor_r A d' q ≡ S.divisor_r A d q) × (S.divisor_q A d' q ≡ S.divisor_q A d q)

  -- 'n + s': of the problem mu reads n and s, and no row that is not slack
  abbrev pub MuAlone : Type 0
  MuAlone = (A' : Problem) (q : State) → A'.n ≡ A.n → A'.s ≡ A.s → mu A' H d q ≡ mu A H d q

  -- ---- the machine from test to test

  -- test k reads q, and q is done
  pub record DoneAt (k : ℕ) (q : State) : Type 0 where
    pub from : 1 ≤ k
    pub reads : machine A H d k ≡ live q
    pub is_done : status A H d q ≡ done

  -- a done machine whose step is finite is done at every later test, with the same numbers
  abbrev pub DoneStays : Type 0
  DoneStays =
      (k : ℕ) (q : State)
      → DoneAt k q
      → all_finite A (direction A H d q (mu A H d q)) ≡ true
      → (j : ℕ)
      → (machine A H d (k + j) ≡ live q) × (yields A H d (machine A H d (k + j)) ≡ done)

  -- otherwise it is spoilt at every later test
  abbrev pub DoneLost : Type 0
  DoneLost =
      (k : ℕ) (q : State)
      → DoneAt k q
      → all_finite A (direction A H d q (mu A H d q)) ≡ false
      → (j : ℕ)
      → yields A H d (machine A H d (k + 1 + j)) ≡ spoilt

  -- a machine that is spoilt at a test is so at every later one
  abbrev pub SpoiltStays : Type 0
  SpoiltStays = (k : ℕ) → 1 ≤ k → yields A H d (machine A H d k) ≡ spoilt → (j : ℕ) → yields A H d (machine A H d (k + j)) ≡ spoilt

  -- ---- the factor

  -- the machine's factor has (i, j) exactly when i = j or there is a chain from i to j
  abbrev pub FactorByChains : Type 0
  FactorByChains = (i j : ℕ) → j ≤ i → (in_factor A i j ≡ true) ↔ ((i ≡ j) ⊎ Chain (neighbours A.off A.cols) i j)

  -- and that is the plan's `stored`
  abbrev pub FactorIsStored : Type 0
  FactorIsStored = (i j : ℕ) → j ≤ i → in_factor A i j ≡ stored (neighbours A.off A.cols) i j

  -- each of its entries is made from the factor's own entries
  abbrev pub FactorEntries : Type 0
  FactorEntries =
      (q : State) (i j : ℕ)
      → i < A.m
      → j ≤ i
      → in_factor A i j ≡ true
      → cell (factor A q) i j ≡ factor_entry A q (cell (factor A q)) i j

-- ---- the run

module _ (K : ℕ) (says : ℕ → ℕ → Status) where
  -- the outcome meets every 'exactly when' of demand 3
  abbrev pub OutcomeEnds : Type 0
  OutcomeEnds = (N : ℕ) → Ends K says N (outcome K says N)

  -- and nothing else does
  abbrev pub EndsOnce : Type 0
  EndsOnce = (N : ℕ) (o : Outcome) → Ends K says N o → o ≡ outcome K says N

  -- a larger limit keeps an acceptance and a no at 11
  abbrev pub LargerLimit : Type 0
  LargerLimit = (N N' : ℕ) → N ≤ N' → outcome K says N ≢ no_at12 N → outcome K says N' ≡ outcome K says N

module _ (C : Call) where
  -- 'four primal, four dual, four optimality' tolerances: lane l has number l of each
  abbrev pub TolerancesInOrder : Type 0
  TolerancesInOrder =
      (primal dual gap : List Float)
      → length primal ≡ C.K
      → length dual ≡ C.K
      → C.tolerances ≡ primal ++ (dual ++ gap)
      → (l : ℕ)
      → l < C.K
      → ((lane_data C l).primal ≡ at primal l) × ((lane_data C l).dual ≡ at dual l) × ((lane_data C l).gap ≡ at gap l)

  -- 'Lane l of entry k is at 4k + l': entry k of what lane l is fed is entry K·k + l of b and of c
  abbrev pub LanesInOrder : Type 0
  LanesInOrder =
      (l k : ℕ)
      → (k < C.problem.m → at (lane_data C l).b k ≡ at C.b (C.K * k + l))
      × (k < C.problem.n → at (lane_data C l).c k ≡ at C.c (C.K * k + l))

  -- what the tests made say of each one of them
  abbrev pub EveryTest : Type 0
  EveryTest =
      (k : ℕ) (M : Memory) (said : List Status)
      → Made C k M said
      → (j : ℕ)
      → 1 ≤ j
      → j ≤ k
      → (M' : Memory) × (said' : List Status) × AtTest C j M' said'

  -- 'at every test made': for each j up to the number of tests made under a limit N, a run under the limit j ends with test j.
  -- Each lane of the memory that it leaves has its machine's numbers there, and they are done or spoilt exactly when the machine is
  abbrev pub TestByTest : Type 0
  TestByTest =
      (N j : ℕ)
      → 1 ≤ j
      → j ≤ tests_made C.K (lane_status C) N
      → (M : Memory) (o : Outcome)
      → Ran C j M o
      → (said : List Status) × AtTest C j M said × Says C M said

  -- two solves that meet demand 3, the second under a larger limit: one answer, the same buffers
  abbrev pub LargerSolve : Type 0
  LargerSolve =
      (plan : List ℕ) (F : ℕ) (planned : ℕ → ℕ → Bool) (N N' : ℕ) (B B₁ B₂ : Buffers) (o₁ o₂ : Outcome)
      → Demand3 C plan F planned N B B₁ o₁
      → Demand3 C plan F planned N' B B₂ o₂
      → N ≤ N'
      → N' ≤ largest_limit
      → o₁ ≢ no_at12 N
      → (o₂ ≡ o₁) × (B₂ ≡ B₁)
