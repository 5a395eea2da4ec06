-- Demand 3: one claim about all the tests of a solve. Definitions only.
use Rattle.std.specs.Prelude.{◌≡◌, ◌↔◌, ◌≢◌, Bool, true, false, List, ◌++◌, ℕ, ◌+◌, ◌*◌, ◌≤◌, ◌<◌, get_or, length, drop, replicate, Float}
use Rattle.std.specs.Float.{nan}
use Rattle.csr.specs.Pattern.{neighbours}
use Rattle.csr.specs.Chain.{Chain}
use Rattle.lanes.specs.Arithmetic.{null}
use Rattle.lanes.specs.Lists.{at}
use Rattle.machine.specs.Machine.{State, Machine, live, lost, Status, spoilt, fresh, next, in_factor}
use Rattle.machine.specs.Outcome.{Outcome, accepted, no_at11, no_at12, largest_limit, tests_made, Call, lane_data, lane_machine, lane_status, solved, field_of, field_at}
use Rattle.machine.specs.Ends.{Ends}

-- the numbers of each lane. Of K lanes those below K count: nothing is said of any other
abbrev pub Memory : Type 0
Memory = ℕ → State

-- the lent lists that a solve may change: x goes to the output, y to the prices
pub record Buffers : Type 0 where
  pub output : List Float
  pub prices : List Float
  pub index : List ℕ
  pub work : List Float

abbrev pub is_lost : Machine → Bool
is_lost (live q) = false
is_lost lost = true

-- a lane with these numbers has those of the machine; the numbers of a lost machine are free
abbrev pub Has : Machine → State → Type 0
Has (live q) p = p ≡ q
Has lost p = Unit {0}

module _ (C : Call) where
  -- each lane's numbers are all 1000.0
  abbrev pub Started : Memory → Type 0
  Started M = (l : ℕ) → l < C.K → M l ≡ fresh C.problem

  -- each lane of M' has what the lane's own step or wait makes of its numbers in M: what the program's step promises
  abbrev pub Moved : Memory → Memory → Type 0
  Moved M M' = (l : ℕ) → l < C.K → Has (next C.problem C.settings (lane_data C l) (live (M l))) (M' l)

  -- each lane has the numbers that its machine's test k reads: a program's test requires this of its memory
  abbrev pub Reads : ℕ → Memory → Type 0
  Reads k M = (l : ℕ) → l < C.K → Has (lane_machine C l k) (M l)

  -- at test k each lane has its machine's numbers, and the test said of it what the machine's test yields
  pub record AtTest (k : ℕ) (M : Memory) (said : List Status) : Type 0 where
    pub has : Reads k M
    pub says : (l : ℕ) → l < C.K → get_or said l spoilt ≡ lane_status C l k

  -- tests 1 to k were made, the last on the memory M, and it said this: a chain of memories, the first of 1000.0, each moved to the next
  pub data Made : ℕ → Memory → List Status → Type 0 where
    once : {M : Memory} {said : List Status} → Started M → AtTest 1 M said → Made 1 M said
    again : {k : ℕ} {M M' : Memory} {said said' : List Status}
        → Made k M said → Moved M M' → AtTest (k + 1) M' said' → Made (k + 1) M' said'

  -- 'The output changes only on acceptance, when it holds the four machines' x', and the prices their y: a list of `count` entries that takes the list f of each machine
  abbrev pub output_after : (State → List Float) → ℕ → Outcome → List Float → List Float
  output_after f count (accepted k) v = field_at C f count k
  output_after f count (no_at11 k l) v = v
  output_after f count (no_at12 k) v = v

  -- such a list was `old` and is `new`, and the answer is o
  pub record Output (f : State → List Float) (count : ℕ) (o : Outcome) (old new : List Float) : Type 0 where
    -- 'the output is each machine's x there, bit for bit', and the prices its y: no NaN, whose bits would be free, is among them
    pub holds : (k l e : ℕ) → o ≡ accepted k → l < C.K → e < count → at new (C.K * e + l) ≡ field_of f (lane_machine C l k) e
    pub bits : (k l e : ℕ) → o ≡ accepted k → l < C.K → e < count → at new (C.K * e + l) ≢ nan
    -- without acceptance it is as before
    pub kept : ((k : ℕ) → o ≢ accepted k) → new ≡ old

  -- 'After 11, 12 or acceptance the first W index words hold the plan, the first F working numbers are +0.0, and the rest is as before.'
  abbrev pub leaves : List ℕ → ℕ → ℕ → Buffers → Buffers
  leaves plan F N B =
      record {
        output = output_after (λ q. q.x) C.problem.n (solved C N) B.output;
        prices = output_after (λ q. q.y) C.problem.m (solved C N) B.prices;
        index = plan ++ drop (length plan) B.index;
        work = replicate F null ++ drop F B.work;
      }

  -- `plan` and F are the matrix's; `planned i j`: the plan's factor has an entry (i, j). The lent lists were B and are B', and the answer is o
  pub record Demand3 (plan : List ℕ) (F : ℕ) (planned : ℕ → ℕ → Bool) (N : ℕ) (B B' : Buffers) (o : Outcome) : Type 0 where
    -- 'at every test made each lane has the numbers of document 01's one-lane machine and is done or spoilt exactly when that machine is':
    -- the contract of the loop over the tests, which holds for every limit, ties the memory of each of them to the working memory (TestByTest)
    pub tests : (M : Memory) × (said : List Status) × Made (tests_made C.K (lane_status C) N) M said
    -- 'whatever the other three lanes hold'
    pub others :
        (b c t : List Float) (l k : ℕ)
        → let C' : Call = record { K = C.K; problem = C.problem; settings = C.settings; b = b; c = c; tolerances = t } in
        lane_data C' l ≡ lane_data C l
        → lane_machine C' l k ≡ lane_machine C l k
    -- 'The planned factor and the machine's have an entry (i, j), j below i, exactly when rows i and j are joined by a chain'
    pub factor :
        (i j : ℕ)
        → j < i
        → i < C.problem.m
        → ((planned i j ≡ true) ↔ Chain (neighbours C.problem.off C.problem.cols) i j)
        × ((in_factor C.problem i j ≡ true) ↔ Chain (neighbours C.problem.off C.problem.cols) i j)
    -- from 'The solve is accepted exactly when' to 'Otherwise the no is at 12': a field of Ends for each sentence
    pub ends : Ends C.K (lane_status C) N o
    -- 'the output is each machine's x there', and without acceptance as before
    pub output : Output (λ q. q.x) C.problem.n o B.output B'.output
    -- 'What the user is told about x is now told about y too: in each lane it is the lane machine's y when done'
    pub prices : Output (λ q. q.y) C.problem.m o B.prices B'.prices
    -- the lent lists are as document 01 leaves them, the prices by the output's rule
    pub buffers : B' ≡ leaves plan F N B
    -- 'Under every larger limit up to 10,000 an acceptance and a no at 11 stay the same, buffers too.'
    pub larger : (N' : ℕ) → N ≤ N' → N' ≤ largest_limit → o ≢ no_at12 N → (solved C N' ≡ o) × (leaves plan F N' B ≡ B')
