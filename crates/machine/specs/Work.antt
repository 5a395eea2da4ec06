-- What the functions of a solve promise of their working memory. Definitions only.
use Rattle.std.specs.Prelude.{◌≡◌, List, ℕ, ◌<◌, get_or, Float}
use Rattle.lanes.specs.Arithmetic.{null}
use Rattle.machine.specs.Machine.{Problem, LaneData, Settings, State, Direction, Status, spoilt, done, steps, status, mu, direction, stepped, moved}
use Rattle.machine.specs.Outcome.{Outcome, Call, lane_data, lane_status, solved, tests_made}
use Rattle.machine.specs.Demand3.{Memory, Made}

-- a problem, of its sizes and lists
abbrev pub problem_of : ℕ → ℕ → ℕ → List ℕ → List ℕ → List Float → Problem
problem_of m n s off cols vals = record { m = m; n = n; s = s; off = off; cols = cols; vals = vals }

-- each number p becomes 1·p + h·dp
abbrev pub step_by : Problem → State → Float → Direction → State
step_by A q h r =
    record {
      x = moved A.n h q.x r.dx;
      z = moved A.n h q.z r.dz;
      y = moved A.m h q.y r.dy;
      w = moved A.s h q.w r.dw;
    }

-- a lane's step as the Rust takes it: 'The Rust adds 0·dp' in a done lane
abbrev pub step_of : Problem → Settings → LaneData → State → Status → State
step_of A H d q spoilt = q
step_of A H d q done = step_by A q null (direction A H d q (mu A H d q))
step_of A H d q (steps t) = stepped A H d q t

module _ (C : Call) where
  -- the statuses are what the lanes' numbers yield
  abbrev pub Says : Memory → List Status → Type 0
  Says M said = (l : ℕ) → l < C.K → get_or said l spoilt ≡ status C.problem C.settings (lane_data C l) (M l)

  -- each lane's numbers are its own step of its own numbers
  abbrev pub Stepped : Memory → Memory → Type 0
  Stepped M M' =
      (l : ℕ)
      → l < C.K
      → M' l ≡ step_of C.problem C.settings (lane_data C l) (M l) (status C.problem C.settings (lane_data C l) (M l))

  -- all the tests were made, and on no other numbers than the machines'; M is the memory of the last, which said of each lane what its numbers there yield
  pub record Ran (N : ℕ) (M : Memory) (o : Outcome) : Type 0 where
    pub answer : o ≡ solved C N
    pub said : List Status
    pub tests : Made C (tests_made C.K (lane_status C) N) M said
    pub says : Says M said
