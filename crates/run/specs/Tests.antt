-- The tests of a block of lanes, over its real working memory. Definitions only.
use Rattle.std.specs.Prelude.{◌≡◌, cond, not, List, ℕ, ◌≤◌, ◌<◌, eqb, ltb, get_or, Float, Option, Some}
use Rattle.std.specs.Bool.{then_some}
use Rattle.lanes.specs.Lists.{first}
use Rattle.lanes.specs.Arithmetic.{◌⊕◌, norm, one}
use Rattle.lanes.specs.declared.Controls.{Controls}
use Rattle.machine.specs.Machine.{Problem, LaneData, Settings, State, lost, status}
use Rattle.machine.specs.declared.Status.{Status}
use Rattle.machine.specs.declared.Status.TheVariants.{Spoilt as spoilt}
use Rattle.machine.specs.declared.Outcome.TheVariants.{Accepted as accepted, NoAt11 as no_at11, NoAt12 as no_at12}
use Rattle.machine.specs.Outcome.{is_spoilt, is_done, tests_made, Call, lane_data, lane_machine, lane_status}
use Rattle.machine.specs.Demand3.{Memory, Reads, AtTest}
use Rattle.machine.specs.Work.{Says}
use Rattle.layout.specs.declared.Block.{Block}
use Rattle.layout.specs.declared.Plan.{Plan}
use Rattle.memory.specs.declared.Task.{Task}
use Rattle.memory.specs.Planned.{problem_in}
use Rattle.memory.specs.Calls.{call_in}
use Rattle.lane_test.specs.declared.Measures.{Measures}
use Rattle.lane_test.specs.Measures.{Measured}
use Rattle.step.specs.Steps.{With}
use Rattle.machine.specs.declared.Outcome.{Outcome}

-- the divisors are 1 + the norms of x and y
pub record ByNorms (A : Problem) (H : Settings) : Type 0 where
  pub primal : (d : LaneData) (q : State) → H.divisor_r A d q ≡ one ⊕ norm A.n q.x
  pub dual : (d : LaneData) (q : State) → H.divisor_q A d q ≡ one ⊕ norm A.m q.y

-- what was measured for a test, by the caller's centring
abbrev pub MeasuredIn : Controls → Plan → ℕ → List Float → Measures → Type 0
MeasuredIn k plan width ws sums = Measured width plan.m plan.n plan.s k.centring ws sums.nx sums.ny sums.g sums.mu

-- a claim about the call of the block's lanes, by any settings with the controls' centring and damping and the run's divisors
abbrev pub ForLanes : (Call → Type 0) → Controls → Plan → Block → ℕ → List ℕ → List ℕ → List Float → List Float → List Float → List Float → Type 0
ForLanes Claim k plan block width off cols vals b c tol =
    (H : Settings) → With k H → ByNorms (problem_in plan off cols vals) H → Claim (call_in H plan block width off cols vals b c tol)

-- the same of what a block of lanes solves
abbrev pub ForTask : (Call → Type 0) → Controls → Task → ℕ → Type 0
ForTask Claim k t width = ForLanes Claim k t.lists.plan t.block width t.rows.off.now t.rows.cols.now t.rows.vals.now t.b.now t.c.now t.tolerances.now

module _ (C : Call) where
  -- each lane has the numbers that its machine's test k reads; those of a lost machine are free, but its lane shows that it is spoilt
  pub record Bears (k : ℕ) (M : Memory) : Type 0 where
    pub reads : Reads C k M
    pub shown : (l : ℕ) → l < C.K → lane_machine C l k ≡ lost → status C.problem C.settings (lane_data C l) (M l) ≡ spoilt

  -- test k was made on M: what it said of a lane is what its machine's test yields, and what its numbers yield
  pub record Tested (k : ℕ) (M : Memory) (said : List Status) : Type 0 where
    pub made : AtTest C k M said
    pub says : Says C M said

  -- M is the memory of test j, under whatever limit N a run makes that test
  abbrev pub AtEveryTest : ℕ → Memory → Type 0
  AtEveryTest j M = (N : ℕ) → j ≤ tests_made C.K (lane_status C) N → (said : List Status) × Tested j M said

-- what follows test k, of what it said of K lanes: an end at the lowest spoilt lane, with all lanes done or at the limit N, else a step
unfoldable pub turn_after : ℕ → List Status → ℕ → ℕ → Option Outcome
turn_after K said N k =
    let r = first K (λ l. is_spoilt (get_or said l spoilt)) in
    let u = first K (λ l. not (is_done (get_or said l spoilt))) in
    cond (ltb r K) (Some (no_at11 k r)) (cond (eqb u K) (Some (accepted k)) (then_some (eqb k N) (no_at12 k)))
