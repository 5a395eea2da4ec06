-- What the functions of a step leave in the working memory, lane by lane. Definitions only.
use Rattle.std.specs.Prelude.{ℕ, ◌+◌, ◌*◌, ◌≤◌, ◌<◌, ◌≡◌, Bool, cond, false, ◌⊎◌, ◌≢◌, List, get_or, length, Float}
use Rattle.lanes.specs.Lists.{at, vec}
use Rattle.lanes.specs.Lanes.{Width, room}
use Rattle.lanes.specs.Region.{reg}
use Rattle.lanes.specs.Arithmetic.{◌⊖◌, ◌⊘◌, null, one, smaller}
use Rattle.lanes.specs.Constants.{start_value}
use Rattle.lanes.specs.declared.Controls.{Controls}
use Rattle.machine.specs.Machine.{Problem, LaneData, Settings, State, Direction, column_product, f_of, dx_of, complement, theta, direction, moved, mu, status}
use Rattle.machine.specs.declared.Status.{Status}
use Rattle.machine.specs.declared.Status.TheVariants.{Spoilt}
use Rattle.machine.specs.Work.{step_of}
use Rattle.layout.specs.declared.Block.{Block}
use Rattle.layout.specs.declared.Plan.{Plan}
use Rattle.layout.specs.Layout.{y_at, dy_at, rhs_at, w_at, l_at, top_in}
use Rattle.memory.specs.Numbers.{numbers_at, direction_at}
use Rattle.memory.specs.Planned.{Planned, problem_in, data_in}
use Rattle.memory.specs.declared.Task.{Task}

-- a block's lanes are among those of b and c, which are as long as stated
pub record Fed (k : Block) (width m n s : ℕ) (b c : List Float) : Type 0 where
  pub slack : s ≤ m
  pub wide : Width width
  pub within : k.first + width ≤ k.total
  pub b_long : m ≤ room k.total b
  pub c_long : n ≤ room k.total c

-- nothing from entry `top` on has changed
pub record Untouched (width top : ℕ) (old new : List Float) : Type 0 where
  pub size : length new ≡ length old
  pub beyond : (j : ℕ) → width * top ≤ j → at new j ≡ at old j

module _ (width : ℕ) (A : Problem) where
  -- lane l's numbers, and what its step has worked out, in a memory
  abbrev pub numbers_in : List Float → ℕ → State
  numbers_in ws l = numbers_at width A.m A.n A.s ws l

  abbrev pub direction_in : List Float → ℕ → Direction
  direction_in ws l = direction_at width A.m A.n A.s ws l

  -- the numbers have not changed
  pub record Still (top : ℕ) (old new : List Float) : Type 0 where
    pub frame : Untouched width top old new
    pub kept : (l : ℕ) → l < width → numbers_in new l ≡ numbers_in old l

  -- c − Aᵀy, and mu/x
  abbrev pub reduced_costs : LaneData → State → List Float
  reduced_costs d q = vec A.n (λ e. at d.c e ⊖ column_product A q.y e)

  abbrev pub mu_over_x : Float → State → List Float
  mu_over_x mu q = vec A.n (λ e. mu ⊘ at q.x e)

  -- until dx and dz are worked out, their regions have the reduced costs and mu/x
  pub record Ready (d : ℕ → LaneData) (mu ws : List Float) : Type 0 where
    pub costs : (l : ℕ) → l < width → reg width ws (2 * A.n) A.n l ≡ reduced_costs (d l) (numbers_in ws l)
    pub quotients : (l : ℕ) → l < width → reg width ws (3 * A.n) A.n l ≡ mu_over_x (at mu l) (numbers_in ws l)

  module _ (H : Settings) (d : ℕ → LaneData) where
    -- dx, dz and dw of dy
    abbrev pub changes : ℕ → State → Float → List Float → Direction
    changes l q mu dy =
        let dx = dx_of A H (d l) q mu dy in
        record { dx = dx; dz = complement A.n mu q.z q.x dx; dy = dy; dw = complement A.s mu q.w q.y dy }

    -- the right-hand side is the machine's f, and what dx needs besides dy is kept
    pub record RightSide (mu old new : List Float) : Type 0 where
      pub still : Still (l_at A.n A.m A.s) old new
      pub rhs : (l : ℕ) → l < width → reg width new (rhs_at A.n A.m) A.m l ≡ f_of A H (d l) (numbers_in old l) (at mu l)
      pub ready : Ready d mu new

    -- dx, dz and dw are those of the dy that is there, dy has not changed, and `ratios` are the lanes' thetas
    pub record Changed (mu old new ratios : List Float) : Type 0 where
      pub still : Still (l_at A.n A.m A.s) old new
      pub worked : (l : ℕ) → l < width → direction_in new l ≡ changes l (numbers_in old l) (at mu l) (reg width old (dy_at A.n A.m) A.m l)
      pub largest : (l : ℕ) → l < width → at ratios l ≡ theta A H (d l) (numbers_in new l) (direction_in new l)

    -- the step is worked out
    pub record Directed (top : ℕ) (mu old new ratios : List Float) : Type 0 where
      pub still : Still top old new
      pub worked : (l : ℕ) → l < width → direction_in new l ≡ direction A H (d l) (numbers_in old l) (at mu l)
      pub largest : (l : ℕ) → l < width → at ratios l ≡ theta A H (d l) (numbers_in new l) (direction_in new l)

    -- each lane's mu is its machine's, of the numbers in a memory
    abbrev pub Centred : List Float → List Float → Type 0
    Centred ts ws = (l : ℕ) → l < width → at ts l ≡ mu A H (d l) (numbers_in ws l)

    -- the statuses are what the lanes' numbers yield, none is spoilt, and each lane's mu is its machine's
    pub record Told (statuses : List Status) (ts ws : List Float) : Type 0 where
      pub says : (l : ℕ) → l < width → get_or statuses l Spoilt ≡ status A H (d l) (numbers_in ws l)
      pub sound : (l : ℕ) → l < width → get_or statuses l Spoilt ≢ Spoilt
      pub centred : Centred ts ws

    -- each lane takes its own step, as its own test says
    pub record LanesStep (top : ℕ) (old new : List Float) : Type 0 where
      pub frame : Untouched width top old new
      pub taken :
          (l : ℕ) → l < width → let q = numbers_in old l in numbers_in new l ≡ step_of A H (d l) q (status A H (d l) q)

-- of whatever matrix the plan is, by whatever settings and lanes' data
abbrev pub ChangesFor : ℕ → Plan → List Float → List ℕ → List Float → List Float → List Float → List Float → Type 0
ChangesFor width plan vals index mu old new ratios =
    (off cols : List ℕ) (H : Settings) (d : ℕ → LaneData)
    → Planned off cols vals plan index
    → Ready width (problem_in plan off cols vals) d mu old
    → Changed width (problem_in plan off cols vals) H d mu old new ratios

-- settings with the centring and the damping that a caller set
pub record With (k : Controls) (H : Settings) : Type 0 where
  pub centring : H.centring ≡ k.centring
  pub damping : H.damping ≡ k.damping

-- by any settings with this centring and damping, of which the statuses and mu are told, each lane takes its own step
abbrev pub StepTaken : Plan → Block → ℕ → List ℕ → List ℕ → List Float → List Float → List Float → List Status → List Float → Controls → List Float → List Float → Type 0
StepTaken plan block width off cols vals b c statuses ts k old new =
    let A = problem_in plan off cols vals in
    (H : Settings) (tol : List Float)
    → With k H
    → Told width A H (data_in plan block b c tol) statuses ts old
    → LanesStep width A H (data_in plan block b c tol) (top_in plan) old new

-- each number p becomes 1·p + h·dp
abbrev pub moved_by : ℕ → ℕ → ℕ → State → Float → Direction → State
moved_by m n s q h r =
    record { x = moved n h q.x r.dx; z = moved n h q.z r.dz; y = moved m h q.y r.dy; w = moved s h q.w r.dw }

-- the numbers are moved by what was worked out
pub record Advanced (width m n s : ℕ) (damping : Float) (ratios : List Float) (done : List Bool) (old new : List Float) : Type 0 where
  pub frame : Untouched width (l_at n m s) old new
  pub taken :
      (l : ℕ)
      → l < width
      → let h = cond (get_or done l false) null (smaller (damping ⊘ at ratios l) one) in
      numbers_at width m n s new l ≡ moved_by m n s (numbers_at width m n s old l) h (direction_at width m n s old l)

-- every number is 1000.0, and nothing but x, z, y and w has changed
pub record Fresh (width m n s : ℕ) (old new : List Float) : Type 0 where
  pub size : length new ≡ length old
  pub outside :
      (j : ℕ)
      → width * (n + n) ≤ j
      → (j < width * y_at n) ⊎ (width * (y_at n + m) ≤ j)
      → (j < width * w_at n m) ⊎ (width * (w_at n m + s) ≤ j)
      → at new j ≡ at old j
  pub all :
      (l : ℕ)
      → l < width
      → numbers_at width m n s new l
      ≡ record { x = vec n (λ _. start_value); z = vec n (λ _. start_value); y = vec m (λ _. start_value); w = vec s (λ _. start_value) }

-- ---- the same of what a block of lanes solves
-- a clause: it ties the task to the width
abbrev pub FedTask : ℕ → Task → Type 0
FedTask width t = Fed t.block width t.lists.plan.m t.lists.plan.n t.lists.plan.s t.b.now t.c.now

abbrev pub TaskStepTaken : Task → ℕ → List Status → List Float → Controls → List Float → List Float → Type 0
TaskStepTaken t width statuses mu k old new = StepTaken t.lists.plan t.block width t.rows.off.now t.rows.cols.now t.rows.vals.now t.b.now t.c.now statuses mu k old new
