-- What a test reads of a block of lanes, and what it yields. Definitions only.
use Rattle.std.specs.Prelude.{ℕ, ◌+◌, ◌*◌, ◌<◌, ◌≡◌, cond, ◌&&◌, List, get_or, Float}
use Rattle.std.specs.Float.Ieee.{lt, is_nan}
use Rattle.machine.specs.Machine.{Problem, LaneData, Settings, status}
use Rattle.machine.specs.declared.Status.{Status}
use Rattle.machine.specs.declared.Status.TheVariants.{Spoilt, Done, Step}
use Rattle.lanes.specs.Lists.{at}
use Rattle.lanes.specs.Arithmetic.{◌⊕◌, ◌⊗◌, ◌⊘◌, Σ, norm, whole}
use Rattle.layout.specs.declared.Block.{Block}
use Rattle.memory.specs.Numbers.{numbers_at}

-- what a test yields, of R, Q, G, mu and the three tolerances
abbrev pub judged : Float → Float → Float → Float → Float → Float → Float → Status
judged r q g mu tr tq tg = cond (is_nan g) Spoilt (cond (lt r tr && lt q tq && lt g tg) Done (Step mu))

-- the tolerances of R, Q and G of lane l of a block: an entry each, of the lanes of the call
abbrev pub primal_tol : Block → List Float → ℕ → Float
primal_tol block tol l = at tol (block.first + l)

abbrev pub dual_tol : Block → List Float → ℕ → Float
dual_tol block tol l = at tol (block.total + (block.first + l))

abbrev pub gap_tol : Block → List Float → ℕ → Float
gap_tol block tol l = at tol (2 * block.total + (block.first + l))

abbrev pub judged_lane : Block → List Float → List Float → List Float → List Float → List Float → ℕ → Status
judged_lane block r q g mu tol l = judged (at r l) (at q l) (at g l) (at mu l) (primal_tol block tol l) (dual_tol block tol l) (gap_tol block tol l)

-- the lanes' norms of x and y, their g: Σ z·x + Σ w·y over the slack rows, and their mu by a centring, of the numbers in a memory
pub record Measured (width m n s : ℕ) (centring : Float) (ws nx ny g mu : List Float) : Type 0 where
  pub x_norm : (l : ℕ) → l < width → at nx l ≡ norm n (numbers_at width m n s ws l).x
  pub y_norm : (l : ℕ) → l < width → at ny l ≡ norm m (numbers_at width m n s ws l).y
  pub gap :
      (l : ℕ)
      → l < width
      → let q = numbers_at width m n s ws l in
      at g l ≡ Σ n (λ e. at q.z e ⊗ at q.x e) ⊕ Σ s (λ i. at q.w i ⊗ at q.y i)
  pub centred : (l : ℕ) → l < width → at mu l ≡ centring ⊗ at g l ⊘ whole (n + s)

-- the lanes' divisors of R and of Q are those of the settings
pub record Divided (width : ℕ) (A : Problem) (H : Settings) (d : ℕ → LaneData) (ws byR byQ : List Float) : Type 0 where
  pub primal : (l : ℕ) → l < width → at byR l ≡ H.divisor_r A (d l) (numbers_at width A.m A.n A.s ws l)
  pub dual : (l : ℕ) → l < width → at byQ l ≡ H.divisor_q A (d l) (numbers_at width A.m A.n A.s ws l)

-- by the settings whose mu and divisors these are, the statuses are what the lanes' numbers yield
abbrev pub Judges : ℕ → Problem → Settings → (ℕ → LaneData) → List Float → List Float → List Float → List Float → List Float → List Float → List Float → List Status → Type 0
Judges width A H d ws nx ny g mu byR byQ said =
    Measured width A.m A.n A.s H.centring ws nx ny g mu
    → Divided width A H d ws byR byQ
    → (l : ℕ)
    → l < width
    → get_or said l Spoilt ≡ status A H (d l) (numbers_at width A.m A.n A.s ws l)
