-- What the parts of a solve start from, and what they leave. Definitions only.
use Rattle.std.specs.Prelude.{◌≡◌, List, ◌++◌, ℕ, ◌*◌, ◌≤◌, length, drop, Float, Result}
use Rattle.layout.specs.Layout.{working_size}
use Rattle.csr.specs.Csr.{Accepted}
use Rattle.csr.specs.Counts.{size_w, Counted}
use Rattle.machine.specs.Outcome.{largest_limit, solved}
use Rattle.machine.specs.Demand3.{Buffers, leaves, Demand3}
use Rattle.csr.specs.Verdict.{passed, and_then}
use Rattle.layout.specs.declared.Plan.{Plan}
use Rattle.csr.specs.declared.Refusal.{Refusal}
use Rattle.ipm_simd.specs.declared.Solution.{Solution}
use Rattle.ipm_simd.specs.Solve.{Given, lent, call, words, room, price_count, planned_has, told_solve, outcome_verdict, memory_verdict, if_passed}

-- questions 1 to 10 got a yes, and E, S and D are counted; the tests need nothing of 13
pub record Asked10 (a : Given) (B : Buffers) (stored shared products : ℕ) : Type 0 where
  pub ok : Accepted a.offsets a.columns a.m a.n
  pub values : length a.values ≡ length a.columns
  pub counts : Counted a.offsets a.columns a.m stored shared products
  pub index : size_w a.offsets a.columns a.m a.n ≤ length B.index
  pub slack : a.s ≤ a.m
  pub b_long : length a.b ≡ 4 * a.m
  pub c_long : length a.c ≡ 4 * a.n
  pub tol_long : length a.tolerances ≡ 12
  pub output : length B.output ≡ 4 * a.n
  pub prices : length B.prices ≡ 4 * a.m
  pub work : working_size 4 a.m a.n a.s stored ≤ length B.work
  pub from : 1 ≤ a.limit
  pub up_to : a.limit ≤ largest_limit

-- the tests were made: the answer, the lent lists and demand 3
pub record Finished (a : Given) (B B' : Buffers) (r : Result Solution Refusal) : Type 0 where
  pub answer : told_solve r ≡ outcome_verdict (price_count a) (solved (call a) a.limit)
  pub buffers : B' ≡ leaves (call a) (words a) (room a) a.limit B
  pub demand3 : Demand3 (call a) (words a) (room a) (planned_has a) a.limit B B' (solved (call a) a.limit)

-- the same of any index memory that the plan was written over
abbrev pub Ends : Given → Plan → List Float → List Float → List Float → Buffers → Result Solution Refusal → Type 0
Ends a p output prices work B' r =
    (old : List ℕ)
    → Asked10 a (lent output prices old work) p.stored p.shared p.products
    → B'.index ≡ words a ++ drop (size_w a.offsets a.columns a.m a.n) old
    → Finished a (lent output prices old work) B' r

-- questions 6 to 10 and 13, and then the tests
pub record Continued (a : Given) (B B' : Buffers) (r : Result Solution Refusal) : Type 0 where
  pub answer : told_solve r ≡ and_then (memory_verdict a B) (outcome_verdict (price_count a) (solved (call a) a.limit))
  pub buffers : B' ≡ if_passed a (memory_verdict a B) (leaves (call a) (words a) (room a) a.limit B) B
  pub demand3 : memory_verdict a B ≡ passed → Demand3 (call a) (words a) (room a) (planned_has a) a.limit B B' (solved (call a) a.limit)
