-- The public call `solve`: its questions, its answer, what it leaves in the lent lists, and demand 3. Definitions only.
use Rattle.std.specs.Prelude.{◌≡◌, Bool, ◌&&◌, List, ℕ, ◌*◌, ◌≤◌, eqb, leb, length, Float, Option, Some, None, Result}
use Rattle.layout.specs.Layout.{working_size}
use Rattle.lanes.specs.Controls.{controls, fractions_proper}
use Rattle.lanes.specs.declared.Controls.{Controls}
use Rattle.csr.specs.Verdict.{Verdict, passed, told, refused, accepted as accepted_at, ask, and_then, told_by}
use Rattle.csr.specs.Questions.{first_no}
use Rattle.csr.specs.Counts.{count_e, size_w, size_f}
use Rattle.csr.specs.Pattern.{has, row}
use Rattle.lists.specs.Lists.{shape, list_of, plan_words}
use Rattle.lists.specs.declared.Which.TheVariants.{Lindptr, Lindices}
use Rattle.plan_file.specs.Matrix.{matrix_lists}
use Rattle.plan_file.specs.Tables.{wide}
use Rattle.plan_file.specs.Verdicts.{file_verdict}
use Rattle.machine.specs.Machine.{as_given}
use Rattle.machine.specs.declared.Outcome.{Outcome}
use Rattle.machine.specs.declared.Outcome.TheVariants.{Accepted as accepted, NoAt11 as no_at11, NoAt12 as no_at12}
use Rattle.machine.specs.Outcome.{largest_limit, Call, solved}
use Rattle.machine.specs.Demand3.{Buffers, leaves, Demand3}
use Rattle.machine.specs.Work.{problem_of}
use Rattle.ipm_simd.specs.declared.Lengths.{Lengths}
use Rattle.ipm_simd.specs.declared.Problem.{Problem}
use Rattle.csr.specs.declared.Refusal.{Refusal}
use Rattle.ipm_simd.specs.declared.Solution.{Solution}

-- what a caller lends and states, but for the lists that may change
pub record Given : Type 0 where
  pub m : ℕ
  pub n : ℕ
  pub s : ℕ
  pub offsets : List ℕ
  pub columns : List ℕ
  pub values : List Float
  pub b : List Float
  pub c : List Float
  pub tolerances : List Float
  pub limit : ℕ
  pub centring : Float
  pub damping : Float
  -- the bytes of a plan's file, where one is lent
  pub file : Option (List ℕ)

-- with no file
abbrev pub given : ℕ → ℕ → ℕ → List ℕ → List ℕ → List Float → List Float → List Float → List Float → Controls → Given
given m n s offsets columns values b c tolerances k =
    record {
      m = m;
      n = n;
      s = s;
      offsets = offsets;
      columns = columns;
      values = values;
      b = b;
      c = c;
      tolerances = tolerances;
      limit = k.limit;
      centring = k.centring;
      damping = k.damping;
      file = None;
    }

-- by what the program is handed
abbrev pub given_of : Problem → Controls → Given
given_of p k = given p.m p.n p.s p.rows.offsets.now p.rows.columns.now p.values.now p.b.now p.c.now p.tolerances.now k

-- the same, where a file is lent or not
abbrev pub with_file : Option (List ℕ) → Given → Given
with_file file a =
    record {
      m = a.m;
      n = a.n;
      s = a.s;
      offsets = a.offsets;
      columns = a.columns;
      values = a.values;
      b = a.b;
      c = a.c;
      tolerances = a.tolerances;
      limit = a.limit;
      centring = a.centring;
      damping = a.damping;
      file = file;
    }

abbrev pub unfiled : Given → Given
unfiled a = with_file None a

abbrev pub lent : List Float → List Float → List ℕ → List Float → Buffers
lent output prices index work = record { output = output; prices = prices; index = index; work = work }

-- the answer, by document 01's number and values
abbrev pub told_solve : Result Solution Refusal → Verdict
told_solve r = told_by (λ a. told (accepted_at a.test a.prices)) r

-- how the tests end, as an answer, where y has so many numbers: 'accepted and the test', with 'its length beside the test'; 11 with its test and its lane; 12 with N
abbrev pub outcome_verdict : ℕ → Outcome → Verdict
outcome_verdict count (accepted k) = told (accepted_at k count)
outcome_verdict count (no_at11 k l) = refused 11 k l
outcome_verdict count (no_at12 k) = refused 12 k 0

-- question 8: 'Are b, c, tolerances and output exactly as long as stated?', and the prices: 'Question 8 now covers that output's length.'
abbrev pub lengths_right : ℕ → ℕ → Lengths → Bool
lengths_right m n L = eqb L.b (4 * m) && eqb L.c (4 * n) && eqb L.tolerances 12 && eqb L.output (4 * n) && eqb L.prices (4 * m)

-- questions 6 to 10, then 13, by W, E, the sizes, the lengths of the lists, and what the caller set
unfoldable pub lengths_verdict : ℕ → ℕ → ℕ → ℕ → ℕ → Lengths → Controls → Verdict
lengths_verdict W E m n s L k =
    ask (leb W L.index)
    (ask (leb s m)
    (ask (lengths_right m n L)
    (ask (leb (working_size 4 m n s E) L.work)
    (ask (leb 1 k.limit && leb k.limit largest_limit)
    (ask (fractions_proper k)
    passed
    (refused 13 0 0))
    (refused 10 0 0))
    (refused 9 0 0))
    (refused 8 0 0))
    (refused 7 0 0))
    (refused 6 0 0)

-- 'A solve may take such a file': 14 to 16 are asked where one is lent
abbrev pub if_filed : Option (List ℕ) → (List ℕ → Verdict) → Verdict
if_filed (Some file) asked = asked file
if_filed None asked = passed

module _ (a : Given) where
  -- what the caller set
  abbrev pub controls_of : Controls
  controls_of = controls a.limit a.centring a.damping

  -- four lanes, and the machine with the two as given
  abbrev pub call : Call
  call =
      record {
        K = 4;
        problem = problem_of a.m a.n a.s a.offsets a.columns a.values;
        settings = as_given a.centring a.damping;
        b = a.b;
        c = a.c;
        tolerances = a.tolerances;
      }

  -- the plan, and the room that the working memory needs
  abbrev pub words : List ℕ
  words = plan_words a.offsets a.columns a.m a.n

  abbrev pub room : ℕ
  room = size_f a.offsets a.columns a.m a.n a.s

  -- 'y, 4m numbers'
  abbrev pub price_count : ℕ
  price_count = call.K * a.m

  -- how long the lists are
  abbrev pub lengths_of : Buffers → Lengths
  lengths_of B =
      record {
        index = length B.index;
        b = length a.b;
        c = length a.c;
        tolerances = length a.tolerances;
        output = length B.output;
        prices = length B.prices;
        work = length B.work;
      }

  -- row i of the plan's lindptr and lindices has j
  abbrev pub planned_has : ℕ → ℕ → Bool
  planned_has i j = has (row (list_of (shape a.offsets a.columns) Lindptr a.m) (list_of (shape a.offsets a.columns) Lindices a.m) i) j

  -- questions 6 to 10 and 13 of a matrix that has passed 1 to 5
  unfoldable pub memory_verdict : Buffers → Verdict
  unfolding lengths_verdict size_w count_e
  memory_verdict B =
      lengths_verdict (size_w a.offsets a.columns a.m a.n) (count_e a.offsets a.columns a.m) a.m a.n a.s (lengths_of B) controls_of

  -- questions 1 to 5 and, of a file that is lent, 14 to 16
  unfoldable pub matrix_verdict : Verdict
  unfolding first_no file_verdict
  matrix_verdict =
      and_then (first_no a.m a.n a.offsets a.columns (length a.values))
      (if_filed a.file (file_verdict wide (matrix_lists a.offsets a.columns a.m a.n)))

  -- questions 1 to 5, 14 to 16, 6 to 10 and 13
  unfoldable pub begun : Buffers → Verdict
  unfolding matrix_verdict memory_verdict
  begun B = and_then matrix_verdict (memory_verdict B)

  -- all these, then 11 and 12 by the machines
  unfoldable pub solve_verdict : Buffers → Verdict
  unfolding begun solved
  solve_verdict B = and_then (begun B) (outcome_verdict price_count (solved call a.limit))

  -- 'A no at 1 to 10 changes no buffer.' And 13, and 14 to 16: 'no buffer changed'
  abbrev pub if_passed : Verdict → Buffers → Buffers → Buffers
  if_passed passed new old = new
  if_passed (told v) new old = old
  if_passed (refused q p l) new old = old

  unfoldable pub solve_buffers : Buffers → Buffers
  unfolding begun size_f solved
  solve_buffers B = if_passed (begun B) (leaves call words room a.limit B) B

  -- the answer, the lent lists, and demand 3 whole once questions 1 to 10, 13 and, of a file that is lent, 14 to 16 got a yes
  pub record Solved (B B' : Buffers) (r : Result Solution Refusal) : Type 0 where
    pub answer : told_solve r ≡ solve_verdict B
    pub buffers : B' ≡ solve_buffers B
    pub demand3 : begun B ≡ passed → (o : Outcome) × (told_solve r ≡ outcome_verdict price_count o) × Demand3 call words room planned_has a.limit B B' o

-- 'where these don't arise it gives the answer and buffers that it gives without one': unless the answer is a no at 14, 15 or 16, it is that of the
-- solve without a file, and so is every buffer. `as_unfiled` of proofs/Filed.antt, for all numbers and lists
pub record AsUnfiled (a : Given) (B : Buffers) : Type 0 where
  pub same : ((q : ℕ) → 14 ≤ q → q ≤ 16 → solve_verdict a B ≡ refused q 0 0 → ⊥)
      → (solve_verdict a B ≡ solve_verdict (unfiled a) B) × (solve_buffers a B ≡ solve_buffers (unfiled a) B)
