-- Demand 3 from what a solve's contract says. Assumes nothing.
use mathlib.Core.Path.{◌≡◌, sym, ap, ◌∙◌, subst}
use mathlib.Core.Logic.{◌⊎◌, inl, inr, ◌↔◌, ◌≢◌}
use mathlib.Core.Bool.{Bool, true, cond}
use mathlib.Core.List.{List, ◌++◌}
use Prim.Native.Nat.{ℕ, ◌+◌, ◌≤◌, ◌<◌}
use native.Mathlib.Nat.{eq-or-lt_of_le}
use native.Mathlib.Omega.{arith}
use lib.ListN.{length, drop, replicate, get_or}
use Rattle.csr.specs.Pattern.{neighbours, stored}
use Rattle.csr.specs.Chain.{Chain}
use Rattle.csr.specs.Walks.{neighbours_sym}
use Rattle.csr.proofs.Chain.{factor_stored, stored↔chain}
use Rattle.machine.specs.Machine.{Problem, Status, spoilt, live, status, next, yields, machine, left, start, in_factor}
use Rattle.lanes.specs.Arithmetic.{null}
use Rattle.machine.specs.Outcome.{Outcome, no_at12, largest_limit, tests_made, Call, lane_data, lane_machine, lane_status, solved}
use Rattle.machine.specs.Ends.{Ends}
use Rattle.machine.specs.Demand3.{Memory, Buffers, is_lost, Started, Moved, AtTest, Made, once, again, output_after, leaves, Demand3}
use Rattle.machine.specs.Work.{Says}
use Rattle.machine.specs.Theorems.{in_x, in_y}
use Rattle.machine.proofs.Ends.{ends, ends_once, larger}
use Rattle.machine.proofs.Output.{output_of}
use Rattle.machine.proofs.Machines.{others, fresh_has, moved_has, said_of, lane_next}

-- the machine's factor below the diagonal, by chains
pub factor_chain : (A : Problem) (i j : ℕ) → j < i → (in_factor A i j ≡ true) ↔ Chain (neighbours A.off A.cols) i j
unfolding in_factor
factor_chain A i j h =
    let e = factor_stored A.off A.cols i j (omega arith) in
    let s = stored↔chain (neighbours A.off A.cols) (neighbours_sym A.off A.cols) i j h in
    (λ t. s.0 (sym e ∙ t), λ w. e ∙ s.1 w)

module _ (C : Call) where
  pub solved_larger : (N N' : ℕ) → N ≤ N' → solved C N ≢ no_at12 N → solved C N' ≡ solved C N
  unfolding solved
  solved_larger N N' h n = larger C.K (lane_status C) N N' h n

  pub solved_ends : (N : ℕ) → Ends C.K (lane_status C) N (solved C N)
  unfolding solved
  solved_ends N = ends C.K (lane_status C) N

  -- ---- for a loop over the tests: one more test

  pub made_test : (k : ℕ) (M : Memory) (said : List Status) → Made C k M said → AtTest C k M said
  made_test k M said (once e a) = a
  made_test k M said (again m v a) = a

  pub made_from : (k : ℕ) (M : Memory) (said : List Status) → Made C k M said → 1 ≤ k
  made_from k M said (once e a) = omega arith
  made_from k M said (again m v a) = omega arith

  -- the first test: each lane's numbers are all 1000.0, and the test says what they yield
  fresh_says : (M : Memory) → Started C M → (l : ℕ) → l < C.K → lane_status C l 1 ≡ status C.problem C.settings (lane_data C l) (M l)
  unfolding lane_status lane_machine machine left start
  fresh_says M e l b = said_of C (lane_machine C l 1) l (M l) (fresh_has C M e l b)

  pub made_once : (M : Memory) (said : List Status) → Started C M → Says C M said → Made C 1 M said
  made_once M said e h = once e (record { has = fresh_has C M e; says = λ l b. h l b ∙ sym (fresh_says M e l b) })

  -- each further one: the step moves every lane as its own machine does, and the test says spoilt of a lane that the step lost, and of any other what its numbers yield
  pub made_again : (k : ℕ) (M M' : Memory) (said said' : List Status)
      → Made C k M said
      → ((l : ℕ) → l < C.K → lane_status C l k ≢ spoilt)
      → Moved C M M'
      → ((l : ℕ) → l < C.K → get_or said' l spoilt
      ≡ cond (is_lost (next C.problem C.settings (lane_data C l) (live (M l)))) spoilt (status C.problem C.settings (lane_data C l) (M' l)))
      → Made C (k + 1) M' said'
  unfolding lane_status
  made_again k M M' said said' m n v h =
      let a = made_test k M said m in
      let o = made_from k M said m in
      again m v (record {
        has = moved_has C k M M' said o a n v;
        says = λ l b.
            h l b
            ∙ sym (said_of C (next C.problem C.settings (lane_data C l) (live (M l))) l (M' l) (v l b))
            ∙ ap (yields C.problem C.settings (lane_data C l)) (sym (lane_next C k M said o a l b (n l b)));
      })

  -- what a chain of tests says of each one of them
  pub every_test : (k : ℕ) (M : Memory) (said : List Status) → Made C k M said → (j : ℕ) → 1 ≤ j → j ≤ k → (M' : Memory) × (said' : List Status) × AtTest C j M' said'
  every_test k M said (once {M = N} e a) j h b = let z : j ≡ 1 = omega arith in (N, said, subst (λ (i : ℕ). AtTest C i N said) (sym z) a)
  every_test k M said (again {k = i} {M = N} {M' = N'} {said = t} m v a) j h b = go (λ (z : j ≤ i). every_test i N t m j h z) (eq-or-lt_of_le b)
    where
      go : (j ≤ i → (M' : Memory) × (said' : List Status) × AtTest C j M' said') → (j ≡ i + 1) ⊎ (j < i + 1) → (M' : Memory) × (said' : List Status) × AtTest C j M' said'
      go ih (inl z) = (N', said, subst (λ (x : ℕ). AtTest C x N' said) (sym z) a)
      go ih (inr z) = ih (omega arith)

  module _ (plan : List ℕ) (F : ℕ) (planned : ℕ → ℕ → Bool) (N : ℕ) (B : Buffers) where
    leaves_same : (N' : ℕ) → solved C N' ≡ solved C N → leaves C plan F N' B ≡ leaves C plan F N B
    leaves_same N' e i =
        record {
          output = output_after C (λ q. q.x) C.problem.n (e i) B.output;
          prices = output_after C (λ q. q.y) C.problem.m (e i) B.prices;
          index = plan ++ drop (length plan) B.index;
          work = replicate F null ++ drop F B.work;
        }

    -- A run that made its tests, the answer and the lent lists: that is all that a contract of `solve` has to give
    pub demand3 : (B' : Buffers) (o : Outcome)
        → (M : Memory) (said : List Status) → Made C (tests_made C.K (lane_status C) N) M said
        → ((i j : ℕ) → j < i → i < C.problem.m → planned i j ≡ stored (neighbours C.problem.off C.problem.cols) i j)
        → o ≡ solved C N
        → B' ≡ leaves C plan F N B
        → Demand3 C plan F planned N B B' o
    demand3 B' o M said made p e f =
        record {
          tests = (M, said, made);
          others = others C;
          factor = λ i j h b. (
            let s = stored↔chain (neighbours C.problem.off C.problem.cols) (neighbours_sym C.problem.off C.problem.cols) i j h in
                (λ t. s.0 (sym (p i j h b) ∙ t), λ w. p i j h b ∙ s.1 w),
            factor_chain C.problem i j h,
          );
          ends = subst (Ends C.K (lane_status C) N) (sym e) (solved_ends N);
          output = output_of C (λ q. q.x) C.problem.n (λ q i h z. in_x i h z) N o B.output B'.output e (ap (λ (Z : Buffers). Z.output) f);
          prices = output_of C (λ q. q.y) C.problem.m (λ q i h z. in_y i h z) N o B.prices B'.prices e (ap (λ (Z : Buffers). Z.prices) f);
          buffers = f;
          larger = λ N' h u n.
              let z : solved C N' ≡ solved C N = solved_larger N N' h (λ a. n (e ∙ a)) in
              (z ∙ sym e, leaves_same N' z ∙ sym f);
        }

  -- two solves that meet it, the second under a larger limit: one answer, the same buffers
  pub two_limits : (plan : List ℕ) (F : ℕ) (planned : ℕ → ℕ → Bool) (N N' : ℕ) (B B₁ B₂ : Buffers) (o₁ o₂ : Outcome)
      → Demand3 C plan F planned N B B₁ o₁
      → Demand3 C plan F planned N' B B₂ o₂
      → N ≤ N'
      → N' ≤ largest_limit
      → o₁ ≢ no_at12 N
      → (o₂ ≡ o₁) × (B₂ ≡ B₁)
  unfolding solved
  two_limits plan F planned N N' B B₁ B₂ o₁ o₂ p q h u n =
      let r = p.larger N' h u n in
      (ends_once C.K (lane_status C) N' o₂ q.ends ∙ r.0, q.buffers ∙ r.1)
