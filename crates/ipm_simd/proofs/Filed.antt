-- A SOLVE WITH A FILE: unless 14, 15 or 16 is the answer, it is the solve without one. Assumes nothing.
use mathlib.Core.Path.{◌≡◌, refl, ap}
use mathlib.Core.Logic.{◌⊎◌, inl, inr}
use mathlib.Core.Bool.{Bool, true, false}
use Rattle.std.specs.Prelude.{Option, Some, None}
use mathlib.Core.List.{List}
use Prim.Native.Nat.{ℕ, ◌≤◌}
use native.Mathlib.Omega.{arith}
use lib.ListN.{length}
use Rattle.csr.specs.Verdict.{Verdict, passed, told, refused, ask, and_then}
use Rattle.csr.specs.Questions.{first_no}
use Rattle.machine.specs.Outcome.{solved}
use Rattle.machine.specs.Demand3.{Buffers, leaves}
use Rattle.plan_file.specs.Matrix.{matrix_lists}
use Rattle.plan_file.specs.Tables.{Table, wide}
use Rattle.plan_file.specs.Verdicts.{file_verdict, whole_file, ordered_file, matrixs_file}
use Rattle.plan_file.proofs.Files.{one_by_one}
use Rattle.ipm_simd.specs.Solve.{Given, unfiled, call, words, room, price_count, outcome_verdict, memory_verdict, if_filed, matrix_verdict, begun, solve_verdict, if_passed, solve_buffers, AsUnfiled}

-- the answers to 14 to 16
abbrev FileAnswer : Verdict → Type 0
FileAnswer v = (v ≡ passed) ⊎ ((q : ℕ) × (14 ≤ q) × (q ≤ 16) × (v ≡ refused q 0 0))

file_answer : (t : Table) (lists : ℕ → List ℕ) (file : List ℕ) → FileAnswer (file_verdict t lists file)
file_answer t lists file = rw (one_by_one t lists file) (go (whole_file t file) (ordered_file t 1 file) (matrixs_file t lists file))
  where
    go : (a b c : Bool) → FileAnswer (ask a (ask b (ask c passed (refused 16 0 0)) (refused 15 0 0)) (refused 14 0 0))
    go true true true = inl refl
    go true true false = inr (16, omega arith, omega arith, refl)
    go true false c = inr (15, omega arith, omega arith, refl)
    go false b c = inr (14, omega arith, omega arith, refl)

filed_answer : (file : Option (List ℕ)) (says : List ℕ → Verdict) → ((bytes : List ℕ) → FileAnswer (says bytes)) → FileAnswer (if_filed file says)
filed_answer (Some bytes) says h = h bytes
filed_answer None says h = inl refl

module _ (a : Given) (B : Buffers) where
  -- questions 1 to 5
  abbrev first : Verdict
  first = first_no a.m a.n a.offsets a.columns (length a.values)

  -- the matrix's part is that without a file, or a no at 14, 15 or 16
  part : (v w : Verdict) → FileAnswer w → (and_then v w ≡ and_then v passed) ⊎ ((q : ℕ) × (14 ≤ q) × (q ≤ 16) × (and_then v w ≡ refused q 0 0))
  part passed w (inl e) = inl e
  part passed w (inr e) = inr e
  part (told x) w h = inl refl
  part (refused q p l) w h = inl refl

  same_begun : matrix_verdict a ≡ matrix_verdict (unfiled a) → begun a B ≡ begun (unfiled a) B
  unfolding begun memory_verdict
  same_begun e = ap (λ (v : Verdict). and_then v (memory_verdict a B)) e

  same_verdict : begun a B ≡ begun (unfiled a) B → solve_verdict a B ≡ solve_verdict (unfiled a) B
  unfolding solve_verdict
  same_verdict e = ap (λ (v : Verdict). and_then v (outcome_verdict (price_count a) (solved (call a) a.limit))) e

  same_buffers : begun a B ≡ begun (unfiled a) B → solve_buffers a B ≡ solve_buffers (unfiled a) B
  unfolding solve_buffers
  same_buffers e = ap (λ (v : Verdict). if_passed a v (leaves (call a) (words a) (room a) a.limit B) B) e

  file_no : (q : ℕ) → matrix_verdict a ≡ refused q 0 0 → solve_verdict a B ≡ refused q 0 0
  unfolding solve_verdict begun
  file_no q e = ap (λ (v : Verdict). and_then (and_then v (memory_verdict a B)) (outcome_verdict (price_count a) (solved (call a) a.limit))) e

  parts : (matrix_verdict a ≡ matrix_verdict (unfiled a)) ⊎ ((q : ℕ) × (14 ≤ q) × (q ≤ 16) × (matrix_verdict a ≡ refused q 0 0))
  unfolding matrix_verdict
  parts = part first (if_filed a.file (file_verdict wide (matrix_lists a.offsets a.columns a.m a.n)))
      (filed_answer a.file _ (file_answer wide (matrix_lists a.offsets a.columns a.m a.n)))

  pub as_unfiled : AsUnfiled a B
  as_unfiled = record { same = λ none. go none parts }
    where
      go : ((q : ℕ) → 14 ≤ q → q ≤ 16 → solve_verdict a B ≡ refused q 0 0 → ⊥)
          → (matrix_verdict a ≡ matrix_verdict (unfiled a)) ⊎ ((q : ℕ) × (14 ≤ q) × (q ≤ 16) × (matrix_verdict a ≡ refused q 0 0))
          → (solve_verdict a B ≡ solve_verdict (unfiled a) B) × (solve_buffers a B ≡ solve_buffers (unfiled a) B)
      go none (inl e) = (same_verdict (same_begun e), same_buffers (same_begun e))
      go none (inr e) = absurd (none e.0 e.1 e.2 (file_no e.0 e.3))
