-- The public calls `write_plan` and `read_plan`: their questions, their answers, and what they leave in the lent lists. Definitions only.
use Rattle.std.specs.Prelude.{◌≡◌, List, ◌++◌, ℕ, ◌+◌, ◌*◌, leb, length, take, drop, Result}
use Rattle.csr.specs.Verdict.{Verdict, passed, told, written, refused, ask, and_then, told_by}
use Rattle.csr.specs.Questions.{first_no}
use Rattle.csr.specs.Counts.{size_w}
use Rattle.lists.specs.Lists.{plan_words}
use Rattle.ipm_common.specs.Plan.{room_verdict, left, plan_verdict, plan_index}
use Rattle.plan_file.specs.Matrix.{matrix_lists}
use Rattle.plan_file.specs.Tables.{wide}
use Rattle.plan_file.specs.Verdicts.{file_verdict}
use Rattle.plan_file.specs.Promises.{plan_file}
use Rattle.csr.specs.declared.Refusal.{Refusal}

-- the answer of write_plan, by its number and values
abbrev pub told_write : Result ℕ Refusal → Verdict
told_write r = told_by (λ k. told (written k)) r

module _ (m n : ℕ) (offsets columns : List ℕ) where
  -- 'at least 4W + 96 bytes for the file'
  abbrev pub file_bytes : ℕ
  file_bytes = 4 * size_w offsets columns m n + 96

  -- ---- write_plan

  -- question 6 and, 'as 8', whether the file has room; then 'the bytes written'
  unfoldable pub rooms_verdict : ℕ → ℕ → Verdict
  unfolding size_w
  rooms_verdict words bytes =
      ask (leb (size_w offsets columns m n) words)
      (ask (leb file_bytes bytes)
      (told (written file_bytes))
      (refused 8 0 0))
      (refused 6 0 0)

  -- 'it plans for itself, asks 1 to 6 and, as 8, ..', of so many words and bytes
  unfoldable pub write_verdict : ℕ → ℕ → Verdict
  unfolding first_no rooms_verdict
  write_verdict words bytes = and_then (first_no m n offsets columns (length columns)) (rooms_verdict words bytes)

  -- 'leaves index memory as plan does': the plan and the old rest after a yes, and as before after a no, 8 too
  abbrev pub words_after : Verdict → List ℕ → List ℕ
  words_after v index = left v (plan_words offsets columns m n ++ drop (size_w offsets columns m n) index) index

  -- 'leaves bytes past those': the file and the old rest after a yes, and as before after a no
  abbrev pub bytes_after : Verdict → List ℕ → List ℕ
  bytes_after v file = left v (plan_file offsets columns m n ++ drop file_bytes file) file

  -- ---- read_plan

  -- 'asks 1 to 5, 14 to 16, then 6'
  unfoldable pub read_verdict : List ℕ → ℕ → Verdict
  unfolding first_no file_verdict room_verdict
  read_verdict file words =
      and_then (and_then (first_no m n offsets columns (length columns)) (file_verdict wide (matrix_lists offsets columns m n) file)) (room_verdict m n offsets columns words)

  -- ---- what the two promise together: `carried` of proofs/Carried.antt, for all numbers and lists
  pub record Carried : Type 0 where
    -- 'answers and leaves index memory as plan does', once 14 to 16 get a yes
    pub answers : (file index : List ℕ) → file_verdict wide (matrix_lists offsets columns m n) file ≡ passed
        → (read_verdict file (length index) ≡ plan_verdict m n offsets columns (length index))
        × (words_after (read_verdict file (length index)) index ≡ plan_index m n offsets columns index)
    -- the bytes that were written get a yes at 14 to 16
    pub yes : (words k : ℕ) (file : List ℕ) → write_verdict words (length file) ≡ told (written k)
        → file_verdict wide (matrix_lists offsets columns m n) (take k (bytes_after (write_verdict words (length file)) file)) ≡ passed
