-- What is promised of the files of a matrix. Definitions only.
use Rattle.std.specs.Prelude.{◌≡◌, ◌↔◌, ◌⊎◌, List, ℕ, ◌+◌, ◌*◌, ◌<◌, ◌≤◌, length, take}
use Rattle.base.specs.Cat.{join}
use Rattle.csr.specs.Counts.{size_w}
use Rattle.csr.specs.Verdict.{passed, refused}
use Rattle.csr.specs.Questions.{first_no}
use Rattle.lists.specs.Lists.{plan_words}
use Rattle.plan_file.specs.Bytes.{Bytes, words}
use Rattle.plan_file.specs.Tables.{wide}
use Rattle.plan_file.specs.Verdicts.{file_verdict, Filed, Fitting, lists_in, lists_from}
use Rattle.plan_file.specs.Written.{wide_writer, written_file, records_with, Noted}
use Rattle.plan_file.specs.Matrix.{matrix_lists}

module _ (off cols : List ℕ) (m n : ℕ) where
  -- the file that the writing call makes
  abbrev pub plan_file : List ℕ
  plan_file = written_file wide_writer (matrix_lists off cols m n)

  pub record Files : Type 0 where
    -- a file of bytes gets a yes at 14 to 16 exactly when it is the matrix's sixteen records in order with whole notes around them
    pub exactly : (file : List ℕ) → Bytes file → Filed wide (matrix_lists off cols m n) file ↔ (file_verdict wide (matrix_lists off cols m n) file ≡ passed)
    -- 'A written file, whatever whole notes a newer writer adds around its records, gets a yes at 14 to 16 for its matrix': none is a way too
    pub yes : (file : List ℕ) → Noted wide_writer (matrix_lists off cols m n) 1 file → file_verdict wide (matrix_lists off cols m n) file ≡ passed
    pub plain : Noted wide_writer (matrix_lists off cols m n) 1 plan_file
    -- 'and gives the lists that were written; no file gives other lists'
    pub gives : (file : List ℕ) → file_verdict wide (matrix_lists off cols m n) file ≡ passed → lists_in wide file ≡ lists_from (matrix_lists off cols m n) 1 16
    -- which are the plan's, one after the other
    pub planned : join (lists_from (matrix_lists off cols m n) 1 16) ≡ plan_words off cols m n
    -- '4W + 96 bytes'
    pub bytes : length plan_file ≡ 4 * size_w off cols m n + 96
    -- a written file that is cut anywhere meets 14 or 15
    pub cuts : (k : ℕ) → k < length plan_file
        → (file_verdict wide (matrix_lists off cols m n) (take k plan_file) ≡ refused 14 0 0) ⊎ (file_verdict wide (matrix_lists off cols m n) (take k plan_file) ≡ refused 15 0 0)
    -- one that has another list meets 16
    pub others : (lists : ℕ → List ℕ) → Fitting wide lists → (k : ℕ) → 1 ≤ k → k ≤ 16 → (lists k ≡ matrix_lists off cols m n k → ⊥)
        → file_verdict wide (matrix_lists off cols m n) (written_file wide_writer lists) ≡ refused 16 0 0
    -- and so does one with other bytes in some body, a flipped bit among them, where no length has changed
    pub flipped : (bodies : ℕ → List ℕ) → ((k : ℕ) → Bytes (bodies k)) → ((k : ℕ) → length (bodies k) ≡ 4 * length (matrix_lists off cols m n k))
        → (k : ℕ) → 1 ≤ k → k ≤ 16 → (bodies k ≡ words 4 (matrix_lists off cols m n k) → ⊥)
        → file_verdict wide (matrix_lists off cols m n) (records_with bodies 1 16) ≡ refused 16 0 0
    -- with its own bodies it is the written file
    pub own : records_with (λ k. words 4 (matrix_lists off cols m n k)) 1 16 ≡ plan_file

-- they hold of every matrix that gets a yes at questions 1 to 5, with as many values as it may have: `all_files` of proofs/Plans.antt
abbrev pub AllFiles : Type 0
AllFiles = (m n : ℕ) (off cols : List ℕ) (values : ℕ) → first_no m n off cols values ≡ passed → Files off cols m n
