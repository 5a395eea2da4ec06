-- Files and their answers, and the bytes of four matrices' files: rows under one theorem, `examples_hold` of proofs/Examples.antt. Definitions only.
use Rattle.std.specs.Prelude.{◌≡◌, List, [], ◌∷◌, ◌++◌, map, ℕ, ◌+◌, length}
use Rattle.csr.specs.Verdict.{Verdict, passed, refused}
use Rattle.csr.specs.Examples.{Matrix, single, star, late, four}
use Rattle.plan_file.specs.Bytes.{words}
use Rattle.plan_file.specs.Records.{record_of}
use Rattle.plan_file.specs.Tables.{wide}
use Rattle.plan_file.specs.Verdicts.{file_verdict}
use Rattle.plan_file.specs.Written.{wide_writer, written_from, written_file}
use Rattle.plan_file.specs.Promises.{plan_file}

-- sixteen lists: list k holds k alone
abbrev self : ℕ → List ℕ
self k = k ∷ []

abbrev good : List ℕ
good = written_file wide_writer self

-- a file, and its answer for those lists
pub record Row : Type 0 where
  pub file : List ℕ
  pub says : Verdict

abbrev row : List ℕ → Verdict → Row
row f v = record { file = f; says = v }

unfoldable pub rows : List Row
unfolding written_from record_of words
rows =
    row good passed ∷
    -- notes in front and behind, of any body
    row (record_of 0xffff [] ++ (good ++ record_of 0x8000 (7 ∷ []))) passed ∷
    row [] (refused 15 0 0) ∷
    -- kind 17 has no width, kind 5 out of its turn has one
    row (record_of 17 (1 ∷ 2 ∷ 3 ∷ [])) (refused 15 0 0) ∷
    row (record_of 5 (1 ∷ 2 ∷ 3 ∷ [])) (refused 14 0 0) ∷
    -- the last kind before the notes is no note
    row (record_of 0x7fff [] ++ good) (refused 15 0 0) ∷
    -- bytes behind the last record are a record cut short, zeros one that is shorter than its kind
    row (good ++ (1 ∷ 0 ∷ 0 ∷ [])) (refused 14 0 0) ∷
    row (good ++ (0 ∷ 0 ∷ 0 ∷ 0 ∷ [])) (refused 14 0 0) ∷
    -- a list that comes again is not the next
    row (good ++ record_of 16 (words 4 (self 16))) (refused 15 0 0) ∷
    -- a cut at the end is found before a wrong order at the start
    row (record_of 2 (words 4 (self 3)) ++ (9 ∷ [])) (refused 14 0 0) ∷
    -- a list that is missing is found before a wrong number
    row (written_from wide_writer (λ k. (k + 1) ∷ []) 1 15) (refused 15 0 0) ∷
    -- other numbers
    row (written_file wide_writer (λ k. (k + 1) ∷ [])) (refused 16 0 0) ∷ []

unfoldable pub answer : Row → Verdict
unfolding file_verdict
answer e = file_verdict wide self e.file

unfoldable pub bytes : Matrix → ℕ
unfolding written_from
bytes a = length (plan_file a.offsets a.columns a.m a.n)

abbrev pub Hold : Type 0
Hold =
    (map answer rows ≡ map (λ (e : Row). e.says) rows)
    × (map bytes (single ∷ star ∷ late ∷ four ∷ []) ≡ 172 ∷ 416 ∷ 380 ∷ 568 ∷ [])
