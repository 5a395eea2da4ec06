-- The public calls `sizes` and `costliest`: their questions and their answers. Definitions only.
use Rattle.std.specs.Prelude.{List, ℕ, leb, length, Result}
use Rattle.csr.specs.Verdict.{Verdict, told, sized, costs, refused, ask, and_then, told_by}
use Rattle.csr.specs.Questions.{rows_right, first_no}
use Rattle.csr.specs.Counts.{count_e, count_s, count_d, size_w, size_f}
use Rattle.sizes.specs.Costliest.{full_e, full_d}
use Rattle.csr.specs.declared.Refusal.{Refusal}
use Rattle.sizes.specs.declared.MatrixSizes.{MatrixSizes}
use Rattle.sizes.specs.declared.MostCounts.{MostCounts}

-- the answers, each by its number and values
abbrev pub told_sizes : Result MatrixSizes Refusal → Verdict
told_sizes r = told_by (λ z. told (sized z.stored z.shared z.products z.words z.numbers)) r

abbrev pub told_costliest : Result MostCounts Refusal → Verdict
told_costliest r = told_by (λ z. told (costs z.stored z.products)) r

-- question 7, then E, S, D, W and F as plan and solve have them
unfoldable pub slack_verdict : ℕ → ℕ → ℕ → List ℕ → List ℕ → Verdict
unfolding count_e count_s count_d size_w size_f
slack_verdict m n s offsets columns =
    ask (leb s m)
    (told (sized (count_e offsets columns m) (count_s offsets columns m) (count_d offsets columns m) (size_w offsets columns m n) (size_f offsets columns m n s)))
    (refused 7 0 0)

-- 'it asks 1 to 5 and 7'; it is lent no values
unfoldable pub sizes_verdict : ℕ → ℕ → ℕ → List ℕ → List ℕ → Verdict
unfolding first_no slack_verdict
sizes_verdict m n s offsets columns = and_then (first_no m n offsets columns (length columns)) (slack_verdict m n s offsets columns)

-- 'A second call, which asks 1, gives E and D of the costliest pattern of m rows'
unfoldable pub costliest_verdict : ℕ → Verdict
unfolding full_e full_d
costliest_verdict m = ask (rows_right m) (told (costs (full_e m) (full_d m))) (refused 1 0 0)
