-- Answers of `sizes` and `costliest`: rows under one theorem, `examples_hold` of proofs/Examples.antt. Definitions only.
use Rattle.std.specs.Prelude.{◌≡◌, List, [], ◌∷◌, map, ℕ}
use Rattle.csr.specs.Verdict.{Verdict, told, sized, costs, refused}
use Rattle.csr.specs.Examples.{Matrix, single, star, late, four, gap, twice}
use Rattle.parents.specs.Examples as parents
use Rattle.sizes.specs.Sizes.{sizes_verdict, costliest_verdict}

-- a matrix, its slack rows, and the answer of `sizes`
pub record Row : Type 0 where
  pub of : Matrix
  pub slack : ℕ
  pub says : Verdict

abbrev row : Matrix → ℕ → Verdict → Row
row a s v = record { of = a; slack = s; says = v }

-- the last four: one slack row too many, with good rows, with a row that is empty, with one that does not rise; and no slack row
unfoldable pub rows : List Row
rows =
    row single 1 (told (sized 1 1 0 19 44)) ∷
    row star 3 (told (sized 6 6 4 80 124)) ∷
    row late 3 (told (sized 5 6 2 71 120)) ∷
    row four 4 (told (sized 9 9 7 118 176)) ∷
    row star 4 (refused 7 0 0) ∷
    row gap 3 (refused 4 0 0) ∷
    row twice 2 (refused 5 0 0) ∷
    row star 0 (told (sized 6 6 4 80 100)) ∷ []

unfoldable pub answer : Row → Verdict
unfolding sizes_verdict
answer e = sizes_verdict e.of.m e.of.n e.slack e.of.offsets e.of.columns

-- the parents of the first four stand in parents/specs/Examples.antt
abbrev pub Hold : Type 0
Hold =
    (map answer rows ≡ map (λ (e : Row). e.says) rows)
    × parents.Hold
    × (costliest_verdict 0 ≡ refused 1 0 0)
    × (costliest_verdict 1 ≡ told (costs 1 0))
    × (costliest_verdict 3 ≡ told (costs 6 4))
    × (costliest_verdict 256 ≡ told (costs 32896 2796160))
    × (costliest_verdict 257 ≡ refused 1 0 0)
