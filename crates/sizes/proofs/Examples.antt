-- The rows of specs/Examples.antt hold: sizes by computing, the costliest pattern by its formulas. Assumes nothing.
use mathlib.Core.Path.{◌≡◌, refl, ap, ap₂, ◌∙◌}
use mathlib.Core.Bool.{Bool, true}
use Prim.Native.Nat.{ℕ, ◌+◌, ◌-◌, ◌*◌}
use native.Mathlib.Omega.{arith}
use Rattle.csr.specs.Verdict.{told, costs, refused, ask}
use Rattle.csr.specs.Questions.{rows_right}
use Rattle.parents.proofs.Examples as parents
use Rattle.sizes.specs.Costliest.{full_e, full_d}
use Rattle.sizes.specs.Sizes.{costliest_verdict}
use Rattle.sizes.specs.Examples.{rows, answer, Hold}
use Rattle.sizes.proofs.Most.{costliest}

-- an answer of `costliest`, by the formulas
costs_are : (m e d : ℕ) → rows_right m ≡ true → 2 * e ≡ m * (m + 1) → 6 * d ≡ (m - 1) * m * (m + 1) → costliest_verdict m ≡ told (costs e d)
unfolding costliest_verdict
costs_are m e d h p q =
    ap (λ (t : Bool). ask t (told (costs (full_e m) (full_d m))) (refused 1 0 0)) h
    ∙ ap₂ (λ (x y : ℕ). told (costs x y)) (omega (arith, p, (costliest m).entries)) (omega (arith, q, (costliest m).products))

refused_at : (m : ℕ) → rows_right m ≡ rows_right 0 → costliest_verdict m ≡ refused 1 0 0
unfolding costliest_verdict
refused_at m h = ap (λ (t : Bool). ask t (told (costs (full_e m) (full_d m))) (refused 1 0 0)) h

pub examples_hold : Hold
unfolding rows answer
examples_hold = (refl, parents.examples_hold, refused_at 0 refl, costs_are 1 1 0 refl refl refl, costs_are 3 6 4 refl refl refl, costs_are 256 32896 2796160 refl refl refl, refused_at 257 refl)
