-- `sizes::costliest` meets its contract. Assumes nothing.
use mathlib.Core.Path.{◌≡◌, sym, ap, ap₂, ◌∙◌}
use mathlib.Core.Bool.{Bool}
use Prim.Native.Nat.{ℕ, ◌+◌, ◌-◌, ◌*◌, ◌/◌}
use native.Mathlib.Omega.{arith}
use Rattle.csr.specs.Verdict.{told, costs, refused, ask}
use Rattle.sizes.specs.Costliest.{full_e, full_d}
use Rattle.sizes.specs.Sizes.{costliest_verdict}
use Rattle.sizes.proofs.Most.{costliest, cube}
use Rattle.sizes.proofs.costliest.Goals as goal

stored_is : (m : ℕ) → m * (m + 1) / 2 ≡ full_e m
stored_is m = omega (arith, (costliest m).entries)

products_are : (m : ℕ) → (m * m * m - m) / 6 ≡ full_d m
products_are m = omega (arith, (costliest m).products, cube m)

pub returns-then-not-rows_right : goal.returns-then-not-rows_right
unfolding costliest_verdict
returns-then-not-rows_right c = simp (← c.rows_right.ensures, c.if-not-rows_right.true)

pub returns : goal.returns
unfolding costliest_verdict
returns c =
    let m = c.args.m in
    ap₂ (λ (x y : ℕ). told (costs x y)) (stored_is m) (products_are m)
    ∙ ap (λ (t : Bool). ask t (told (costs (full_e m) (full_d m))) (refused 1 0 0)) (sym c.if-not-rows_right.false ∙ c.rows_right.ensures)
