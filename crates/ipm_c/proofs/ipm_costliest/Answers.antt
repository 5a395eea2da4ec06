-- `ipm_c::ipm_costliest` meets its contract: the answer of costliest in one number, and its counts through pointers. Assumes nothing.
use mathlib.Core.Path.{sym, ap, ◌∙◌, subst}
use Rattle.csr.specs.Verdict.{Verdict}
use Rattle.sizes.specs.Sizes.{told_costliest}
use Rattle.ipm_c.specs.Packed.{packed, Small}
use Rattle.ipm_c.specs.Results.{costs_of, costs_left}
use Rattle.ipm_c.proofs.Small.{small_costliest}
use Rattle.ipm_c.proofs.ipm_costliest.Goals as goal

pub pack_refusal-requires : goal.pack_refusal-requires
pack_refusal-requires c =
    let a = c.args in
    let said = sym c.costliest.ensures ∙ ap told_costliest c.in-Err.is in
    subst Small said (small_costliest a.m)

pub returns-in-Ok : goal.returns-in-Ok
returns-in-Ok c =
    let a = c.args in
    let said = sym (ap told_costliest c.in-Ok.is) ∙ c.costliest.ensures in
    record { answer = c.pack.ensures ∙ ap packed said; results = ap (λ (v : Verdict). costs_left v (costs_of a.stored.now a.products.now)) said }

pub returns-in-Err : goal.returns-in-Err
returns-in-Err c =
    let a = c.args in
    let said = sym (ap told_costliest c.in-Err.is) ∙ c.costliest.ensures in
    record { answer = c.pack_refusal.ensures ∙ ap packed said; results = ap (λ (v : Verdict). costs_left v (costs_of a.stored.now a.products.now)) said }
