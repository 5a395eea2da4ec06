-- `ipm_c::ipm_sizes` meets its contract: the answer of sizes in one number, and its counts through pointers. Assumes nothing.
use mathlib.Core.Path.{sym, ap, ◌∙◌, subst}
use native.Mathlib.Omega.{arith}
use Rattle.csr.specs.Verdict.{Verdict}
use Rattle.sizes.specs.Sizes.{told_sizes}
use Rattle.ipm_c.specs.Packed.{packed, Small}
use Rattle.ipm_c.specs.Results.{results, results_left}
use Rattle.ipm_c.proofs.Small.{small_matrix}
use Rattle.ipm_c.proofs.ipm_sizes.Goals as goal

pub pack-requires : goal.pack-requires
pack-requires c =
    let a = c.args in
    let said = sym c.sizes.ensures ∙ ap told_sizes c.in-Ok.is in
    (omega arith, omega arith, subst Small said (small_matrix a.m a.n a.s a.offsets.now a.columns.now), omega arith)

pub pack_refusal-requires : goal.pack_refusal-requires
pack_refusal-requires c =
    let a = c.args in
    let said = sym c.sizes.ensures ∙ ap told_sizes c.in-Err.is in
    subst Small said (small_matrix a.m a.n a.s a.offsets.now a.columns.now)

pub returns-in-Ok : goal.returns-in-Ok
returns-in-Ok c =
    let a = c.args in
    let said = sym (ap told_sizes c.in-Ok.is) ∙ c.sizes.ensures in
    record { answer = c.pack.ensures ∙ ap packed said; results = ap (λ (v : Verdict). results_left v (results a.stored.now a.shared.now a.products.now a.words.now a.numbers.now)) said }

pub returns-in-Err : goal.returns-in-Err
returns-in-Err c =
    let a = c.args in
    let said = sym (ap told_sizes c.in-Err.is) ∙ c.sizes.ensures in
    record { answer = c.pack_refusal.ensures ∙ ap packed said; results = ap (λ (v : Verdict). results_left v (results a.stored.now a.shared.now a.products.now a.words.now a.numbers.now)) said }
