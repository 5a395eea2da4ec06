-- `ipm_c::ipm_plan` meets its contract: the answer of plan in one number. Assumes nothing.
use mathlib.Core.Path.{sym, ap, ◌∙◌, subst}
use lib.ListN.{length}
use Rattle.ipm_c.specs.Packed.{packed, Small}
use Rattle.ipm_c.proofs.Small.{small_plan}
use Rattle.ipm_c.proofs.ipm_plan.Goals as goal

pub pack_told-requires : goal.pack_told-requires
pack_told-requires c =
    let a = c.args in
    subst Small (sym c.plan.ensures.answer) (small_plan a.m a.n a.offsets.now a.columns.now (length a.index.now))

pub returns-clause-answer : goal.returns-clause-answer
returns-clause-answer c = c.pack_told.ensures ∙ ap packed c.plan.ensures.answer
