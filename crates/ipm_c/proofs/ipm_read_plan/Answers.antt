-- `ipm_c::ipm_read_plan` meets its contract: the answer of read_plan in one number. Assumes nothing.
use mathlib.Core.Path.{sym, ap, ◌∙◌, subst}
use lib.ListN.{length}
use Rattle.ipm_c.specs.Packed.{packed, Small}
use Rattle.ipm_c.proofs.Small.{small_read}
use Rattle.ipm_c.proofs.ipm_read_plan.Goals as goal

pub pack_told-requires : goal.pack_told-requires
pack_told-requires c =
    let a = c.args in
    subst Small (sym c.read_plan.ensures.answer) (small_read a.m a.n a.offsets.now a.columns.now a.file.now (length a.index.now))

pub returns-clause-answer : goal.returns-clause-answer
returns-clause-answer c = c.pack_told.ensures ∙ ap packed c.read_plan.ensures.answer
