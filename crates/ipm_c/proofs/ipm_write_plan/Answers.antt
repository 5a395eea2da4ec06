-- `ipm_c::ipm_write_plan` meets its contract: the answer of write_plan in one number. Assumes nothing.
use mathlib.Core.Path.{sym, ap, ◌∙◌, subst}
use lib.ListN.{length}
use Rattle.ipm_c.specs.Packed.{packed, Small}
use Rattle.ipm_c.proofs.Small.{small_write, small_alike, packed_alike}
use Rattle.ipm_c.proofs.ipm_write_plan.Goals as goal

pub pack_told-requires : goal.pack_told-requires
pack_told-requires c =
    let a = c.args in
    small_alike c.write_plan.result (subst Small (sym c.write_plan.ensures.answer) (small_write a.m a.n a.offsets.now a.columns.now (length a.index.now) (length a.file.now)))

pub returns-clause-answer : goal.returns-clause-answer
returns-clause-answer c = c.pack_told.ensures ∙ packed_alike c.write_plan.result ∙ ap packed c.write_plan.ensures.answer
