-- `ipm_c::ipm_solve` meets its contract: the answer of solve in one number. Assumes nothing.
use mathlib.Core.Path.{sym, ap, ◌∙◌, subst}
use native.Mathlib.Omega.{arith}
use Rattle.lanes.specs.Controls.{controls}
use Rattle.ipm_simd.specs.Solve.{given, with_file, lent, told_solve}
use Rattle.ipm_c.specs.Packed.{packed, Small, lent_file}
use Rattle.ipm_c.proofs.Small.{small_solve, in_one}
use Rattle.ipm_c.proofs.ipm_solve.Goals as goal

pub pack-requires : goal.pack-requires
pack-requires c =
    let said = sym (rw c.lent_file-file.ensures at c.solve.ensures).answer ∙ ap told_solve c.in-Ok.is in
    let small = subst Small said (small_solve (with_file (lent_file c.args.filed c.args.file.now) (given c.args.m c.args.n c.args.s c.args.offsets.now c.args.columns.now c.args.values.now c.args.b.now c.args.c.now c.args.tolerances.now (controls c.args.limit c.args.centring c.args.damping))) (lent c.args.output.now c.args.prices.now c.args.index.now c.args.work.now)) in
    (omega (arith, small.1), omega arith, small.0, omega arith)

pub pack_refusal-requires : goal.pack_refusal-requires
pack_refusal-requires c =
    let said = sym (rw c.lent_file-file.ensures at c.solve.ensures).answer ∙ ap told_solve c.in-Err.is in
    subst Small said (small_solve (with_file (lent_file c.args.filed c.args.file.now) (given c.args.m c.args.n c.args.s c.args.offsets.now c.args.columns.now c.args.values.now c.args.b.now c.args.c.now c.args.tolerances.now (controls c.args.limit c.args.centring c.args.damping))) (lent c.args.output.now c.args.prices.now c.args.index.now c.args.work.now))

pub returns-in-Ok : goal.returns-in-Ok
returns-in-Ok c = in_one (rw c.lent_file-file.ensures at c.solve.ensures) (c.pack.ensures ∙ ap packed (sym (ap told_solve c.in-Ok.is)))

pub returns-in-Err : goal.returns-in-Err
returns-in-Err c = in_one (rw c.lent_file-file.ensures at c.solve.ensures) (c.pack_refusal.ensures ∙ ap packed (sym (ap told_solve c.in-Err.is)))
