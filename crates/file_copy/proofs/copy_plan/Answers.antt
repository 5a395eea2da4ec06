-- `file_copy::copy_plan` meets its contract. Assumes nothing.
use Prim.Native.Nat.{◌+◌}
use native.Mathlib.Omega.{arith}
use lib.ListN.{length}
use Rattle.record.specs.Little.{le2}
use Rattle.base.proofs.Write.{same_long}
use Rattle.plan_file.specs.Tables.{wide}
use Rattle.file_walk.proofs.Walks.{headed}
use Rattle.file_copy.proofs.Copies.{words_wide, copying_all, next_fits, copying_on}
use Rattle.file_copy.proofs.copy_plan.Goals as goal

pub record_at-r-requires : goal.record_at-r-requires
record_at-r-requires c = headed wide _ _ c.loop-at.invariant.good c.loop-at-test.true

pub copy_record-to-requires : goal.copy_record-to-requires
copy_record-to-requires c =
    let r = c.record_at-r.ensures in
    let fits = next_fits wide _ _ _ _ _ c.loop-at.invariant c.loop-at-test.true (length c.args.index.now) c.requires in
    rw (r.meaning, r.body) (words_wide (le2 c.args.file.bytes.now (c.loop-at.at + 4)), omega (arith, same_long c.loop-at.invariant.wrote, fits))

pub loop-at-preserved : goal.loop-at-preserved
loop-at-preserved c =
    let r = c.record_at-r.ensures in
    rw r.end (copying_on wide _ _ _ _ _ c.loop-at.invariant c.loop-at-test.true _ _ (rw (r.meaning, r.body) at c.copy_record-to.ensures))

pub returns : goal.returns
returns c = copying_all wide _ _ _ _ _ (omega (arith, c.loop-at-test.false)) c.loop-at.invariant
