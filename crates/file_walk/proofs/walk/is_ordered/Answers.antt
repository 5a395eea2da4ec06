-- `file_walk::walk::is_ordered` meets its contract. Assumes nothing.
use Rattle.plan_file.specs.Tables.{wide}
use Rattle.plan_file.proofs.Files.{wide_most}
use Rattle.file_walk.proofs.Walks.{ended_at, headed, not_next, ordered_on}
use Rattle.file_walk.proofs.walk.is_ordered.Goals as goal

pub record_at-r-requires : goal.record_at-r-requires
record_at-r-requires c = headed wide _ _ c.loop-at.invariant.good c.loop-at-test.true

pub returns-in_default : goal.returns-in_default
returns-in_default c =
    not_next wide wide_most _ _ _ c.loop-at.invariant c.loop-at-test.true (rw c.record_at-r.ensures.meaning at c.in_default.ensures)

pub loop-at-preserved : goal.loop-at-preserved
loop-at-preserved c =
    let e = rw c.record_at-r.ensures.meaning at c.in-Some.ensures in
    rw c.record_at-r.ensures.end (ordered_on wide wide_most _ _ _ c.loop-at.invariant c.loop-at-test.true e.0 _ e.1)

pub returns : goal.returns
returns c = ended_at wide wide_most _ _ _ c.loop-at-test.false c.loop-at.invariant
