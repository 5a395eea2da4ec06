-- `file_walk::walk::is_whole` meets its contract. Assumes nothing.
use Rattle.plan_file.specs.Tables.{wide}
use Rattle.file_walk.proofs.Walks.{walked_all, stopped, bad_body, walked_on}
use Rattle.file_walk.proofs.walk.is_whole.Goals as goal

pub returns-in_default : goal.returns-in_default
returns-in_default c = stopped wide _ _ c.loop-at.invariant c.loop-at-test.true c.in_default.ensures

pub returns-then-not-is_whole_body : goal.returns-then-not-is_whole_body
returns-then-not-is_whole_body c =
    let r = c.in-Some.ensures in
    bad_body wide _ _ c.loop-at.invariant c.loop-at-test.true r.0 _ (rw (r.1.meaning, r.1.body) at c.is_whole_body.ensures) c.if-not-is_whole_body.true

pub loop-at-preserved : goal.loop-at-preserved
loop-at-preserved c =
    let r = c.in-Some.ensures in
    rw r.1.end
    (walked_on wide _ _ c.loop-at.invariant c.loop-at-test.true r.0 _ (rw (r.1.meaning, r.1.body) at c.is_whole_body.ensures) c.if-not-is_whole_body.false)

pub returns : goal.returns
returns c = walked_all wide _ _ c.loop-at-test.false c.loop-at.invariant
