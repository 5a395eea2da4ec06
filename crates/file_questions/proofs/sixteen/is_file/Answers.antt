-- `file_questions::sixteen::is_file` meets its contract. Assumes nothing.
use Rattle.plan_file.specs.Tables.{wide}
use Rattle.file_walk.proofs.Walks.{headed}
use Rattle.file_questions.proofs.Walk.{asking_all, asking_no, asking_on}
use Rattle.file_questions.proofs.sixteen.is_file.Goals as goal

pub record_at-r-requires : goal.record_at-r-requires
record_at-r-requires c = headed wide c.args.file.bytes.now c.loop-at.at c.loop-at.invariant.good c.loop-at-test.true

pub returns-then-not-is_record : goal.returns-then-not-is_record
returns-then-not-is_record c = let r = c.record_at-r.ensures in asking_no wide _ _ _ c.loop-at.invariant c.loop-at-test.true _ r.meaning _ r.body _ c.is_record.ensures c.if-not-is_record.true

pub loop-at-preserved : goal.loop-at-preserved
loop-at-preserved c = let r = c.record_at-r.ensures in asking_on wide _ _ _ c.loop-at.invariant c.loop-at-test.true _ r.meaning _ r.body _ c.is_record.ensures c.if-not-is_record.false _ r.end

pub returns : goal.returns
returns c = asking_all wide _ _ _ c.loop-at-test.false c.loop-at.invariant
