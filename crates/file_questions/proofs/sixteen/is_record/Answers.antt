-- `file_questions::sixteen::is_record` meets its contract. Assumes nothing.
use mathlib.Core.Path.{subst}
use Rattle.file_questions.specs.Takes.{Takes}
use Rattle.file_questions.proofs.Walk.{listed_is}
use Rattle.file_questions.proofs.sixteen.is_record.Goals as goal

pub returns-in-Listed : goal.returns-in-Listed
returns-in-Listed c = listed_is _ c.args.meaning c.args.body.now _ _ c.is_list.result c.in-Listed.is (subst Takes c.in-Listed.is c.requires.0).2 c.is_list.ensures
