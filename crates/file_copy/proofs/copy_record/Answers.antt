-- `file_copy::copy_record` meets its contract. Assumes nothing.
use mathlib.Core.Path.{ap}
use native.Mathlib.Omega.{arith}
use lib.ListN.{length}
use Rattle.base.proofs.Write.{same_text}
use Rattle.file_copy.proofs.Copies.{list_words}
use Rattle.file_copy.proofs.copy_record.Goals as goal

pub copy_body-requires : goal.copy_body-requires
copy_body-requires c = omega (arith, c.requires.1, ap length (list_words c.args.meaning c.args.body.now c.in-Listed.is c.requires.0))

pub returns-in-Listed : goal.returns-in-Listed
returns-in-Listed c = same_text (list_words c.args.meaning c.args.body.now c.in-Listed.is c.requires.0) c.copy_body.ensures
