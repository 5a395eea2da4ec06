-- `file_write::records::put_record` meets its contract. Assumes nothing.
use mathlib.Core.Path.{refl}
use native.Mathlib.Omega.{arith}
use Rattle.base.proofs.Write.{same_long}
use Rattle.file_write.proofs.Puts.{after_head, wrote_record}
use Rattle.file_write.proofs.records.put_record.Goals as goal

pub put_words-requires : goal.put_words-requires
put_words-requires c =
    let head = c.put_head-body.ensures in
    omega (arith, after_head _ _ head, same_long head, c.requires.0)

pub returns : goal.returns
returns c = wrote_record 4 _ _ _ refl c.put_head-body.ensures c.put_words.ensures
