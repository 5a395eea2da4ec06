-- `file_write::records::put_words` meets its contract. Assumes nothing.
use mathlib.Core.Path.{◌∙◌}
use Rattle.base.proofs.Write.{same_text}
use Rattle.file_write.proofs.Puts.{bytes_four, puts_none, puts_more}
use Rattle.file_write.proofs.records.put_words.Goals as goal

pub loop-x-init : goal.loop-x-init
loop-x-init c = puts_none 4 _ _ _

pub loop-x-preserved : goal.loop-x-preserved
loop-x-preserved c =
    puts_more 4 _ _ _ _ _ _ _ _ c.loop-x-test.true c.loop-x.invariant
    (same_text (c.to_le_bytes.ensures ∙ bytes_four _) c.put_all-at.ensures)
