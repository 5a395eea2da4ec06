-- `file_write::records::put_head` meets its contract. Assumes nothing.
use mathlib.Core.Path.{◌∙◌}
use Rattle.base.proofs.Write.{then_written, same_text}
use Rattle.file_write.proofs.Puts.{bytes_two, bytes_four}
use Rattle.file_write.proofs.records.put_head.Goals as goal

pub returns : goal.returns
returns c =
    then_written (same_text (c.to_le_bytes.ensures ∙ bytes_four _) c.put_all-next.ensures)
    (same_text (c.to_le_bytes-2.ensures ∙ bytes_two _) c.put_all.ensures)
