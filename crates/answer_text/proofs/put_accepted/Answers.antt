use Rattle.answer_text.specs.Text.{ascii, accepted_text}
use Rattle.base.proofs.Write.{then_written}
use Rattle.answer_text.proofs.put_accepted.Goals as goal

pub returns : goal.returns
unfolding accepted_text ascii
returns c =
    then_written c.put_all-word.ensures
    (then_written c.put_whole-line.ensures.wrote c.put_lines.ensures)
