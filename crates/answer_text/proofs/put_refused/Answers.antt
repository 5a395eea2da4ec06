use Rattle.answer_text.specs.Text.{ascii, refused_text}
use Rattle.base.proofs.Write.{then_written}
use Rattle.answer_text.proofs.put_refused.Goals as goal

pub returns : goal.returns
unfolding refused_text ascii
returns c =
    then_written c.put_all-word.ensures
    (then_written c.put_whole-a.ensures.wrote
    (then_written c.put_whole-b.ensures.wrote c.put_whole.ensures.wrote))
