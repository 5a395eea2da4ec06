use Rattle.answer_text.specs.Text.{line_text}
use Rattle.base.proofs.Write.{then_written}
use Rattle.answer_text.proofs.put_line.Goals as goal

pub returns-clause-wrote : goal.returns-clause-wrote
unfolding line_text
returns-clause-wrote c =
    then_written c.put_float-next.ensures.wrote
    (then_written c.put_float-next-2.ensures.wrote (then_written c.put_float-next-3.ensures.wrote c.put_float.ensures.wrote))
