use Rattle.answer_text.specs.Text.{ascii, input_text}
use Rattle.answer_text.proofs.put_input.Goals as goal

pub returns : goal.returns
unfolding input_text ascii
returns c = c.put_all.ensures
