use Rattle.base.proofs.Write.{then_written}
use Rattle.answer_text.proofs.put_then.Goals as goal

pub returns : goal.returns
returns c = then_written c.put_all-end.ensures c.put.ensures
