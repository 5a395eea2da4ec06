-- `root::digits` meets its contract. Assumes nothing.
use Rattle.root.proofs.Divided.{divided, kept, lowered}
use Rattle.root.proofs.digits.Goals as goal

pub returns-then-next-left : goal.returns-then-next-left
returns-then-next-left c = kept (divided _ _ _ c.first_digits-first.ensures c.requires.0 c.requires.1) c.if-next-left.true

pub returns-else-next-left : goal.returns-else-next-left
returns-else-next-left c = lowered (divided _ _ _ c.first_digits-first.ensures c.requires.0 c.requires.1) c.if-next-left.false
