-- `file_numbers::count` meets its contract. Assumes nothing.
use mathlib.Core.Path.{sym}
use Rattle.file_numbers.proofs.Agrees.{how_many}
use Rattle.file_numbers.proofs.count.Goals as goal

pub returns : goal.returns
returns c = sym (how_many c.args.body.now)
