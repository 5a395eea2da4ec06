-- `pattern::test` meets its contract. Assumes nothing.
use mathlib.Core.Path.{refl}
use Rattle.pattern.specs.Word.{bit}
use Rattle.pattern.proofs.test.Goals as goal

pub returns : goal.returns
unfolding bit
returns c = refl
