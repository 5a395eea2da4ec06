-- `root::value_of` meets its contract. Assumes nothing.
use mathlib.Core.Path.{◌∙◌}
use native.Mathlib.Omega.{arith}
use Rattle.root.proofs.Floats.{nan_made, above_infinity, up_to_infinity}
use Rattle.root.proofs.value_of.Goals as goal

pub float_from_bits-result : goal.float_from_bits-result
float_from_bits-result c = up_to_infinity _ (omega arith)

pub returns-then-b-gt-INFINITY : goal.returns-then-b-gt-INFINITY
returns-then-b-gt-INFINITY c = nan_made ∙ above_infinity _ c.if-b-gt-INFINITY.true
