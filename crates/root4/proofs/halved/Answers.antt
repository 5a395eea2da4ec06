-- `root4::halved` meets its contract. Assumes nothing.
use mathlib.Core.Path.{sym, subst}
use native.Mathlib.Omega.{arith}
use lib.Dec.{T}
use Rattle.root4.specs.Steps.{small_bits}
use Rattle.root4.proofs.Numbers.{low_pattern, above}
use Rattle.root4.proofs.Guess.{guessed}
use Rattle.root4.proofs.halved.Goals as goal

pub float_to_bits-result : goal.float_to_bits-result
float_to_bits-result c = (above small_bits c.args.x (omega arith) (subst T (sym c.well_formed.0.1) tt) c.requires).number

pub overflow_sub-result : goal.overflow_sub-result
overflow_sub-result c = omega (arith, (above small_bits c.args.x (omega arith) (subst T (sym c.well_formed.0.1) tt) c.requires).most)

pub float_from_bits-result : goal.float_from_bits-result
float_from_bits-result c = low_pattern _ (omega arith)

pub returns : goal.returns
returns c = guessed _ (subst T (sym c.well_formed.0.1) tt) c.requires
