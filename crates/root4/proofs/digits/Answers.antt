-- `root4::digits` meets its contract. Assumes nothing.
use mathlib.Core.Path.{sym, subst}
use lib.Dec.{T}
use Rattle.root4.proofs.Numbers.{cleared_pattern}
use Rattle.root4.proofs.digits.Goals as goal

pub float_from_bits-high : goal.float_from_bits-high
float_from_bits-high c = cleared_pattern _ (subst T (sym c.bounded-bits.type_inv) tt) c.bounded-bits.ensures.number
