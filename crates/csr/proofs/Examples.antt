-- The rows of specs/Examples.antt hold, by computing. Assumes nothing.
use mathlib.Core.Path.{refl}
use mathlib.Core.List.{[], ◌∷◌}
use native.Mathlib.Omega.{arith}
use Rattle.csr.specs.Pattern.{neighbours}
use Rattle.csr.specs.Examples.{examples, answer, Hold}

pub examples_hold : Hold
unfolding examples answer neighbours
examples_hold = (refl, (record { between = 0 ∷ []; linked = (refl, refl); below = (omega arith, tt) }, refl))
