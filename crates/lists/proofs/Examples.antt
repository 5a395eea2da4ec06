-- The rows of specs/Examples.antt hold, by computing. Assumes nothing.
use mathlib.Core.Path.{refl}
use Rattle.csr.specs.Counts.{is_stored}
use Rattle.lists.specs.Lists.{lplace, place, plan_of}
use Rattle.lists.specs.Examples.{examples, Hold}

pub examples_hold : Hold
unfolding examples plan_of is_stored lplace place
examples_hold = (refl, refl)
