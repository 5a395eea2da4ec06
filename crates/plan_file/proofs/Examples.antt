-- The rows of specs/Examples.antt hold, by computing. Assumes nothing.
use mathlib.Core.Path.{refl}
use Rattle.csr.specs.Counts.{is_stored}
use Rattle.lists.specs.Lists.{list_of, ends_of, columns_of, lplace, place}
use Rattle.plan_file.specs.Examples.{rows, answer, bytes, Hold}

pub examples_hold : Hold
unfolding rows answer bytes list_of ends_of columns_of is_stored lplace place
examples_hold = (refl, refl)
