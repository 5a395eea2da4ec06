-- The rows of specs/Examples.antt hold, by computing. Assumes nothing.
use mathlib.Core.Path.{refl}
use Rattle.parents.specs.Examples.{parents_of, Hold}

pub examples_hold : Hold
unfolding parents_of
examples_hold = refl
