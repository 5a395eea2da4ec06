-- The sum of four roots. Definitions only.
use Rattle.std.specs.Prelude.{Float}
use Rattle.std.specs.Float.{binary64}
use Rattle.std.specs.Float.Ieee.{add}
use Rattle.root.specs.Root.{root}

abbrev pub root_sum : Float → Float → Float → Float → Float
root_sum a b c d = add binary64 (add binary64 (root binary64 a) (root binary64 b)) (add binary64 (root binary64 c) (root binary64 d))
