-- `factor_entry::root_of` meets its contract. Assumes nothing.
use mathlib.Core.Path.{sym, ◌∙◌}
use lib.Ieee.{lt}
use Rattle.lanes.specs.Lists.{at}
use Rattle.lanes.specs.Arithmetic.{null, magnitude}
use Rattle.lanes.proofs.Magnitude.{positive}
use Rattle.lanes.proofs.Quads.{array_lanes, lanes_ext, every_lane_lem}
use Rattle.factor_entry.proofs.Sums.{root_value}
use Rattle.factor_entry.proofs.root_of.Goals as goal

pub returns-then-above_zero : goal.returns-then-above_zero
returns-then-above_zero c =
    root_value c.args.v
    (array_lanes c.args.v c.well_formed.0.1.0.1 ∙ lanes_ext (at c.args.v) (λ l. magnitude (at c.args.v l)) (λ l h. positive (at c.args.v l) (every_lane_lem (lt null) c.args.v (sym c.above_zero.ensures ∙ c.if-above_zero.true) l h)))
    c.root4.ensures
