-- `pair_lists::FactorRows::products` meets its contract. Assumes nothing.
use mathlib.Core.Path.{ap}
use native.Mathlib.Omega.{arith}
use lib.ListN.{length}
use Rattle.base.proofs.Write.{same_text}
use Rattle.pair_lists.proofs.Through as thru
use Rattle.pair_lists.proofs.FactorRows.products.Goals as goal

pub slice_bounds-places-end : goal.slice_bounds-places-end
slice_bounds-places-end c = omega (arith, thru.front_in c.requires.0)

pub places-requires : goal.places-requires
places-requires c = (c.requires.1, thru.front_below c.requires.0, thru.front_short c.requires.0, omega (arith, c.requires.2, ap length (thru.front_walk c.requires.0 c.args.q)))

pub returns : goal.returns
returns c = same_text (thru.front_walk c.requires.0 c.args.q) c.places.ensures
