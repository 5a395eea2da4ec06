use Prim.Native.Nat.{ℕ, ◌≤◌}
use lib.ListN.{get_or}
use Rattle.base.specs.Cat.{Wrote, pairs}
use Rattle.lists.specs.Lists.{shape, piece}
use Rattle.pair_lists.specs.Listing.{Counting}
use Rattle.pair_lists.proofs.Source.fill.Given as goal

abbrev pub invariant-loop-i : goal.invariant-loop-i
invariant-loop-i l = Counting l.which l.self.rows.offsets.now l.self.rows.columns.now l.i l.n × Wrote l.initial.index l.index l.initial.at (pairs l.i (piece (shape l.self.rows.offsets.now l.self.rows.columns.now) l.which)) l.at × ((x : ℕ) → get_or l.initial.mark x 0 ≤ get_or l.self.rows.offsets.now 0 0 → get_or l.mark x 0 ≤ get_or l.self.rows.offsets.now l.i 0)
