use Prim.Native.Nat.{◌-◌}
use mathlib.Core.Path.{◌≡◌}
use Rattle.counts.specs.Climb.{Climbed}
use Rattle.counts.proofs.Notes.climb.Given as goal

abbrev pub invariant-loop-k : goal.invariant-loop-k
invariant-loop-k g l = record {
  climbed : Climbed l.i l.at l.k l.initial.self.mark l.initial.self.parent l.initial.self.column l.self.mark l.self.parent l.self.column l.initial.tally.stored l.initial.tally.products l.tally.stored l.tally.products;
  shared : l.tally.shared ≡ l.initial.tally.shared;
  columns : (l.self.seen ≡ l.initial.self.seen) × (l.self.first ≡ l.initial.self.first);
}

abbrev pub decreases-loop-k : goal.decreases-loop-k
decreases-loop-k g l = l.i - l.k
