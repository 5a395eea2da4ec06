use Rattle.std.proofs.Common.{ℕ, List, length, get_or, ◌≡◌, ◌+◌, ◌<◌}
use lib.Ieee.{Float}
use Rattle.lanes.specs.Arithmetic.{◌⊗◌}
use Rattle.lanes.specs.Lists.{at, fold}
use Rattle.lanes.specs.Lanes.{each2, cell, On}
use Rattle.sparse.proofs.sum.Given as goal

abbrev pub invariant-loop-k : goal.invariant-loop-k
invariant-loop-k g l =
    (a : ℕ → Float) (f : Float → Float → Float)
    → ((k : ℕ) (v : Float) → k < length l.es → goal.V-post g l.value k v → v ≡ a k)
    → ((p q r : List Float) → goal.O-post g l.op p q r → r ≡ each2 f p q)
    → On l.width l.acc (λ t. fold l.k (λ k r. f r (a k ⊗ cell l.width l.work (l.o + get_or l.es k 0) t)) (at l.initial.acc t))
