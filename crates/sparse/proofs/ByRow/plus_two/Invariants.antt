use Rattle.std.proofs.Common.{get_or, ◌+◌}
use Rattle.lanes.specs.Arithmetic.{◌⊕◌, ◌⊗◌}
use Rattle.lanes.specs.Lists.{at, fold}
use Rattle.lanes.specs.Lanes.{cell, On}
use Rattle.sparse.proofs.ByRow.plus_two.Given as goal

abbrev pub invariant-loop-k : goal.invariant-loop-k
invariant-loop-k l = record {
  first : On l.width l.first (λ t. fold l.k (λ k r. r ⊕ at l.vs k ⊗ cell l.width l.work (l.x + get_or l.es k 0) t) (at l.initial.first t));
  second : On l.width l.second (λ t. fold l.k (λ k r. r ⊕ at l.vs k ⊗ cell l.width l.work (l.u + get_or l.es k 0) t) (at l.initial.second t));
}
