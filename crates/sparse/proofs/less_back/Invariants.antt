use Rattle.std.proofs.Common.{get_or, ◌+◌}
use Rattle.lanes.specs.Arithmetic.{◌⊖◌, ◌⊗◌}
use Rattle.lanes.specs.Lists.{at, fold}
use Rattle.lanes.specs.Lanes.{cell, On}
use Rattle.sparse.proofs.less_back.Given as goal

abbrev pub invariant-loop-k : goal.invariant-loop-k
invariant-loop-k l = On l.width l.acc (λ t. fold l.k (λ k r. r ⊖ cell l.width l.work (l.d + get_or l.es k 0) t ⊗ cell l.width l.work (l.factor + get_or l.ps k 0) t) (at l.initial.acc t))
