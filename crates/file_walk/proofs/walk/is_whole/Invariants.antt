use Prim.Native.Nat.{◌-◌}
use lib.ListN.{length}
use Rattle.plan_file.specs.Tables.{wide}
use Rattle.file_walk.proofs.Walks.{Walked}
use Rattle.file_walk.proofs.walk.is_whole.Given as goal

abbrev pub invariant-loop-at : goal.invariant-loop-at
invariant-loop-at l = Walked wide l.file l.at

abbrev pub decreases-loop-at : goal.decreases-loop-at
decreases-loop-at l = length l.file - l.at
