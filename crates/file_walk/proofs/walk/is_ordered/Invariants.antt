use Prim.Native.Nat.{◌-◌}
use lib.ListN.{length}
use Rattle.plan_file.specs.Tables.{wide}
use Rattle.plan_file.proofs.Files.{wide_most}
use Rattle.file_walk.proofs.Walks.{Ordered}
use Rattle.file_walk.proofs.walk.is_ordered.Given as goal

abbrev pub invariant-loop-at : goal.invariant-loop-at
invariant-loop-at l = Ordered wide wide_most l.bytes l.at l.next

abbrev pub decreases-loop-at : goal.decreases-loop-at
decreases-loop-at l = length l.bytes - l.at
