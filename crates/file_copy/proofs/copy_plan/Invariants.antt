use Prim.Native.Nat.{◌-◌}
use lib.ListN.{length}
use Rattle.plan_file.specs.Tables.{wide}
use Rattle.file_copy.proofs.Copies.{Copying}
use Rattle.file_copy.proofs.copy_plan.Given as goal

abbrev pub invariant-loop-at : goal.invariant-loop-at
invariant-loop-at l = Copying wide l.bytes l.initial.index l.index l.at l.to

abbrev pub decreases-loop-at : goal.decreases-loop-at
decreases-loop-at l = length l.bytes - l.at
