use Prim.Native.Nat.{◌-◌, ◌≤◌}
use Rattle.lanes.specs.Lanes.{room}
use Rattle.machine.proofs.Turns.{Going}
use Rattle.layout.specs.Layout.{top_in}
use Rattle.memory.specs.Calls.{memory_in}
use Rattle.step.specs.Steps.{Untouched}
use Rattle.run.specs.Tests.{ForTask}
use Rattle.run.proofs.run.Given as goal

abbrev pub invariant-loop-outcome : goal.invariant-loop-outcome
invariant-loop-outcome l =
    ForTask (λ C. Going C l.controls.limit l.k (memory_in l.task.lists.plan l.width l.work)) l.controls l.task l.width
    × Untouched l.width (top_in l.task.lists.plan) l.initial.work l.work
    × (top_in l.task.lists.plan ≤ room l.width l.work)

abbrev pub decreases-loop-outcome : goal.decreases-loop-outcome
decreases-loop-outcome l = l.controls.limit - l.k
