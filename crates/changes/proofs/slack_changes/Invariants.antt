use Rattle.kernels.specs.Kernels.{Laid}
use Rattle.changes.proofs.Turns.{Slacks}
use Rattle.changes.proofs.slack_changes.Given as goal

abbrev pub invariant-loop-i : goal.invariant-loop-i
invariant-loop-i l = record {
  laid : Laid l.width l.mem l.work;
  done : Slacks l.width l.mem l.mu l.i l.initial.work l.work l.acc;
}
