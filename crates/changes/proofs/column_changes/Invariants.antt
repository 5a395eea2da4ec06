use Rattle.kernels.specs.Kernels.{Laid}
use Rattle.changes.proofs.Turns.{Columns}
use Rattle.changes.proofs.column_changes.Given as goal

abbrev pub invariant-loop-e : goal.invariant-loop-e
invariant-loop-e l = record {
  laid : Laid l.width l.mem l.work;
  done : Columns l.width l.mem l.columns.atindptr.now l.columns.atindices.now l.columns.atmap.now l.columns.vals.now l.mu l.e l.initial.work l.work l.acc;
}
