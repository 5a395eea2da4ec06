use Prim.Native.Nat.{◌-◌}
use lib.ListN.{length}
use Rattle.plan_file.specs.Matrix.{matrix_lists}
use Rattle.plan_file.specs.Tables.{wide}
use Rattle.file_questions.proofs.Walk.{Asking}
use Rattle.file_questions.proofs.sixteen.is_file.Given as goal

abbrev pub invariant-loop-at : goal.invariant-loop-at
invariant-loop-at l =
    let rows = l.expected.source.rows in
    let plan = l.expected.plan in
    Asking wide (matrix_lists rows.offsets.now rows.columns.now plan.m plan.n) l.bytes l.at

abbrev pub decreases-loop-at : goal.decreases-loop-at
decreases-loop-at l = length l.bytes - l.at
