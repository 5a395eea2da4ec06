-- `root_vectors::run_all` counts no more right than lines. Assumes nothing.
use Rattle.std.proofs.Common.{◌≤◌}
use Rattle.root_vectors.proofs.run_all.Given as goal

abbrev pub invariant-loop-i : goal.invariant-loop-i
invariant-loop-i l = (l.right ≤ l.i) × (l.right4 ≤ l.i)
