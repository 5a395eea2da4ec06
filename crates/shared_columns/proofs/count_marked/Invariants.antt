use Rattle.std.proofs.Common.{◌≡◌, ◌≤◌, take, count_by}
use Rattle.shared_columns.specs.Marked.{marked}
use Rattle.shared_columns.proofs.count_marked.Given as goal

abbrev pub invariant-loop-v : goal.invariant-loop-v
invariant-loop-v l = (l.n ≡ count_by (marked l.mark l.lo) (take l.v-index l.b)) × (l.n ≤ l.v-index)
