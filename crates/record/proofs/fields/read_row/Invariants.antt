use Rattle.std.proofs.Common.{ℕ, ◌+◌, ◌*◌, ◌<◌, get_or}
use Rattle.record.proofs.fields.read_row.Given as goal

abbrev pub invariant-loop-k : goal.invariant-loop-k
invariant-loop-k g l = (j : ℕ) (none : _) → j < l.k → goal.F-post g l.read (l.at + l.width * j) (get_or l.out j none)
