use Rattle.std.proofs.Common.{◌≡◌, ℕ, ◌*◌, ◌<◌, get_or}
use Rattle.record.specs.Little.{le4}
use Rattle.cases.proofs.decode.Given as goal

-- the first k words are the bytes'
abbrev pub invariant-loop-k : goal.invariant-loop-k
invariant-loop-k l = (j : ℕ) → j < l.k → get_or l.word-items j 0 ≡ le4 l.bytes (4 * j)
