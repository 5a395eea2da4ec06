use mathlib.Core.List.{List}
use Prim.Native.Nat.{ℕ}
use lib.ListN.{length}
use Rattle.file_write.specs.Writable.{Writable}
use Rattle.file_write.proofs.Runs.{Writing}
use Rattle.file_write.proofs.put_file.Given as goal

-- whichever lists stand in the index memory, k of their records are written
abbrev pub invariant-loop-k : goal.invariant-loop-k
invariant-loop-k l = (lists : ℕ → List ℕ) → Writable lists l.size-items l.index (length l.initial.file) → Writing lists l.index l.initial.file l.file l.at l.from l.k
