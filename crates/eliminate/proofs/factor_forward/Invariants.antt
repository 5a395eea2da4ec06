use mathlib.Core.List.{List}
use Prim.Native.Nat.{ℕ}
use Rattle.memory.specs.Planned.{Planned}
use Rattle.eliminate.proofs.Rows.{Done}
use Rattle.eliminate.proofs.factor_forward.Given as goal

abbrev pub invariant-loop-i : goal.invariant-loop-i
invariant-loop-i l = (off cols : List ℕ) → Planned off cols l.values l.lists.plan l.lists.index.now → Done l.width off cols l.values l.lists.plan l.lists.index.now l.initial.work l.i l.work
