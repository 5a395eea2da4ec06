use Prim.Native.Nat.{ℕ, ◌<◌}
use mathlib.Core.Bool.{Bool}
use Rattle.pattern.specs.Word.{Done, Seeded, OtherRows}
use Rattle.pattern.proofs.Rows.{Part}
use Rattle.pattern.proofs.fill_row.Given as goal

abbrev pub invariant-loop-j : goal.invariant-loop-j
invariant-loop-j l = OtherRows l.initial.p l.p l.i × ((nb : ℕ → ℕ → Bool) → ((a : ℕ) → a < l.i → Done nb l.initial.p a) → Seeded nb l.initial.p l.i → Part nb l.p l.i l.j)
