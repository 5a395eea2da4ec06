use mathlib.Core.Path.{◌≡◌}
use Prim.Native.Nat.{◌+◌, ◌*◌}
use Rattle.base.specs.Cat.{cat, Wrote}
use Rattle.answer_text.specs.Text.{line_text}
use Rattle.answer_text.proofs.put_lines.Given as goal

abbrev pub invariant-loop-lanes : goal.invariant-loop-lanes
invariant-loop-lanes l = (l.at ≡ l.start + 68 * l.lanes-index) × Wrote l.initial.out l.out l.start (cat l.lanes-index (line_text l.x)) l.at
