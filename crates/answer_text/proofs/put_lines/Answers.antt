use mathlib.Core.Path.{sym, ap, ◌∙◌}
use mathlib.Core.List.{List, ◌++◌}
use Prim.Native.Nat.{ℕ, ◌/◌, ◌<◌}
use native.Mathlib.Omega.{arith}
use lib.ListN.{length, length-take}
use Rattle.base.specs.Cat.{cat}
use Rattle.base.proofs.Write.{wrote_none, cat_next, then_written, same_text}
use Rattle.answer_text.specs.Text.{line_text}
use Rattle.answer_text.proofs.Texts.{line_is}
use Rattle.answer_text.proofs.put_lines.Goals as goal

pub loop-lanes-init : goal.loop-lanes-init
unfolding cat
loop-lanes-init c = (omega arith, wrote_none _ _)

pub loop-lanes-preserved : goal.loop-lanes-preserved
loop-lanes-preserved c =
    let k = c.loop-lanes.lanes-index in
    let x = c.args.x.now in
    let line = c.put_line-at.ensures in
    let below : k < c.args.n = omega (arith, length-take c.args.n c.as_chunks.result.0.now) in
    let same = line_is x c.args.n (length x / 4) k (omega arith) below in (
      omega (arith, line.value),
      same_text (ap (λ (l : List ℕ). cat k (line_text x) ++ l) (rw c.as_chunks.ensures.front same) ∙ sym (cat_next _ _)) (then_written c.loop-lanes.invariant.1 line.wrote),
    )
