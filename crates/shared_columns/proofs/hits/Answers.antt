-- `shared_columns::hits` meets its contract. Assumes nothing.
use mathlib.Core.Path.{sym}
use Prim.Native.Nat.{◌<◌}
use native.Mathlib.Omega.{arith}
use lib.ListN.{length}
use Rattle.base.proofs.Numbers.{below_at}
use Rattle.base.proofs.Write.{then_written, same_text}
use Rattle.shared_columns.specs.Marked.{hit}
use Rattle.shared_columns.proofs.Marks as marks
use Rattle.shared_columns.proofs.hits.Goals as goal

pub hit_one-at-requires : goal.hit_one-at-requires
hit_one-at-requires c =
    let a = c.args in
    let f = hit a.take a.mark.now a.lo in
    let lt : c.loop-q.q < length a.b.now = omega arith in (
      below_at (length a.mark.now) a.b.now c.loop-q.q c.requires.0 lt,
      omega (arith, c.requires.2, c.loop-q.invariant.next, marks.along_fits f a.b.now c.loop-q.q a.y lt),
    )

pub loop-q-preserved : goal.loop-q-preserved
loop-q-preserved c = same_text (sym (marks.along_next (hit c.args.take c.args.mark.now c.args.lo) c.args.b.now c.loop-q.q c.args.y (omega arith))) (then_written c.loop-q.invariant c.hit_one-at.ensures)
