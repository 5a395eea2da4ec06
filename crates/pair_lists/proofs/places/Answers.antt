-- `pair_lists::places` meets its contract. Assumes nothing.
use mathlib.Core.Path.{sym, ap}
use Prim.Native.Nat.{ℕ}
use native.Mathlib.Omega.{arith}
use lib.ListN.{length}
use Rattle.pattern.specs.Word.{bit}
use Rattle.base.specs.Cat as cat
use Rattle.base.proofs.Write.{then_written, same_text}
use Rattle.shared_columns.proofs.Marks.{along_next, along_fits}
use Rattle.pair_lists.proofs.Lists as law
use Rattle.pair_lists.proofs.places.Goals as goal

pub keep-at-requires : goal.keep-at-requires
keep-at-requires c =
    let f = λ (x k : ℕ). cat.pick (bit c.args.p.now c.args.q k) x in
    omega (arith, ap length (law.kept_when _ _ _ c.then_some.ensures c.test-here.ensures), along_fits f c.args.l.now c.loop-t.t c.args.base (omega arith), c.loop-t.invariant.next, c.requires.3)

pub loop-t-preserved : goal.loop-t-preserved
loop-t-preserved c =
    let f = λ (x k : ℕ). cat.pick (bit c.args.p.now c.args.q k) x in
    same_text (sym (along_next f c.args.l.now c.loop-t.t c.args.base (omega arith))) (then_written c.loop-t.invariant (same_text (law.kept_when _ _ _ c.then_some.ensures c.test-here.ensures) c.keep-at.ensures))
