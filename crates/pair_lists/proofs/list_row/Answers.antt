-- `pair_lists::list_row` meets its contract. Assumes nothing.
use mathlib.Core.Path.{ap}
use Prim.Native.Nat.{◌+◌}
use native.Mathlib.Omega.{arith}
use lib.ListN.{length}
use Rattle.pattern.specs.Word.{bit}
use Rattle.pair_lists.proofs.Lists as law
use Rattle.pair_lists.proofs.list_row.Goals as goal

pub loop-k-init : goal.loop-k-init
loop-k-init c = law.row_start _ _ _

pub keep-at-requires : goal.keep-at-requires
keep-at-requires c =
    let h = bit c.args.p.now c.args.i in
    omega (arith, ap length (law.kept_when _ _ _ c.then_some.ensures c.test.ensures), law.pick_short (h c.loop-k.k) c.loop-k.k, law.kept_short h c.loop-k.k, c.loop-k.invariant.next)

pub loop-k-preserved : goal.loop-k-preserved
loop-k-preserved c = law.row_next (bit c.args.p.now c.args.i) c.loop-k.k (c.loop-k.k + 1) (omega arith) (law.kept_when _ _ _ c.then_some.ensures c.test.ensures) c.loop-k.invariant c.keep-at.ensures
