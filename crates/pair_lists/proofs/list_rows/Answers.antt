-- `pair_lists::list_rows` meets its contract. Assumes nothing.
use mathlib.Core.Path.{refl}
use Prim.Native.Nat.{◌+◌}
use native.Mathlib.Omega.{arith}
use lib.ListN.{length, length-set}
use Rattle.pattern.specs.Word.{bit}
use Rattle.pair_lists.proofs.Lists as law
use Rattle.pair_lists.proofs.list_rows.Goals as goal

pub loop-i-init : goal.loop-i-init
loop-i-init c = law.listing_start (bit c.args.p.now) c.args.lindices.now c.args.lindptr.now _ (omega arith) refl

pub list_row-at-requires : goal.list_row-at-requires
list_row-at-requires c = (omega arith, law.listing_room (bit c.args.p.now) c.loop-i.invariant (length c.loop-i.lindices) c.args.m (omega arith) (omega arith))

pub overflow_cast-lindptr : goal.overflow_cast-lindptr
overflow_cast-lindptr c =
    let h = bit c.args.p.now in
    omega (arith, c.list_row-at.ensures.next, law.kept_short (h c.loop-i.i) (c.loop-i.i + 1), law.listing_small h c.loop-i.invariant (omega arith))

pub loop-i-preserved : goal.loop-i-preserved
loop-i-preserved c = law.listing_next (bit c.args.p.now) c.loop-i.invariant (omega (arith, length-set c.args.lindptr.now 0 0)) c.list_row-at.ensures refl

pub returns-clause-rows : goal.returns-clause-rows
returns-clause-rows c = law.listing_end (bit c.args.p.now) c.loop-i.invariant c.args.m (omega arith) (omega arith) (omega (arith, length-set c.args.lindptr.now 0 0)) c.requires.2 (omega arith) (omega arith)
