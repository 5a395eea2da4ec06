-- `transpose::SparseRows::scatter_row` meets its contract. Assumes nothing.
use mathlib.Core.Path.{refl}
use native.Mathlib.Omega.{arith}
use Rattle.transpose.proofs.Row as law
use Rattle.transpose.proofs.SparseRows.scatter_row.Goals as goal

pub loop-k-init : goal.loop-k-init
loop-k-init c = law.passing_start _ _ _ _ _ _ _ _ _ c.requires _ refl

pub put_in-requires : goal.put_in-requires
put_in-requires c = law.passing_asks _ _ _ _ _ _ _ _ _ c.requires _ _ _ (omega arith) (omega arith) c.at-e.ensures c.of_entry-x.ensures _ _ c.loop-k.auto.index c.loop-k.auto.next c.loop-k.invariant

pub loop-k-preserved : goal.loop-k-preserved
loop-k-preserved c =
    law.passing_turn _ _ _ _ _ _ _ _ _ c.requires _ _ _ (omega arith) (omega arith) c.at-e.ensures c.of_entry-x.ensures _ _ c.loop-k.auto.index c.loop-k.auto.next c.loop-k.invariant _ _ c.put_in.ensures.0 c.put_in.ensures.1

pub returns : goal.returns
returns c = law.passing_end _ _ _ _ _ _ _ _ _ c.requires _ _ _ (omega arith) c.loop-k.invariant
