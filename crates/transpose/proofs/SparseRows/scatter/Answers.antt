-- `transpose::SparseRows::scatter` meets its contract. Assumes nothing.
use native.Mathlib.Omega.{arith}
use Rattle.transpose.proofs.Count as law
use Rattle.transpose.proofs.SparseRows.scatter.Goals as goal

pub loop-i-init : goal.loop-i-init
loop-i-init c = law.scatter_start _ _ c.args.what _ _ _ _ _ c.requires

pub scatter_row-requires : goal.scatter_row-requires
scatter_row-requires c = law.scatter_asks _ _ _ _ _ _ _ _ c.requires _ _ _ c.loop-i.auto.index c.loop-i.invariant c.loop-i-test.true c.loop-i.auto.next

pub loop-i-preserved : goal.loop-i-preserved
loop-i-preserved c = law.scatter_turn _ _ _ _ _ _ _ _ c.requires _ _ _ c.loop-i.auto.index c.loop-i.invariant _ _ c.scatter_row.ensures

pub returns : goal.returns
returns c = law.scatter_end _ _ _ _ _ _ _ _ c.requires _ _ _ c.loop-i.auto.index c.loop-i.invariant (omega arith)
