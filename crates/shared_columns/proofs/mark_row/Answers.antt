-- `shared_columns::mark_row` meets its contract. Assumes nothing.
use mathlib.Core.Path.{refl}
use native.Mathlib.Omega.{arith}
use Rattle.csr.proofs.RowParts.{entry_below}
use Rattle.shared_columns.proofs.Marks as marks
use Rattle.shared_columns.proofs.mark_row.Goals as goal

pub loop-k-init : goal.loop-k-init
loop-k-init c = marks.row_start _ _ _ _ c.requires _ _ refl

pub bounds-mark-rows : goal.bounds-mark-rows
bounds-mark-rows c = omega (arith, entry_below _ _ _ _ c.requires c.loop-k.k _ (omega arith) (omega arith) refl)

pub loop-k-preserved : goal.loop-k-preserved
loop-k-preserved c = marks.row_turn _ _ _ _ c.requires _ _ (omega arith) (omega arith) refl _ _ (omega arith) c.loop-k.invariant

pub returns : goal.returns
returns c = marks.row_end _ _ _ _ c.requires _ (omega arith) _ _ c.loop-k.invariant
