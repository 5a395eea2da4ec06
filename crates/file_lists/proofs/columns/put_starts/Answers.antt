-- `file_lists::columns::put_starts` meets its contract. Assumes nothing.
use native.Mathlib.Omega.{arith}
use mathlib.Core.Path.{subst}
use mathlib.Core.List.{List}
use Prim.Native.Nat.{ℕ}
use Rattle.base.specs.Cat.{Wrote}
use Rattle.transpose.proofs.Count as law
use Rattle.file_lists.proofs.columns.put_starts.Goals as goal

pub put_ends-requires : goal.put_ends-requires
put_ends-requires c =
    let rows = c.args.rows.now in
    (omega (arith, c.requires.0, c.count_rows.auto.next, c.fill_front.auto.list), c.requires.1, rows.grid.wide, law.tally_few _ _ rows.m rows.n rows.grid _ (law.tallied _ _ _ _ _ _ _ c.fill_front.ensures c.count_rows.ensures.0), omega (arith, c.requires.2))

pub returns-clause-ends : goal.returns-clause-ends
returns-clause-ends c =
    let rows = c.args.rows.now in
    subst (λ (x : List ℕ). Wrote c.args.made.now c.put_ends.new.index 0 x c.put_ends.result)
    (law.ends_are _ _ rows.m rows.n _ (law.tallied _ _ rows.m rows.n _ _ _ c.fill_front.ensures c.count_rows.ensures.0)) c.put_ends.ensures.ends

pub returns-clause-starts : goal.returns-clause-starts
returns-clause-starts c =
    let rows = c.args.rows.now in
    law.starts_are _ _ rows.m rows.n _ _ rows.n (omega arith) (law.tallied _ _ rows.m rows.n _ _ _ c.fill_front.ensures c.count_rows.ensures.0) c.put_ends.ensures.starts.0
