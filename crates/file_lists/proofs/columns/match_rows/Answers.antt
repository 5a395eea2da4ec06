-- `file_lists::columns::match_rows` meets its contract. Assumes nothing.
use mathlib.Core.Path.{◌≡◌}
use native.Mathlib.Omega.{arith}
use Rattle.file_lists.proofs.Matches as law
use Rattle.file_lists.proofs.columns.match_rows.Goals as goal

pub loop-i-init : goal.loop-i-init
loop-i-init c = law.match_none _ _ _ _ c.args.rows.now.grid _ _ _ c.requires.1 c.requires.0 c.requires.2

pub returns : goal.returns
returns c =
    let e : c.loop-i.i ≡ c.args.rows.now.m = omega arith in
    law.match_all _ _ _ _ _ _ _ c.requires.1 (rw e at c.loop-i.invariant)
