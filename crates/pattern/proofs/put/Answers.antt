-- `pattern::put` meets its contract. Assumes nothing.
use native.Mathlib.Omega.{arith}
use Rattle.pattern.proofs.Rows.{put_law}
use Rattle.pattern.proofs.put.Goals as goal

pub returns : goal.returns
returns c = put_law c.args.p.now c.args.i c.args.j (omega arith) c.requires.0 c.requires.1
