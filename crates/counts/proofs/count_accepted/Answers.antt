-- `counts::count_accepted` meets its contract. Assumes nothing.
use native.Mathlib.Omega.{arith}
use Rattle.counts.proofs.Columns.{countable}
use Rattle.counts.proofs.count_accepted.Goals as goal

pub count-requires : goal.count-requires
count-requires c = (countable 16 32 c.requires (omega arith) (omega arith), omega arith, omega arith)

pub count-requires-else-m-le-FEW_ROWS : goal.count-requires-else-m-le-FEW_ROWS
count-requires-else-m-le-FEW_ROWS c = (countable 256 1024 c.requires c.requires.csr.few c.requires.wide, omega arith, omega arith)
