-- `file_numbers::number_at` meets its contract. Assumes nothing.
use native.Mathlib.Omega.{arith}
use Rattle.file_numbers.proofs.Agrees.{number_room, number_is}
use Rattle.file_numbers.proofs.number_at.Goals as goal

pub overflow_mul-k : goal.overflow_mul-k
overflow_mul-k c = omega (arith, number_room c.args.body.now c.args.k c.requires)

pub le32-requires : goal.le32-requires
le32-requires c = omega (arith, number_room c.args.body.now c.args.k c.requires)

pub returns : goal.returns
returns c = number_is c.args.body.now c.args.k c.le32.result c.requires c.le32.ensures.0
