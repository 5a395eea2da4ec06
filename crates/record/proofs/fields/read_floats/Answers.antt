use Rattle.std.proofs.Common.{rules}
use Rattle.std.specs.Float.{nan}
use Rattle.lanes.specs.Lists.{vec}
use Rattle.record.specs.Little.{floats}
use Rattle.record.proofs.Copies.{filled}
use Rattle.record.proofs.fields.read_floats.Goals as goal

pub returns : goal.returns
unfolding floats vec
returns c = filled _ _ _ nan c.read_row.auto.out (λ k h. let e = c.read_row.ensures k nan h in search rules)
