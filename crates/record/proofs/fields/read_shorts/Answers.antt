use Rattle.std.proofs.Common.{rules}
use Rattle.record.specs.Little.{shorts}
use Rattle.lanes.specs.Lists.{grow}
use Rattle.record.proofs.Copies.{filled}
use Rattle.record.proofs.fields.read_shorts.Goals as goal

pub returns : goal.returns
unfolding shorts grow
returns c = filled _ _ _ 0 c.read_row.auto.out (λ k h. let e = c.read_row.ensures k 0 h in search rules)
