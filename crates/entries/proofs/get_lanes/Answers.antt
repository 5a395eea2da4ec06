use Rattle.entries.proofs.Entries.{four_on, from_lane}
use Prim.Native.Nat.{◌+◌, ◌*◌}
use Rattle.entries.proofs.get_lanes.Goals as goal

pub returns-then-width-eq4 : goal.returns-then-width-eq4
returns-then-width-eq4 c = from_lane c.args.total c.args.entry c.args.first c.args.list.now (four_on c.args.width c.args.list.now (c.args.total * c.args.entry + c.args.first) c.if-width-eq4.true c.four.ensures)

pub returns : goal.returns
returns c = from_lane c.args.total c.args.entry c.args.first c.args.list.now c.narrow.ensures
