use Rattle.lanes.proofs.Regions.{room_at}
use Rattle.entries.proofs.Entries.{put_at}
use Rattle.entries.proofs.put.Goals as goal

pub put4-requires : goal.put4-requires
put4-requires c = room_at c.args.width 4 c.args.work.now c.args.entry c.if-width-eq4.true c.requires.1

pub returns-then-width-eq4 : goal.returns-then-width-eq4
returns-then-width-eq4 c = put_at c.args.work.now c.args.entry c.args.v c.if-width-eq4.true c.put4.ensures
