use native.Mathlib.Omega.{arith}
use lib.ListN.{length-set}
use Rattle.lanes.proofs.Regions.{room_in}
use Rattle.entries.proofs.Entries.{put_few}
use Rattle.entries.proofs.put_narrow.Goals as goal

pub bounds-work-p-2 : goal.bounds-work-p-2
bounds-work-p-2 c = simp length-set (omega (arith, c.requires.0, c.requires.1, c.well_formed.0, room_in c.args.width c.args.work.now c.args.entry c.requires.2))

pub bounds-work-p-3 : goal.bounds-work-p-3
bounds-work-p-3 c = simp length-set (omega (arith, c.requires.0, c.requires.1, c.well_formed.0, room_in c.args.width c.args.work.now c.args.entry c.requires.2))

pub returns : goal.returns
returns c = put_few c.args.width c.args.work.now c.args.entry c.args.v c.requires.0 c.requires.1
