use lib.Ieee.{binary64, div}
use Rattle.lanes.proofs.Quads.{on_self, each_on, reg_cell, ◌▹◌}
use borrow.Author.Tests.{lt-ltb}
use Rattle.right_hand_side.proofs.v_start.Goals as goal

pub returns-then-i-s : goal.returns-then-i-s
returns-then-i-s c =
    rw (lt-ltb c.args.i c.args.mem.s c.if-i-s.true)
    (each_on c.requires.1.wide (div binary64) c.div4.ensures (on_self {v = c.args.mu}) (c.get.ensures ▹ reg_cell c.args.width c.args.work.now c.args.mem.y c.args.mem.m c.args.i c.requires.0))
