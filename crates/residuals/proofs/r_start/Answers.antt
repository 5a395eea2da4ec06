use lib.Ieee.{binary64, sub}
use Rattle.lanes.proofs.Quads.{each_on, reg_cell, lane_cell, ◌▹◌}
use borrow.Author.Tests.{lt-ltb, le-ltb}
use Rattle.residuals.proofs.r_start.Goals as goal

pub returns-then-i-s : goal.returns-then-i-s
returns-then-i-s c =
    let h = c.if-i-s.true in
    rw (lt-ltb c.args.i c.args.mem.s h)
    (each_on c.requires.1.wide (sub binary64) c.sub4.ensures
    (c.get_lanes-v.ensures ▹ lane_cell c.args.block.total c.args.block.first c.args.width c.args.b.now c.args.mem.m c.args.i c.requires.0)
    (c.get.ensures ▹ reg_cell c.args.width c.args.work.now c.args.mem.w c.args.mem.s c.args.i h))

pub returns : goal.returns
returns c =
    rw (le-ltb c.args.i c.args.mem.s c.if-i-s.false)
    (c.get_lanes-v.ensures ▹ lane_cell c.args.block.total c.args.block.first c.args.width c.args.b.now c.args.mem.m c.args.i c.requires.0)
