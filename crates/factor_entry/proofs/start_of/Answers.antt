use Rattle.lanes.proofs.Quads.{on, each_on}
use Prim.Native.Nat.{◌+◌}
use lib.Ieee.{binary64, div}
use Rattle.lanes.specs.Lanes.{cell}
use Rattle.factor_entry.proofs.Sums.{start_on, start_off}
use Rattle.factor_entry.proofs.start_of.Goals as goal

pub returns-then-i-s : goal.returns-then-i-s
returns-then-i-s c =
    start_on c.args.i c.args.s (λ l. div binary64 (cell c.args.width c.args.work.now (c.args.w + c.args.i) l) (cell c.args.width c.args.work.now (c.args.y + c.args.i) l)) _ c.if-i-s.true
    (each_on c.requires.2 (div binary64) c.div4.ensures c.get-a.ensures c.get-b.ensures)

pub returns : goal.returns
returns c =
    start_off c.args.i c.args.s (λ l. div binary64 (cell c.args.width c.args.work.now (c.args.w + c.args.i) l) (cell c.args.width c.args.work.now (c.args.y + c.args.i) l)) c.if-i-s.false
    (on c.requires.2 c.splat.ensures)
