-- `pair_lists::Source::fill` meets its contract. Assumes nothing.
use mathlib.Core.Path.{sym, ap}
use Prim.Native.Nat.{◌+◌}
use native.Mathlib.Omega.{arith}
use lib.ListN.{length, get_or}
use Rattle.base.proofs.Write.{same_text}
use Rattle.csr.specs.Pattern.{row}
use Rattle.lists.specs.Lists.{weight, shape}
use Rattle.lists.proofs.Counts.{before_start}
use Rattle.lists.proofs.Head.{head_room}
use Rattle.shared_columns.proofs.Marks.{over_low}
use Rattle.pair_lists.proofs.Lists as law
use Rattle.pair_lists.proofs.Turns as turns
use Rattle.pair_lists.proofs.Source.fill.Goals as goal

pub keep-at-requires : goal.keep-at-requires
keep-at-requires c =
    let s = c.args.self.now in
    omega (arith, head_room (shape s.rows.offsets.now s.rows.columns.now) c.args.which c.args.self.now.m c.args.start (length c.args.index.now) c.requires.1, ap length (law.kept_when _ _ _ c.then_some.ensures c.has_head.ensures))

pub loop-i-init : goal.loop-i-init
loop-i-init c =
    let s = c.args.self.now in
    (record { count = sym (before_start (weight (shape s.rows.offsets.now s.rows.columns.now) c.args.which)); few = omega arith }, turns.rows_start _ _ _ _, λ x h. h)

pub mark_for-requires : goal.mark_for-requires
mark_for-requires c =
    let l = c.requires.0.listing in
    turns.markable c.args.self.now.rows.offsets.now c.args.self.now.rows.columns.now c.args.self.now.m c.requires.0.wide c.loop-i.i c.loop-i.mark l.grid (omega arith) (omega (arith, c.requires.0.long))

pub fill_row-requires : goal.fill_row-requires
fill_row-requires c =
    let s = c.args.self.now in
    let u = c.requires.0 in (
      record {
        at = record { m = c.args.self.now.m; wide = u.wide; ready = u.listing.ready; grid = u.listing.grid; inside = omega arith; long = omega (arith, u.long); marks = λ h. over_low c.loop-i.mark c.mark_for.new.mark (get_or s.rows.offsets.now c.loop-i.i 0) (row s.rows.offsets.now s.rows.columns.now c.loop-i.i) (c.mark_for.ensures.read h) u.wide (λ x l. c.loop-i.invariant.2 x (u.low x l)) };
        rows = u.listing.rows;
      },
      c.loop-i.invariant.0,
      turns.row_room (shape s.rows.offsets.now s.rows.columns.now) c.args.which c.args.self.now.m c.loop-i.i c.args.start (length c.loop-i.index) c.keep-at.result c.loop-i.at (omega arith) (omega (arith, c.requires.1))
          (omega (arith, c.keep-at.ensures.next, ap length (law.kept_when _ _ _ c.then_some.ensures c.has_head.ensures))) c.loop-i.invariant.1.next,
    )

pub loop-i-preserved : goal.loop-i-preserved
loop-i-preserved c =
    let s = c.args.self.now in
    let r = c.requires.0.listing.grid.csr in
    let low = turns.mark_low c.args.which s.rows.offsets.now s.rows.columns.now c.loop-i.mark c.mark_for.new.mark c.loop-i.i (r.order c.loop-i.i (omega arith)) (r.ends (c.loop-i.i + 1) (omega arith)) c.mark_for.ensures.read c.mark_for.ensures.unread in
    (c.fill_row.ensures.1, turns.rows_next _ _ c.loop-i.i c.loop-i.invariant.1 c.fill_row.ensures.0, λ x h. low x (c.loop-i.invariant.2 x h))

pub returns : goal.returns
returns c = turns.whole _ _ c.args.self.now.m c.loop-i.i (omega arith) (same_text (law.kept_when _ _ _ c.then_some.ensures c.has_head.ensures) c.keep-at.ensures) c.loop-i.invariant.1
