-- `file_lists::pairs::same_list` meets its contract. Assumes nothing.
use native.Mathlib.Omega.{arith}
use Prim.Native.Nat.{◌+◌}
use mathlib.Core.Path.{sym, ap, ◌∙◌}
use lib.ListN.{length}
use Rattle.lists.specs.Lists.{shape, weight, begins}
use Rattle.lists.proofs.Head.{head_room}
use Rattle.lists.proofs.Counts.{before_start}
use Rattle.shared_columns.proofs.Marks.{over_low}
use Rattle.pair_lists.proofs.Turns.{markable, mark_low}
use Rattle.file_numbers.specs.Agree.{numbers_of, agree}
use Rattle.file_lists.proofs.Small.{pick_le, room_kept, head_front}
use Rattle.file_lists.proofs.Compared as turns
use Rattle.file_lists.proofs.pairs.same_list.Goals as goal

pub is_same-requires : goal.is_same-requires
is_same-requires c =
    let a = c.args in
    let source = a.source.now in
    let h = head_front a.which _ _ _ _ _ c.has_head.ensures c.then_some.ensures c.requires.2 c.keep-at.ensures in
    (omega (arith, h.0, head_room (shape source.rows.offsets.now source.rows.columns.now) a.which source.m 0 (length (numbers_of a.body.now)) (omega (arith, c.requires.1))), omega (arith, h.0, pick_le (begins a.which) 0, c.requires.2))

pub returns-then-not-is_same : goal.returns-then-not-is_same
returns-then-not-is_same c =
    let a = c.args in
    let source = a.source.now in
    let h = head_front a.which _ _ _ _ _ c.has_head.ensures c.then_some.ensures c.requires.2 c.keep-at.ensures in
    sym (turns.head_not (shape source.rows.offsets.now source.rows.columns.now) a.which (numbers_of a.body.now) source.m (sym (c.if-not-is_same.ensures ∙ ap (agree (numbers_of a.body.now) 0) h.1)))

pub loop-i-init : goal.loop-i-init
loop-i-init c =
    let a = c.args in
    let h = head_front a.which _ _ _ _ _ c.has_head.ensures c.then_some.ensures c.requires.2 c.keep-at.ensures in
    record {
      counting = record { count = sym (before_start (weight (shape a.source.now.rows.offsets.now a.source.now.rows.columns.now) a.which)); few = omega arith };
      passed = turns.passed_start _ _ _ _ h.0 (sym (c.if-not-is_same.ensures ∙ ap (agree (numbers_of a.body.now) 0) h.1));
      low = λ x l. l;
    }

pub mark_for-requires : goal.mark_for-requires
mark_for-requires c = markable _ _ c.args.source.now.m _ _ _ c.requires.0.listing.grid c.loop-i-test.true (omega (arith, c.requires.0.long))

pub same_row-requires : goal.same_row-requires
same_row-requires c =
    let a = c.args in
    let u = c.requires.0 in
    let v = c.loop-i.invariant in (
      record {
        at = record { m = a.source.now.m; wide = u.wide; ready = u.listing.ready; grid = u.listing.grid; inside = c.loop-i-test.true; long = omega (arith, u.long); marks = λ h. over_low _ _ _ _ (c.mark_for.ensures.read h) _ (λ x l. v.low x (u.low x l)) };
        rows = u.listing.rows;
      },
      v.counting,
      turns.passed_room _ _ _ a.source.now.m _ _ v.passed c.loop-i-test.true c.requires.1,
      room_kept _ _ _ a.made.now _ (omega arith) (c.requires.3 c.loop-i.i c.loop-i-test.true),
    )

pub returns-in-None : goal.returns-in-None
returns-in-None c = sym (turns.passed_not _ _ _ _ _ _ c.loop-i.invariant.passed c.loop-i-test.true c.in-None.ensures)

pub loop-i-preserved : goal.loop-i-preserved
loop-i-preserved c =
    let h = c.in-Some.ensures in
    let csr = c.requires.0.listing.grid.csr in
    record {
      counting = h.2;
      passed = turns.passed_next _ _ _ _ _ _ c.loop-i.invariant.passed h.0 h.1;
      low = λ x l. mark_low c.args.which _ c.args.source.now.rows.columns.now _ _ _ (csr.order c.loop-i.i c.loop-i-test.true) (csr.ends (c.loop-i.i + 1) (omega (arith, c.loop-i-test.true))) c.mark_for.ensures.read c.mark_for.ensures.unread x (c.loop-i.invariant.low x l);
    }

pub returns : goal.returns
returns c = sym (turns.passed_all _ _ _ _ _ _ c.loop-i.invariant.passed (omega arith))
