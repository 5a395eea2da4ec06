-- `counts::Notes::count_row` meets its contract. Assumes nothing.
use mathlib.Core.Path.{ap}
use native.Mathlib.Omega.{arith}
use borrow.Author.Rules.{rules}
use lib.ListN.{length}
use Rattle.csr.proofs.RowParts.{row_le}
use Rattle.counts.proofs.Columns.{row_start, seen_asks, seen_grown, first_asks, climb_asks, row_turn, row_end}
use Rattle.counts.proofs.Step.{small_e_lem}
use Rattle.counts.proofs.Notes.count_row.Goals as goal

pub loop-c-init : goal.loop-c-init
loop-c-init g c = row_start c.requires.1 c.requires.0 (omega arith) (omega arith)

pub bump-requires : goal.bump-requires
bump-requires g c = seen_asks c.loop-c.invariant c.requires.0 c.row-c-items.ensures c.loop-c-test.true

pub overflow_add-tally : goal.overflow_add-tally
overflow_add-tally g c =
    omega (
      arith,
      c.bump.ensures.1,
      seen_grown c.loop-c.invariant c.requires.0 c.row-c-items.ensures c.loop-c-test.true,
      c.loop-c.invariant.small,
      c.requires.0.few,
      row_le c.args.rows.now.offsets.now c.args.rows.now.columns.now c.args.i,
      c.requires.0.short,
    )

pub adopt-at-requires : goal.adopt-at-requires
adopt-at-requires g c = first_asks c.loop-c.invariant c.requires.0 c.row-c-items.ensures c.loop-c-test.true

pub climb-tally-requires : goal.climb-tally-requires
climb-tally-requires g c = (search rules, climb_asks c.loop-c.invariant c.requires.0 c.row-c-items.ensures c.loop-c-test.true c.adopt-at.ensures.1)

pub loop-c-preserved : goal.loop-c-preserved
loop-c-preserved g c =
    rw (c.climb-tally.ensures.columns.0, c.climb-tally.ensures.columns.1, c.climb-tally.ensures.shared)
    (row_turn c.loop-c.invariant c.requires.0 c.row-c-items.ensures c.loop-c-test.true c.adopt-at.ensures.1 c.adopt-at.new.table c.climb-tally.ensures.climbed c.bump.ensures.0 c.bump.ensures.1 c.adopt-at.ensures.0 c.adopt-at.auto.table)

pub overflow_add-result : goal.overflow_add-result
overflow_add-result g c = omega (arith, small_e_lem c.loop-c.invariant.turn)

pub returns : goal.returns
returns g c = row_end c.loop-c.invariant c.requires.0 (omega (arith, ap length c.row-c-items.ensures))
