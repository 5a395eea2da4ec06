-- `transpose::count_rows` meets its contract. Assumes nothing.
use Prim.Native.Nat.{suc, ◌<◌}
use mathlib.Core.Path.{refl}
use native.Mathlib.Omega.{arith}
use Rattle.csr.specs.Pattern.{row}
use Rattle.csr.specs.Counts.{common, count_s}
use Rattle.base.specs.Sums.{sum}
use Rattle.base.proofs.Sums.{sum_next}
use Rattle.transpose.specs.Bins.{cols_of}
use Rattle.transpose.proofs.Count as law
use Rattle.transpose.proofs.count_rows.Goals as goal

pub loop-i-init : goal.loop-i-init
unfolding count_s sum
loop-i-init c = record { counts = law.seen_start _ _ _; shares = refl; few = omega arith }

pub count_row-s-requires : goal.count_row-s-requires
count_row-s-requires c = law.row_counting _ _ _ _ _ c.requires c.loop-i-test.true _ c.loop-i.auto.next c.loop-i.invariant.counts

pub loop-i-preserved : goal.loop-i-preserved
unfolding count_s
loop-i-preserved c =
    let h : c.loop-i.i < c.args.m = c.loop-i-test.true in
    let cols = cols_of c.args.columns.now in
    let r = row c.args.offsets.now cols in
    record {
      counts = λ x. omega (arith, c.count_row-s.ensures.counts x, c.loop-i.invariant.counts x, law.seen_next c.args.offsets.now cols c.loop-i.i x);
      shares = omega (arith, c.loop-i.invariant.shares, c.count_row-s.ensures.pairs, sum_next c.loop-i.i (λ i. sum (suc i) (λ j. common (r i) (r j))));
      few = omega (arith, c.loop-i.invariant.few, c.count_row-s.ensures.few, c.requires.grid.csr.order c.loop-i.i h);
    }
