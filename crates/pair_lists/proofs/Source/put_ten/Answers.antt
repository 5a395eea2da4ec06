-- `pair_lists::Source::put_ten` meets its contract. Assumes nothing.
use native.Mathlib.Omega.{arith}
use lib.ListN.{length}
use Rattle.base.proofs.Front.{cleared_at}
use Rattle.lists.proofs.Whole as all
use Rattle.lists.specs.Lists.{shape}
use Rattle.pair_lists.proofs.Source.put_ten.Goals as goal

pub loop-k-init : goal.loop-k-init
loop-k-init c = all.ten_start _ _ _ _

pub fill-at-requires : goal.fill-at-requires
fill-at-requires c =
    let a = c.args in (
      record { wide = a.self.now.n; listing = a.self.now.listing; long = omega (arith, c.requires.1); low = λ x h. omega (arith, cleared_at c.loop-k.mark c.fill_front.new.list 0 0 a.self.now.n c.fill_front.ensures x h) },
      all.ten_room (shape a.self.now.rows.offsets.now a.self.now.rows.columns.now) a.self.now.m 10 a.start (length c.loop-k.index) c.loop-k.at c.loop-k.k c.which_field.result c.which_field.ensures (omega arith) (omega (arith, c.requires.0)) c.loop-k.invariant.next,
    )

pub loop-k-preserved : goal.loop-k-preserved
loop-k-preserved c =
    let a = c.args in
    all.ten_next (shape a.self.now.rows.offsets.now a.self.now.rows.columns.now) a.self.now.m a.index.now c.loop-k.index c.fill-at.new.index a.start c.loop-k.at c.fill-at.result c.loop-k.k c.which_field.result c.which_field.ensures c.loop-k.invariant c.fill-at.ensures
