use Rattle.base.specs.Cat.{Wrote}
use Rattle.lists.specs.Lists.{shape, ten_of}
use Rattle.pair_lists.proofs.Source.put_ten.Given as goal

abbrev pub invariant-loop-k : goal.invariant-loop-k
invariant-loop-k l = Wrote l.initial.index l.index l.start (ten_of (shape l.self.rows.offsets.now l.self.rows.columns.now) l.self.m l.k) l.at
