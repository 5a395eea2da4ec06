use lib.ListN.{take}
use Rattle.base.specs.Cat.{Wrote}
use Rattle.shared_columns.specs.Marked.{along_of, hit}
use Rattle.shared_columns.proofs.hits.Given as goal

abbrev pub invariant-loop-q : goal.invariant-loop-q
invariant-loop-q l = Wrote l.initial.index l.index l.start (along_of (hit l.take l.mark l.lo) l.y (take l.q l.b)) l.at
