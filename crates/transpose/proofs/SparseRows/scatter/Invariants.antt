use Rattle.transpose.specs.Bins.{Scattered, cols_of}
use Rattle.transpose.proofs.SparseRows.scatter.Given as goal

abbrev pub invariant-loop-i : goal.invariant-loop-i
invariant-loop-i l = Scattered l.self.offsets.now (cols_of l.self.columns) l.self.m l.self.n l.what l.i l.initial.index l.index l.next l.start
