use Rattle.transpose.specs.Bins.{cols_of}
use Rattle.transpose.proofs.Row as law
use Rattle.transpose.proofs.SparseRows.scatter_row.Given as goal

abbrev pub invariant-loop-k : goal.invariant-loop-k
invariant-loop-k l =
    law.Passing l.self.offsets.now (cols_of l.self.columns) l.self.m l.self.n l.what l.i l.k l.initial.index l.index l.next l.start
