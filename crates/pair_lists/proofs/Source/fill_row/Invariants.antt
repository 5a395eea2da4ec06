use Prim.Native.Nat.{◌-◌}
use lib.ListN.{get_or}
use Rattle.pair_lists.proofs.Turns.{Turned}
use Rattle.pair_lists.proofs.Source.fill_row.Given as goal

abbrev pub invariant-loop-t : goal.invariant-loop-t
invariant-loop-t l = Turned l.self.rows.offsets.now l.self.rows.columns.now l.self.factor.p.now l.which l.i l.initial.index l.index l.start l.at l.count l.n (l.t - get_or l.self.factor.lindptr.now l.i 0)
