use Rattle.pattern.specs.Word.{bit}
use Rattle.pair_lists.proofs.Lists as law
use Rattle.pair_lists.proofs.list_rows.Given as goal

abbrev pub invariant-loop-i : goal.invariant-loop-i
invariant-loop-i l = law.Listing (bit l.p) l.initial.lindptr l.initial.lindices l.lindices l.lindptr l.at l.i
