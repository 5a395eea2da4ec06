use lib.ListN.{take}
use Rattle.pattern.specs.Word.{bit}
use Rattle.base.specs.Cat.{Wrote}
use Rattle.pair_lists.specs.Kept.{places_of}
use Rattle.pair_lists.proofs.places.Given as goal

abbrev pub invariant-loop-t : goal.invariant-loop-t
invariant-loop-t l = Wrote l.initial.index l.index l.start (places_of (bit l.p l.q) l.base (take l.t l.l)) l.at
