use Prim.Native.Nat.{◌+◌}
use lib.ListN.{take}
use Rattle.base.specs.Cat.{Wrote}
use Rattle.file_numbers.specs.Agree.{numbers_of}
use Rattle.file_copy.proofs.copy_body.Given as goal

abbrev pub invariant-loop-k : goal.invariant-loop-k
invariant-loop-k l = Wrote l.initial.index l.index l.start (take l.k (numbers_of l.body)) (l.start + l.k)
