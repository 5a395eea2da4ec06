use Prim.Native.Nat.{◌≤◌}
use mathlib.Core.Path.{◌≡◌}
use lib.Dec.{eqb}
use lib.ListN.{take}
use Rattle.file_numbers.specs.Agree.{numbers_of, agree}
use Rattle.file_numbers.proofs.is_same.Given as goal

abbrev pub invariant-loop-k : goal.invariant-loop-k
invariant-loop-k l = record { most : l.bad ≤ l.k; says : eqb l.bad 0 ≡ agree (numbers_of l.body) l.start (take l.k l.list) }
