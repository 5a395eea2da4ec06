-- `root4::raised` meets its contract. Assumes nothing.
use mathlib.Core.Path.{refl, sym, subst}
use mathlib.Core.Logic.{inl, inr}
use native.Mathlib.Omega.{arith}
use lib.Dec.{T}
use Rattle.root4.specs.Steps.{least_bits}
use Rattle.root4.proofs.Numbers.{above, number, least_bits_lem}
use Rattle.root4.proofs.raised.Goals as goal

pub returns-then-x : goal.returns-then-x
returns-then-x c =
    let o = above least_bits _ (omega arith) (subst T (sym c.well_formed.0.1) tt) c.if-x.true in
    record { equal = rw c.if-x.true; number = o.number; is = inl refl; least = omega (arith, o.least); most = o.most }

pub returns-else-x : goal.returns-else-x
returns-else-x c = record { equal = rw c.if-x.false; number = number least_bits (omega arith); is = inr least_bits_lem; least = omega (arith, least_bits_lem); most = omega (arith, least_bits_lem) }
