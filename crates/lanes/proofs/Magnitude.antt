-- The absolute value. Assumes nothing.
use mathlib.Core.Path.{◌≡◌, refl, sym, ap, ◌∙◌}
use mathlib.Core.Bool.{true, false, false≢true}
use lib.IntN.{pos}
use lib.Ieee.{Float, nan, inf, fin, binary64, lt, of_bits}
use Rattle.std.specs.Float.{float_with_sign}
use Rattle.lanes.specs.Arithmetic.{null, magnitude}
use Rattle.lanes.proofs.Consts.{null_bits}

as_zero : of_bits binary64 0 ≡ fin false 0 (pos 0)
unfolding of_bits
as_zero = refl

-- `abs` answers the value with its sign cleared
pub cleared : (x : Float) → float_with_sign false x ≡ magnitude x
unfolding float_with_sign magnitude
cleared nan = refl
cleared (inf s) = refl
cleared (fin s m e) = refl

positive_size : (x : Float) → lt (fin false 0 (pos 0)) x ≡ true → x ≡ magnitude x
unfolding lt magnitude
positive_size nan h = refl
positive_size (inf true) h = absurd (false≢true h)
positive_size (inf false) h = refl
positive_size (fin false m e) h = refl
positive_size (fin true m e) h = absurd (false≢true h)

pub positive : (x : Float) → lt null x ≡ true → x ≡ magnitude x
positive x h = positive_size x (ap (λ (z : Float). lt z x) (sym as_zero ∙ null_bits) ∙ h)
