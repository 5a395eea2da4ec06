-- The lowest lane that passes a test, as the library finds it and as the machines do. Assumes nothing.
use Rattle.std.proofs.Common.{◌≡◌, refl, ◌∙◌, ap, ℕ, ◌<◌, ◌≤◌, Bool, true, false, cond, List, Some, None, length, get_or, take, arith}
use Rattle.std.specs.Bool.{then_some}
use Rattle.std.specs.List.{position, position_or_len}
use Rattle.std.proofs.Math.Dec.{ltb}
use Rattle.std.proofs.lemmas.List.{length-take-le, get_or-take}
use Rattle.std.proofs.lemmas.List.Sums.{position_or_len_is}
use Rattle.base.specs.Numbers.{below}
use Rattle.lanes.specs.Lists.{first}
use Rattle.lanes.proofs.Lists.{first_le, first_none, first_hit}
use Rattle.machine.specs.Machine.{Status, spoilt}

then_is : (t : Bool) (x : ℕ) → cond t (Some x) None ≡ then_some t x
then_is true x = refl
then_is false x = refl

pub position_first : (p : Status → Bool) (v : List Status) (w : ℕ) → w ≤ length v → position p (take w v) ≡ below w (first w (λ l. p (get_or v l spoilt)))
position_first p v w h =
    let f = λ (l : ℕ). p (get_or v l spoilt) in
    let n : length (take w v) ≡ w = length-take-le w v h in
    let same : (k : ℕ) → k < w → p (get_or (take w v) k spoilt) ≡ f k = λ k b. ap p (get_or-take w v k spoilt b) in
    let r : position_or_len p (take w v) ≡ first w f =
    position_or_len_is p (take w v) (first w f) spoilt (omega (arith, n, first_le f w))
    (λ k b. same k (omega (arith, first_le f w)) ∙ first_none f w k b)
    (λ b. same (first w f) (omega (arith, n)) ∙ first_hit f w (omega (arith, n))) in
    rw (n, r) (then_is (ltb (first w f) w) (first w f))
