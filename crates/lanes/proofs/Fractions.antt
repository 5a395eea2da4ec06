-- Which numbers are proper fractions. Assumes nothing.
use mathlib.Core.Path.{◌≡◌, refl, sym, ap, ap₂, ◌∙◌}
use mathlib.Core.Bool.{Bool, true, false, ◌&&◌}
use Prim.Native.Nat.{ℕ, ◌+◌, ◌*◌, ◌/◌, ◌%◌, ◌^◌, ◌≤◌, ◌<◌}
use native.Mathlib.Decide.{dec_le}
use native.Mathlib.Omega.{arith}
use lib.Dec.{leb, ltb}
use lib.Pow.{pow-add}
use lib.Ieee.{Float, binary64, lt, round, of_int, of_bits}
use borrow.Author.Tests.{le-leb, lt-leb, le-ltb}
use Rattle.base.proofs.Bools.{and_false, and_true}
use Rattle.root.specs.Classes.{infinity_bits}
use Rattle.root4.proofs.Rounding.{Is, lt_is}
use Rattle.root4.proofs.Order.{smallest, in_order, smallest_of, over_patterns}
use Rattle.lanes.specs.Arithmetic.{null, one}
use Rattle.lanes.specs.Constants.{one_bits}
use Rattle.lanes.specs.Controls.{proper, fractions_proper, standard_controls, ProperPatterns}

pub standard_proper : (limit : ℕ) → fractions_proper (standard_controls limit) ≡ true
unfolding proper lt round of_int
standard_proper limit = refl

-- ---- above 0: the patterns above its own, up to +infinity's

null_bits : null ≡ of_bits binary64 0
unfolding of_int of_bits
null_bits = refl

above_null : (b : ℕ) → lt null (of_bits binary64 b) ≡ ltb 0 b && leb b infinity_bits
above_null b = ap (λ (v : Float). lt v (of_bits binary64 b)) null_bits ∙ over_patterns 0 (omega arith) b

-- ---- below 1: of these the patterns below its own

one_is : Is one false (2 ^ 1074)
unfolding of_int
one_is = (refl, refl)

less : (x t : ℕ) → t < 2 ^ 52 → ltb (smallest x t) (2 ^ 1074) ≡ ltb (x * 2 ^ 52 + t) one_bits
unfolding smallest
less x t u = ap (ltb (smallest x t)) (pow-add 2 52 1022) ∙ in_order x t 1023 0 u (omega arith)

infinity_over : lt (of_bits binary64 infinity_bits) one ≡ false
unfolding lt of_bits of_int
infinity_over = refl

below_one : (b : ℕ) → b ≤ infinity_bits → lt (of_bits binary64 b) one ≡ ltb b one_bits
below_one b h = go (dec_le infinity_bits b)
  where
    whole : b / 2 ^ 52 * 2 ^ 52 + b % 2 ^ 52 ≡ b
    whole = omega arith

    go : Dec (infinity_bits ≤ b) → lt (of_bits binary64 b) one ≡ ltb b one_bits
    go (yes l) =
        let e : b ≡ infinity_bits = omega arith in
        ap (λ (y : ℕ). lt (of_bits binary64 y) one) e ∙ infinity_over ∙ sym (le-ltb b one_bits (omega arith))
    go (no l) =
        lt_is (of_bits binary64 b) one false false _ (2 ^ 1074) (smallest_of b (omega arith)) one_is
        ∙ less (b / 2 ^ 52) (b % 2 ^ 52) (omega arith)
        ∙ ap (λ (y : ℕ). ltb y one_bits) whole

-- ---- all patterns

pub proper_patterns : ProperPatterns
unfolding proper
proper_patterns b = go (dec_le b infinity_bits)
  where
    go : Dec (b ≤ infinity_bits) → lt null (of_bits binary64 b) && lt (of_bits binary64 b) one ≡ ltb 0 b && ltb b one_bits
    go (yes l) = ap₂ ◌&&◌ (above_null b ∙ ap (λ (c : Bool). ltb 0 b && c) (le-leb b infinity_bits l) ∙ and_true (ltb 0 b)) (below_one b l)
    go (no l) =
        ap (λ (c : Bool). c && lt (of_bits binary64 b) one) (above_null b ∙ ap (λ (c : Bool). ltb 0 b && c) (lt-leb b infinity_bits (omega arith)) ∙ and_false (ltb 0 b))
        ∙ sym (ap (λ (c : Bool). ltb 0 b && c) (le-ltb b one_bits (omega arith)) ∙ and_false (ltb 0 b))
