-- `root::special` meets its contract. Assumes nothing.
use mathlib.Core.Path.{◌≡◌}
use mathlib.Core.Logic.{◌⊎◌, inl, inr}
use Prim.Native.Nat.{ℕ, ◌≤◌, ◌<◌, ◌%◌, ◌/◌, ◌^◌}
use native.Mathlib.Decide.{dec_le}
use native.Mathlib.Omega.{arith}
use Rattle.std.specs.Prelude.{Some}
use Rattle.root.specs.Classes.{nan_answer}
use Rattle.root.specs.Steps.{Special}
use Rattle.root.proofs.Classes.{zero_row, infinity_row, negative_row, positive_row, top_row}
use Rattle.root.proofs.Patterns.{zero_answer, infinity_answer, negative_answer, top_answer}
use Rattle.root.proofs.special.Goals as goal

-- a NaN for what has a sign and is not -0
negative : {b : ℕ} → 2 ^ 63 ≤ b → (b % 2 ^ 63 / 2 ^ 52 ≡ 0 → 0 < b % 2 ^ 52) → Special b (Some nan_answer)
negative {b} l h = record { row = negative_row b l h; is = (inr (omega arith), negative_answer b l h) }

zero-which : (b : ℕ) → b % 2 ^ 63 / 2 ^ 52 ≡ 0 → b % 2 ^ 52 ≡ 0 → (b ≡ 0) ⊎ (0x7FF0_0000_0000_0000 ≤ b)
zero-which b x t = go (dec_le 0x7FF0_0000_0000_0000 b)
  where
    go : Dec (0x7FF0_0000_0000_0000 ≤ b) → (b ≡ 0) ⊎ (0x7FF0_0000_0000_0000 ≤ b)
    go (yes h) = inr h
    go (no h) = inl (omega arith)

pub returns-then-b-eq0 : goal.returns-then-b-eq0
returns-then-b-eq0 c =
    record {
      row = zero_row _ c.ranges.b.fits c.in-0.is c.if-b-eq0.true;
      is = (zero-which _ c.in-0.is c.if-b-eq0.true, zero_answer _ c.ranges.b.fits c.in-0.is c.if-b-eq0.true);
    }

pub returns-then-b-lt-SIGN : goal.returns-then-b-lt-SIGN
returns-then-b-lt-SIGN c = record { row = positive_row _ c.if-b-lt-SIGN.true (omega arith) (λ z t. c.if-b-eq0.false t); is = (omega arith, omega arith) }

pub returns-else-b-lt-SIGN : goal.returns-else-b-lt-SIGN
returns-else-b-lt-SIGN c = negative c.if-b-lt-SIGN.false (λ z. omega (arith, c.if-b-eq0.false))

pub returns-then-b-lt-SIGN-2 : goal.returns-then-b-lt-SIGN-2
returns-then-b-lt-SIGN-2 c = record { row = positive_row _ c.if-b-lt-SIGN-2.true (omega arith) (λ z t. omega arith); is = (omega arith, omega arith) }

pub returns-else-b-lt-SIGN-2 : goal.returns-else-b-lt-SIGN-2
returns-else-b-lt-SIGN-2 c = negative c.if-b-lt-SIGN-2.false (λ z. omega arith)

pub returns-then-b-eq-INFINITY : goal.returns-then-b-eq-INFINITY
returns-then-b-eq-INFINITY c = record { row = infinity_row _ c.if-b-eq-INFINITY.true; is = (inr (omega arith), infinity_answer _ c.if-b-eq-INFINITY.true) }

pub returns-else-b-eq-INFINITY : goal.returns-else-b-eq-INFINITY
returns-else-b-eq-INFINITY c = record { row = top_row _ (omega arith) c.if-b-eq-INFINITY.false; is = (inr (omega arith), top_answer _ (omega arith) c.if-b-eq-INFINITY.false) }
