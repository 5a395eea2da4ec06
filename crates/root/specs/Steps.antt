-- What each step of the root promises, in the steps' order: special operands, exponent halved, root digits, rounding. Definitions only.
use Rattle.std.specs.Prelude.{◌≡◌, ◌⊎◌, false, Option, Some, None}
use Prim.Native.Nat.{ℕ, ◌+◌, ◌*◌, ◌^◌, ◌≤◌, ◌<◌, compare}
use Rattle.std.specs.Float.{binary64}
use Rattle.std.specs.Float.Ieee.{of_bits, nearest}
use Rattle.std.specs.Float.Ieee.Exact.{HasValue}
use Rattle.root.specs.Root.{root_bits}
use Rattle.root.specs.Classes.{class_of, at_once}

-- ---- 1. special operands

-- the patterns of the finite numbers above zero: from the smallest value's up to that before +infinity's
abbrev pub FinitePositive : ℕ → Type 0
FinitePositive b = (0 < b) × (b < 0x7FF0_0000_0000_0000)

-- Any other pattern is answered at once. These are +0, and all from +infinity's up: +infinity, the NaNs, and all with a sign.
abbrev pub Answer : ℕ → Option ℕ → Type 0
Answer b (Some a) = ((b ≡ 0) ⊎ (0x7FF0_0000_0000_0000 ≤ b)) × (a ≡ root_bits b)
Answer b None = FinitePositive b

-- r is the table's answer at b's class, and that is the root's pattern
pub record Special (b : ℕ) (r : Option ℕ) : Type 0 where
  pub row : r ≡ at_once (class_of b)
  pub is : Answer b r

-- ---- 2. exponent halved

-- A number is counted in 4 ^ -1074, so that its root counts 2 ^ -1074, the smallest value above zero.

-- b stands for d * 2 ^ p / 4 ^ 1074, and d has 53 digits. p is 1074 - 52 at the smallest value, and 2045 + 1074 at the largest.
pub record Unpacks (b d p : ℕ) : Type 0 where
  pub is : HasValue (of_bits binary64 b) false (d * 2 ^ p) (2 ^ 2148)
  pub least : 2 ^ 52 ≤ d
  pub most : d < 2 ^ 53
  pub low : 1022 ≤ p
  pub high : p ≤ 3119

-- b stands for d * 2 ^ 52 * 4 ^ h / 4 ^ 1074, exactly, and d has 53 or 54 digits. So its root is √(d * 2 ^ 52) * 2 ^ h / 2 ^ 1074, and √(d * 2 ^ 52) has 53
-- digits before the point. h is at most half of 3119 - 52.
pub record Halved (b d h : ℕ) : Type 0 where
  pub is : HasValue (of_bits binary64 b) false (d * 2 ^ 52 * (2 ^ h * 2 ^ h)) (2 ^ 2148)
  pub least : 2 ^ 52 ≤ d
  pub most : d < 2 ^ 54
  pub high : h ≤ 1533

-- ---- 3. root digits

-- q is the whole root of n, and r is what is left
pub record Digits (n q r : ℕ) : Type 0 where
  pub is : q * q + r ≡ n
  pub rest : r ≤ 2 * q

-- ---- 4. rounding

-- q or the next number, by how √(q * q + r) compares with the middle between them; a tie goes to the even one. With r ≤ 2 * q that is the nearest whole number.
abbrev pub rounded_root : ℕ → ℕ → ℕ
rounded_root q r = nearest q (compare (4 * (q * q + r)) ((2 * q + 1) * (2 * q + 1)))

-- there is no tie: no whole number has its root in the middle between two whole numbers; `no_tie` of `proofs/Compares` proves it
abbrev pub NoTie : Type 0
NoTie = (n q : ℕ) → 4 * n ≡ (2 * q + 1) * (2 * q + 1) → ⊥

-- ---- the last three together

-- the scaling, the digits and the rounding give the root's pattern, however they are worked out; `together` of `proofs/Core` proves it
abbrev pub Together : Type 0
Together = (b d h q r : ℕ) → Halved b d h → Digits (d * 2 ^ 52) q r → rounded_root q r + h * 2 ^ 52 ≡ root_bits b
