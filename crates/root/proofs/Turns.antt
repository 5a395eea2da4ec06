-- The turn of the digits' loop. Assumes nothing.
use mathlib.Core.Path.{◌≡◌, sym, ap, ◌∙◌, subst}
use Prim.Native.Nat.{ℕ, ◌+◌, ◌-◌, ◌*◌, ◌/◌, ◌%◌, ◌^◌, ◌≤◌, ◌<◌, zero-le}
use native.Mathlib.Nat.{mul_assoc, pow-suc, lt_of_lt_of_le, lt_of_le_of_lt, le_trans, le_of_eq, mul-one, mul-zero}
use native.Mathlib.Numerals.{add-one}
use native.Mathlib.Omega.{arith}
use mathlib.Core.Bool.{Bool, true, false, not}
use lib.Dec.{T, leb, leb→le, nleb→lt}
use lib.Pow.{pow_mono}
use mir.Val.{bool_byte}
use Rattle.root.specs.Steps.{Digits}
use Rattle.root.proofs.Squares.{sq_odd, sq_twice}

-- The loop's invariant: after i turns the first i pairs of d's digits have the whole root q and the rest r, and w has the digits to come

pub record AfterTurns (d w q r i : ℕ) : Type 0 where
  pub is : d * 4 ^ i ≡ (q * q + r) * 2 ^ 54 + w
  pub feed : w < 2 ^ 54
  pub rest : r ≤ 2 * q
  pub whole : q < 2 ^ i

pub small : {d w q r i : ℕ} → AfterTurns d w q r i → i < 27 → q < 2 ^ 26
small {i = i} g h = lt_of_lt_of_le g.whole (pow_mono {i = i} {j = 26} (omega arith))

fed : (d p w q r q' r' : ℕ) → d * p ≡ (q * q + r) * 2 ^ 54 + w → q' * q' + r' ≡ 4 * (q * q) + (r * 4 + w / 2 ^ 52)
    → d * (p * 4) ≡ (q' * q' + r') * 2 ^ 54 + w % 2 ^ 52 * 4
fed d p w q r q' r' h k = sym (mul_assoc d p 4) ∙ omega arith

more : (d i : ℕ) → d * 4 ^ (i + 1) ≡ d * (4 ^ i * 4)
more d i = ap (λ (x : ℕ). d * x) (ap (λ (x : ℕ). 4 ^ x) (add-one i) ∙ pow-suc 4 i)

twice : (i : ℕ) → 2 ^ (i + 1) ≡ 2 ^ i * 2
twice i = ap (λ (x : ℕ). 2 ^ x) (add-one i) ∙ pow-suc 2 i

pub digit_one : {d w q r i : ℕ} → AfterTurns d w q r i → i < 27 → q * 4 + 1 ≤ r * 4 + w / 2 ^ 52
    → AfterTurns d (w % 2 ^ 52 * 4) (q * 2 + 1) (r * 4 + w / 2 ^ 52 - (q * 4 + 1)) (i + 1)
digit_one {d} {w} {q} {r} {i} g h t = record {
  is = more d i ∙ fed d (4 ^ i) w q r (q * 2 + 1) (r * 4 + w / 2 ^ 52 - (q * 4 + 1)) g.is (omega (arith, sq_odd q));
  feed = omega arith;
  rest = omega (arith, g.rest, g.feed);
  whole = omega (arith, twice i, g.whole);
}

pub digit_zero : {d w q r i : ℕ} → AfterTurns d w q r i → i < 27 → r * 4 + w / 2 ^ 52 < q * 4 + 1
    → AfterTurns d (w % 2 ^ 52 * 4) (q * 2) (r * 4 + w / 2 ^ 52) (i + 1)
digit_zero {d} {w} {q} {r} {i} g h t = record {
  is = more d i ∙ fed d (4 ^ i) w q r (q * 2) (r * 4 + w / 2 ^ 52) g.is (omega (arith, sq_twice q));
  feed = omega arith;
  rest = omega arith;
  whole = omega (arith, twice i, g.whole);
}

pub first : (d : ℕ) → d < 2 ^ 54 → AfterTurns d d 0 0 0
first d h = record { is = omega arith; feed = h; rest = omega arith; whole = omega arith }

-- after 27 turns no digit is to come
pub last : {d w q r i : ℕ} → AfterTurns d w q r i → i ≡ 27 → Digits d q r
last {d} {w} {q} {r} {i} g e =
    let z : d * 4 ^ 27 ≡ (q * q + r) * 2 ^ 54 + w = subst (λ (x : ℕ). d * 4 ^ x ≡ (q * q + r) * 2 ^ 54 + w) e g.is in
    record { is = omega (arith, g.feed); rest = g.rest }

-- ---- the same turn with no branch: the digit is 1 where the trial is no more than what is left

pub byte_le : (b : Bool) → bool_byte b ≤ 1
byte_le true = omega arith
byte_le false = omega arith

pub taken_le : (t n : ℕ) → t * bool_byte (leb t n) ≤ n
taken_le t n = go (leb t n) (leb→le t n)
  where
    go : (b : Bool) → (T b → t ≤ n) → t * bool_byte b ≤ n
    go true h = le_trans (le_of_eq (mul-one t)) (h tt)
    go false h = le_trans (le_of_eq (mul-zero t)) zero-le

pub taken_lt : (t n m : ℕ) → t < m → t * bool_byte (leb t n) < m
taken_lt t n m h = go (leb t n)
  where
    go : (b : Bool) → t * bool_byte b < m
    go true = lt_of_le_of_lt (le_of_eq (mul-one t)) h
    go false = lt_of_le_of_lt (le_of_eq (mul-zero t)) (lt_of_le_of_lt zero-le h)

pub digit : {d w q r i : ℕ} → AfterTurns d w q r i → i < 27
    → AfterTurns d (w % 2 ^ 52 * 4) (q * 2 + bool_byte (leb (q * 4 + 1) (r * 4 + w / 2 ^ 52)))
    (r * 4 + w / 2 ^ 52 - (q * 4 + 1) * bool_byte (leb (q * 4 + 1) (r * 4 + w / 2 ^ 52))) (i + 1)
digit {d} {w} {q} {r} {i} g h = go (leb t n) (leb→le t n) (nleb→lt t n)
  where
    t : ℕ
    t = q * 4 + 1

    n : ℕ
    n = r * 4 + w / 2 ^ 52

    plain : (x : ℕ) → x ≡ x + 0
    plain x = omega arith

    none : (x y : ℕ) → x ≡ x - y * 0
    none x y = omega arith

    go : (b : Bool) → (T b → t ≤ n) → (T (not b) → n < t) → AfterTurns d (w % 2 ^ 52 * 4) (q * 2 + bool_byte b) (n - t * bool_byte b) (i + 1)
    go true p z = subst (λ (x : ℕ). AfterTurns d (w % 2 ^ 52 * 4) (q * 2 + 1) (n - x) (i + 1)) (sym (mul-one t)) (digit_one g h (p tt))
    go false p z =
        subst (λ (x : ℕ). AfterTurns d (w % 2 ^ 52 * 4) x (n - t * 0) (i + 1)) (plain (q * 2))
        (subst (λ (x : ℕ). AfterTurns d (w % 2 ^ 52 * 4) (q * 2) x (i + 1)) (none n t) (digit_zero g h (z tt)))
