-- The digits of a number, and the columns of a list of lanes. Assumes nothing.
use mathlib.Core.Path.{◌≡◌, refl, sym, ap, ◌∙◌, subst}
use mathlib.Core.Bool.{Bool, cond}
use mathlib.Core.List.{List, [], ◌∷◌, ◌++◌}
use Prim.Native.Nat.{ℕ, zero, suc, ◌+◌, ◌-◌, ◌*◌, ◌/◌, ◌%◌, ◌^◌, ◌≤◌, ◌<◌}
use native.Mathlib.Nat.{mod-eq_of_lt, div-lt_iff_lt-mul, le-div_iff_mul-le, pow-suc, pow-le-pow_right, le_trans, lt_of_lt_of_le, lt_irrefl}
use native.Mathlib.Decide.{dec_le}
use native.Mathlib.Omega.{arith}
use borrow.Author.Tests.{lt-ltb, le-ltb}
use lib.Ieee.{Float, nan}
use lib.ListN.{length, get_or, take, drop, length-append}
use lib.Seq.{drop-drop, get_or-take, get_or-drop}
use Rattle.std.specs.Simd.{first_chunks}
use Rattle.io.specs.Digits.{hex_digit_ascii, last_digits, IsDigitCount}
use Rattle.lanes.specs.Lists.{at as element}
use Rattle.answer_text.specs.Text.{decimal_to, hex_text, float_text, line_text, space, line_feed}

pub length_digits : (b k n : ℕ) → length (last_digits b k n) ≡ k
length_digits b zero n = refl
length_digits b (suc k) n = length-append (last_digits b k (n / b)) (hex_digit_ascii (n % b) ∷ []) ∙ omega (arith, length_digits b k (n / b))

decimal_one : (most n : ℕ) → n < 10 → last_digits 10 1 n ≡ decimal_to (suc most) n
unfolding decimal_to
decimal_one most n h =
    ap (λ (d : ℕ). hex_digit_ascii d ∷ []) (mod-eq_of_lt h)
    ∙ sym (ap (λ (t : Bool). cond t (hex_digit_ascii n ∷ []) (decimal_to most (n / 10) ++ (hex_digit_ascii (n % 10) ∷ []))) (lt-ltb n 10 h))

decimal_more : (most k n : ℕ) → 10 ≤ n → last_digits 10 k (n / 10) ≡ decimal_to most (n / 10) → last_digits 10 (suc k) n ≡ decimal_to (suc most) n
unfolding decimal_to
decimal_more most k n h e =
    ap (λ (l : List ℕ). l ++ (hex_digit_ascii (n % 10) ∷ [])) e
    ∙ sym (ap (λ (t : Bool). cond t (hex_digit_ascii n ∷ []) (decimal_to most (n / 10) ++ (hex_digit_ascii (n % 10) ∷ []))) (le-ltb n 10 h))

pred : (j : ℕ) → j ≡ suc j - 1
pred j = omega arith

-- the fewest digits are those of the definition
pub decimal_is : (most k n : ℕ) → k ≤ most → IsDigitCount 10 1 n k → last_digits 10 k n ≡ decimal_to most n
decimal_is zero k n h f = absurd (omega (arith, f.0))
decimal_is (suc most) zero n h f = absurd (omega (arith, f.0))
decimal_is (suc most) (suc zero) n h f = decimal_one most n f.1
decimal_is (suc most) (suc (suc j)) n h f =
    let low : 10 ^ suc j ≤ n = subst (λ (i : ℕ). 10 ^ i ≤ n) (sym (pred (suc j))) (f.2 (omega arith)) in
    let high : n < 10 ^ suc j * 10 = subst (λ (p : ℕ). n < p) (pow-suc 10 (suc j)) f.1 in
    let tens : 10 ^ (suc j - 1) * 10 ≤ n = subst (λ (i : ℕ). 10 ^ i * 10 ≤ n) (pred j) (omega (arith, low, pow-suc 10 j)) in
    decimal_more most (suc j) n (omega (arith, low, pow-suc 10 j, pow-le-pow_right {n = 10} (omega arith) {i = 0} {j = j} (omega arith)))
    (decimal_is most (suc j) (n / 10) (omega arith)
    (omega arith, (div-lt_iff_lt-mul (omega arith)).1 high, λ _. (le-div_iff_mul-le (omega arith)).1 tens))

-- a number below b ^ most has at most `most` digits
few : (b least most n k : ℕ) → 0 < b → least ≤ most → n < b ^ most → IsDigitCount b least n k → k ≤ most
few b least most n k pos h u f = go (dec_le k most)
  where
    go : Dec (k ≤ most) → k ≤ most
    go (yes l) = l
    go (no l) =
        let over : most < k = omega (arith, l) in
        absurd (lt_irrefl n (lt_of_lt_of_le u (le_trans (pow-le-pow_right pos (omega (arith, over))) (f.2 (omega (arith, over, h))))))

pub decimal_places : (n k : ℕ) → n < 2 ^ 64 → IsDigitCount 10 1 n k → k ≤ 20
decimal_places n k u f = few 10 1 20 n k (omega arith) (omega arith) (omega arith) f

pub hex_places : (n k : ℕ) → n < 2 ^ 64 → IsDigitCount 16 16 n k → k ≤ 16
hex_places n k u f = few 16 16 16 n k (omega arith) (omega arith) u f

pub hex_is : (k b : ℕ) → k ≤ 16 → IsDigitCount 16 16 b k → last_digits 16 k b ≡ hex_text b
unfolding hex_text
hex_is k b h f = let e : k ≡ 16 = omega (arith, f.0) in ap (λ (j : ℕ). last_digits 16 j b) e

-- ---- the columns of a list of lanes

abbrev lanes_text : Float → Float → Float → Float → List ℕ
lanes_text a b c d = float_text a space ++ (float_text b space ++ (float_text c space ++ float_text d line_feed))

same_lanes : {a b c d e f g h : Float} → a ≡ e → b ≡ f → c ≡ g → d ≡ h → lanes_text a b c d ≡ lanes_text e f g h
same_lanes p q r s = rw (p, q, r, s)

column_at : (x : List Float) (m k : ℕ) → k < m → get_or (first_chunks 4 m x) k [] ≡ take 4 (drop (4 * k) x)
column_at x zero k h = absurd (omega arith)
column_at x (suc m) zero h = refl
column_at x (suc m) (suc k) h =
    let e : 4 + 4 * k ≡ 4 * suc k = omega arith in
    column_at (drop 4 x) m k (omega arith) ∙ ap (take 4) (drop-drop (4 * k) 4 x) ∙ ap (λ (i : ℕ). take 4 (drop i x)) e

lane_at : (x : List Float) (k i : ℕ) → i < 4 → element (take 4 (drop (4 * k) x)) i ≡ element x (4 * k + i)
lane_at x k i h = get_or-take 4 (drop (4 * k) x) i nan h ∙ get_or-drop (4 * k) x i nan

column_text : (x : List Float) (k : ℕ) → line_text (take 4 (drop (4 * k) x)) 0 ≡ line_text x k
unfolding line_text
column_text x k =
    let e : 4 * k + 0 ≡ 4 * k = omega arith in
    same_lanes (lane_at x k 0 (omega arith) ∙ ap (element x) e) (lane_at x k 1 (omega arith)) (lane_at x k 2 (omega arith)) (lane_at x k 3 (omega arith))

pub line_is : (x : List Float) (n m k : ℕ) → n ≤ m → k < n → line_text (get_or (take n (first_chunks 4 m x)) k []) 0 ≡ line_text x k
line_is x n m k l h =
    ap (λ (y : List Float). line_text y 0) (get_or-take n (first_chunks 4 m x) k [] h ∙ column_at x m k (omega arith)) ∙ column_text x k
