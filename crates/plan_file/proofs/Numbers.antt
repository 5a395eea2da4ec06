-- Numbers survive their bytes, and bytes their numbers. Assumes nothing.
use mathlib.Core.Path.{◌≡◌, refl, sym, ap, ap₂, ◌∙◌, subst}
use mathlib.Core.List.{List, [], ◌∷◌, ◌++◌}
use Prim.Native.Nat.{ℕ, zero, suc, ◌+◌, ◌*◌, ◌/◌, ◌%◌, ◌^◌, ◌<◌, ◌≤◌}
use native.Mathlib.Omega.{arith}
use native.Mathlib.Nat.{div-lt_iff_lt-mul, pow-suc, mul-mod_right, div-eq_of_eq-mul_right, div-add-mod, mul-suc}
use lib.ListN.{length, get_or, take, drop, length-append, length-take, length-drop, take-append-drop}
use lib.Seq.{take_at, drop_at, drop-drop, get_or-drop}
use Rattle.base.specs.Numbers.{Below}
use Rattle.plan_file.specs.Bytes.{bytes_of, number, words, numbers, numbers_in, Bytes}

-- ---- one number

-- numbers below 256^w are kept by w bytes
pub kept : (w x : ℕ) → x < 256 ^ w → number (bytes_of w x) ≡ x
unfolding number bytes_of
kept zero x h = omega arith
kept (suc w) x h =
    let e : x < 256 ^ w * 256 = subst (λ (b : ℕ). x < b) (pow-suc 256 w) h in
    omega (arith, kept w (x / 256) ((div-lt_iff_lt-mul (omega arith)).1 e))

pub length_bytes : (w x : ℕ) → length (bytes_of w x) ≡ w
unfolding bytes_of
length_bytes zero x = refl
length_bytes (suc w) x = ap suc (length_bytes w (x / 256))

pub bytes_take : (n : ℕ) (s : List ℕ) → Bytes s → Bytes (take n s)
bytes_take zero s h k = omega arith
bytes_take (suc n) [] h k = omega arith
bytes_take (suc n) (b ∷ s) h zero = h 0
bytes_take (suc n) (b ∷ s) h (suc k) = bytes_take n s (λ j. h (suc j)) k

pub bytes_drop : (n : ℕ) (s : List ℕ) → Bytes s → Bytes (drop n s)
bytes_drop n s h k = rw (get_or-drop n s k 0) (h (n + k))

pub bytes_back : (s : List ℕ) → Bytes s → bytes_of (length s) (number s) ≡ s
unfolding number bytes_of
bytes_back [] h = refl
bytes_back (b ∷ s) h =
    let l : b < 256 = h 0 in
    let e : (b + 256 * number s) % 256 ≡ b = omega arith in
    let d : (b + 256 * number s) / 256 ≡ number s = omega arith in
    ap₂ (λ (x y : ℕ). x ∷ bytes_of (length s) y) e d ∙ ap (λ (r : List ℕ). b ∷ r) (bytes_back s (λ k. h (suc k)))

-- by the number of bytes
pub bytes_are : (w : ℕ) (s : List ℕ) → Bytes s → length s ≡ w → bytes_of w (number s) ≡ s
bytes_are w s h e = subst (λ (n : ℕ). bytes_of n (number s) ≡ s) e (bytes_back s h)

pub number_below : (s : List ℕ) → Bytes s → number s < 256 ^ length s
unfolding number
number_below [] h = omega arith
number_below (b ∷ s) h =
    let l : b < 256 = h 0 in
    subst (λ (n : ℕ). b + 256 * number s < n) (sym (pow-suc 256 (length s))) (omega (arith, number_below s (λ k. h (suc k))))

pub number_under : (w : ℕ) (s : List ℕ) → Bytes s → length s ≡ w → number s < 256 ^ w
number_under w s h e = subst (λ (n : ℕ). number s < 256 ^ n) e (number_below s h)

-- ---- a list of numbers

pub length_words : (w : ℕ) (xs : List ℕ) → length (words w xs) ≡ w * length xs
unfolding words
length_words w [] = omega arith
length_words w (x ∷ xs) =
    length-append (bytes_of w x) (words w xs)
    ∙ omega (arith, length_bytes w x, length_words w xs, mul-suc w (length xs))

pub numbers_words : (w : ℕ) (xs : List ℕ) → Below (256 ^ w) xs → numbers w (length xs) (words w xs) ≡ xs
unfolding words numbers
numbers_words w [] h = refl
numbers_words w (x ∷ xs) h =
    ap₂ (λ (a b : List ℕ). number a ∷ numbers w (length xs) b)
    (take_at (bytes_of w x) (words w xs) w (length_bytes w x))
    (drop_at (bytes_of w x) (words w xs) w (length_bytes w x))
    ∙ ap₂ ◌∷◌ (kept w x h.0) (numbers_words w xs h.1)

-- the numbers in a list's body are the list's
pub numbers_in_words : (w : ℕ) (xs : List ℕ) → 0 < w → Below (256 ^ w) xs → numbers_in w (words w xs) ≡ xs
numbers_in_words w xs p h =
    ap (λ (k : ℕ). numbers w k (words w xs)) (div-eq_of_eq-mul_right p (length_words w xs))
    ∙ numbers_words w xs h

pub words_numbers : (w k : ℕ) (s : List ℕ) → Bytes s → length s ≡ w * k → words w (numbers w k s) ≡ s
unfolding words numbers
words_numbers w zero [] h e = refl
words_numbers w zero (b ∷ s) h e = absurd (omega arith)
words_numbers w (suc k) s h e =
    let l : w ≤ length s = omega (arith, mul-suc w k) in
    let m : length (drop w s) ≡ w * k = length-drop w s ∙ omega (arith, mul-suc w k) in
    ap₂ ◌++◌ (bytes_are w (take w s) (bytes_take w s h) (length-take w s ∙ omega arith)) (words_numbers w k (drop w s) (bytes_drop w s h) m)
    ∙ take-append-drop w s

-- a body of whole numbers is that of its numbers
pub words_in_numbers : (w : ℕ) (s : List ℕ) → Bytes s → length s % w ≡ 0 → words w (numbers_in w s) ≡ s
words_in_numbers w s h e = words_numbers w (length s / w) s h (omega (arith, div-add-mod (length s) w))

-- and a list's body is whole numbers
pub whole_words : (w : ℕ) (xs : List ℕ) → length (words w xs) % w ≡ 0
whole_words w xs = ap (λ (n : ℕ). n % w) (length_words w xs) ∙ mul-mod_right w (length xs)

-- ---- the numbers of a body by their places

pub length_numbers : (w n : ℕ) (s : List ℕ) → length (numbers w n s) ≡ n
unfolding numbers
length_numbers w zero s = refl
length_numbers w (suc n) s = ap suc (length_numbers w n (drop w s))

pub number_at : (w n : ℕ) (s : List ℕ) (k : ℕ) → k < n → get_or (numbers w n s) k 0 ≡ number (take w (drop (w * k) s))
unfolding numbers
number_at w zero s k h = absurd (omega arith)
number_at w (suc n) s zero h = let e : w * 0 ≡ 0 = omega arith in sym (ap (λ (j : ℕ). number (take w (drop j s))) e)
number_at w (suc n) s (suc k) h =
    number_at w n (drop w s) k (omega arith)
    ∙ ap (λ (l : List ℕ). number (take w l)) (drop-drop (w * k) w s)
    ∙ let e : w + w * k ≡ w * suc k = omega (arith, mul-suc w k) in ap (λ (j : ℕ). number (take w (drop j s))) e
