-- Numbers written one after the other. Assumes nothing.
use mathlib.Core.Path.{◌≡◌, refl, sym, ap, ◌∙◌}
use mathlib.Core.List.{List, [], ◌∷◌, ◌++◌, append_assoc, append-nil}
use Prim.Native.Nat.{ℕ, ◌+◌, ◌*◌, ◌/◌, ◌%◌, ◌<◌}
use native.Mathlib.Omega.{arith}
use native.Mathlib.Numerals.{add-one}
use native.Mathlib.Nat.{mul-suc}
use Rattle.std.specs.Int.{w16, w32, to_le_bytes}
use lib.ListN.{length, get_or, take, length-append}
use lib.Seq.{take-suc}
use Rattle.base.specs.Cat.{Wrote}
use Rattle.base.proofs.Write.{then_written, same_text}
use Rattle.plan_file.specs.Bytes.{bytes_of, words}
use Rattle.plan_file.specs.Records.{head_of, record_of}
use Rattle.plan_file.proofs.Numbers.{length_words, length_bytes}

-- the bytes of numbers of two and of four bytes: two bytes have a number's rest by 65536
pub bytes_two : (x : ℕ) → to_le_bytes w16 (x % 65536) ≡ bytes_of 2 x
unfolding bytes_of
bytes_two x =
    let e : x % 65536 % 256 ≡ x % 256 = omega arith in
    let f : x % 65536 / 256 % 256 ≡ x / 256 % 256 = omega arith in
    rw (e, f)

pub bytes_four : (x : ℕ) → to_le_bytes w32 x ≡ bytes_of 4 x
unfolding bytes_of
bytes_four x =
    let e : x / 65536 ≡ x / 256 / 256 = omega arith in
    let f : x / 16777216 ≡ x / 256 / 256 / 256 = omega arith in
    rw (e, f)

words_append : (w : ℕ) (xs ys : List ℕ) → words w (xs ++ ys) ≡ words w xs ++ words w ys
unfolding words
words_append w [] ys = refl
words_append w (x ∷ xs) ys =
    ap (λ (l : List ℕ). bytes_of w x ++ l) (words_append w xs ys) ∙ sym (append_assoc (bytes_of w x) (words w xs) (words w ys))

-- one number more of a list
pub words_more : (w : ℕ) (xs : List ℕ) (k : ℕ) → k < length xs → words w (take k xs) ++ bytes_of w (get_or xs k 0) ≡ words w (take (k + 1) xs)
unfolding words
words_more w xs k h =
    ap (λ (l : List ℕ). words w (take k xs) ++ l) (sym (append-nil (bytes_of w (get_or xs k 0))))
    ∙ sym (words_append w (take k xs) (get_or xs k 0 ∷ []))
    ∙ ap (words w) (sym (take-suc xs k 0 h))
    ∙ ap (λ (j : ℕ). words w (take j xs)) (sym (add-one k))

-- a list's numbers, k of them written
pub record Puts (w : ℕ) (old new : List ℕ) (start : ℕ) (xs : List ℕ) (k at : ℕ) : Type 0 where
  pub place : at ≡ start + w * k
  pub wrote : Wrote old new start (words w (take k xs)) at

pub puts_none : (w : ℕ) (old : List ℕ) (start : ℕ) (xs : List ℕ) → Puts w old old start xs 0 start
unfolding words
puts_none w old start xs = record { place = omega arith; wrote = record { is = refl; next = omega arith } }

pub after_bytes : (w x : ℕ) {a b : List ℕ} {at r : ℕ} → Wrote a b at (bytes_of w x) r → r ≡ at + w
after_bytes w x {at = at} p = p.next ∙ ap (λ (n : ℕ). at + n) (length_bytes w x)

pub puts_more : (w : ℕ) (old new next : List ℕ) (start : ℕ) (xs : List ℕ) (k at r : ℕ) → k < length xs
    → Puts w old new start xs k at → Wrote new next at (bytes_of w (get_or xs k 0)) r → Puts w old next start xs (k + 1) r
puts_more w old new next start xs k at r h p q = record {
  place = after_bytes w (get_or xs k 0) q ∙ omega (arith, p.place, mul-suc w k, ap (λ (j : ℕ). w * j) (add-one k));
  wrote = same_text (words_more w xs k h) (then_written p.wrote q);
}

-- a record is its head and then its body
pub wrote_record : {a b c : List ℕ} {at r s : ℕ} (w kind size : ℕ) (xs : List ℕ) → size ≡ w * length xs
    → Wrote a b at (head_of size kind) r → Wrote b c r (words w xs) s → Wrote a c at (record_of kind (words w xs)) s
unfolding record_of
wrote_record w kind size xs e p q =
    then_written (same_text (ap (λ (n : ℕ). head_of n kind) (e ∙ sym (length_words w xs))) p) q

pub after_head : (size kind : ℕ) {a b : List ℕ} {at r : ℕ} → Wrote a b at (head_of size kind) r → r ≡ at + 6
after_head size kind p =
    p.next ∙ omega (arith, length-append (bytes_of 4 (2 + size)) (bytes_of 2 kind), length_bytes 4 (2 + size), length_bytes 2 kind)
