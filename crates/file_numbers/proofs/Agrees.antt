-- Laws of numbers compared with a list. Assumes nothing.
use mathlib.Core.Path.{◌≡◌, refl, sym, ap, ap₂, ◌∙◌}
use mathlib.Core.Bool.{Bool, true, false, not, ◌&&◌}
use mathlib.Core.List.{List, [], ◌∷◌, ◌++◌}
use Prim.Native.Nat.{ℕ, suc, ◌+◌, ◌*◌, ◌/◌, ◌<◌, ◌≤◌}
use native.Mathlib.Omega.{arith}
use native.Mathlib.Nat.{add-zero}
use borrow.Author.Tests.{ne_eqb}
use lib.Dec.{eqb}
use lib.ListN.{length, get_or, take, drop, drop_of_length-le}
use lib.Seq.{drop-cons}
use Rattle.record.specs.Little.{le4}
use mir.Val.{bool_byte}
use Rattle.std.proofs.lemmas.List.{take_more}
use Rattle.base.proofs.Bools.{and_false, and_true}
use Rattle.base.proofs.Numbers.{length_takes}
use Rattle.plan_file.specs.Verdicts.{same}
use Rattle.file_numbers.specs.Agree.{numbers_of, agree}
use Rattle.plan_file.proofs.Numbers.{length_numbers, number_at}
use Rattle.plan_file.proofs.Little.{le4_is}

-- ---- the numbers of a body

pub how_many : (body : List ℕ) → length (numbers_of body) ≡ length body / 4
unfolding numbers_of
how_many body = length_numbers 4 (length body / 4) body

-- no more than bytes
pub few_numbers : (body : List ℕ) → length (numbers_of body) ≤ length body
few_numbers body = omega (arith, how_many body)

pub number_room : (body : List ℕ) (k : ℕ) → k < length (numbers_of body) → 4 * k + 4 ≤ length body
number_room body k h = omega (arith, how_many body)

pub number_is : (body : List ℕ) (k r : ℕ) → k < length (numbers_of body) → r ≡ le4 body (4 * k) → r ≡ get_or (numbers_of body) k 0
unfolding numbers_of
number_is body k r h q =
    q ∙ le4_is body (4 * k) (number_room body k h) ∙ sym (number_at 4 (length body / 4) body k (omega (arith, how_many body)))

-- ---- piece by piece

pub agree_none : (s : List ℕ) (at : ℕ) → true ≡ agree s at []
unfolding agree
agree_none s at = refl

and_assoc : (a b c : Bool) → a && (b && c) ≡ (a && b) && c
and_assoc true b c = refl
and_assoc false b c = refl

pub agree_join : (s : List ℕ) (at : ℕ) (l r : List ℕ) → agree s at (l ++ r) ≡ agree s at l && agree s (at + length l) r
unfolding agree
agree_join s at [] r = let z : at ≡ at + 0 = omega arith in ap (λ (i : ℕ). agree s i r) z
agree_join s at (x ∷ l) r =
    let z : suc at + length l ≡ at + suc (length l) = omega arith in
    ap (λ (b : Bool). eqb (get_or s at 0) x && b) (agree_join s (suc at) l r ∙ ap (λ (i : ℕ). agree s (suc at) l && agree s i r) z)
    ∙ and_assoc (eqb (get_or s at 0) x) (agree s (suc at) l) (agree s (at + suc (length l)) r)

pub byte_le : (b : Bool) → bool_byte b ≤ 1
byte_le true = omega arith
byte_le false = omega arith

-- one number more, and how many differ so far
pub differ_more : (s : List ℕ) (at : ℕ) (l : List ℕ) (k bad : ℕ) → k < length l → eqb bad 0 ≡ agree s at (take k l) → eqb (bad + bool_byte (not (eqb (get_or s (at + k) 0) (get_or l k 0)))) 0 ≡ agree s at (take (k + 1) l)
unfolding agree
differ_more s at l k bad h e =
    go (eqb (get_or s (at + k) 0) (get_or l k 0))
    ∙ ap (λ (b : Bool). b && eqb (get_or s (at + k) 0) (get_or l k 0)) e
    ∙ ap (λ (b : Bool). agree s at (take k l) && b) last
    ∙ sym (ap (agree s at) (take_more l k 0 h) ∙ agree_join s at (take k l) (get_or l k 0 ∷ []))
  where
    go : (t : Bool) → eqb (bad + bool_byte (not t)) 0 ≡ eqb bad 0 && t
    go true = ap (λ (n : ℕ). eqb n 0) (add-zero bad) ∙ sym (and_true (eqb bad 0))
    go false = ne_eqb (bad + 1) 0 (λ q. omega arith) ∙ sym (and_false (eqb bad 0))

    last : eqb (get_or s (at + k) 0) (get_or l k 0) ≡ agree s (at + length (take k l)) (get_or l k 0 ∷ [])
    last = sym (and_true (eqb (get_or s (at + length (take k l)) 0) (get_or l k 0)) ∙ ap (λ (n : ℕ). eqb (get_or s (at + n) 0) (get_or l k 0)) (length_takes k l (omega arith)))

-- one piece more
pub agree_more : (s : List ℕ) (at q : ℕ) (l r : List ℕ) → q ≡ at + length l → agree s at l ≡ true → agree s q r ≡ true → agree s at (l ++ r) ≡ true
agree_more s at q l r e f g = agree_join s at l r ∙ ap₂ ◌&&◌ f (ap (λ (i : ℕ). agree s i r) (sym e) ∙ g)

-- a piece that differs, whatever follows
pub agree_not : (s : List ℕ) (at q : ℕ) (l r rest : List ℕ) → q ≡ at + length l → agree s q r ≡ false → agree s at (l ++ (r ++ rest)) ≡ false
agree_not s at q l r rest e g =
    agree_join s at l (r ++ rest)
    ∙ ap (λ (b : Bool). agree s at l && b)
    (agree_join s (at + length l) r rest ∙ ap (λ (b : Bool). b && agree s (at + length l + length r) rest) (ap (λ (i : ℕ). agree s i r) (sym e) ∙ g))
    ∙ and_false (agree s at l)

agree_drop : (s : List ℕ) (at : ℕ) (l : List ℕ) → length s ≡ at + length l → agree s at l ≡ same (drop at s) l
unfolding agree same
agree_drop s at [] h = sym (ap (λ (d : List ℕ). same d []) (drop_of_length-le s {i = at} (omega arith)))
agree_drop s at (x ∷ l) h =
    ap (λ (b : Bool). eqb (get_or s at 0) x && b) (agree_drop s (suc at) l (omega arith))
    ∙ sym (ap (λ (d : List ℕ). same d (x ∷ l)) (drop-cons s at 0 (omega arith)))

-- WHERE THE LIST IS AS LONG AS THE NUMBERS, IT IS THEY
pub agree_same : (s l : List ℕ) → length s ≡ length l → agree s 0 l ≡ same s l
agree_same s l h = agree_drop s 0 l (omega arith)
