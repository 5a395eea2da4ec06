-- The records of lists written one after the other. Assumes nothing.
use mathlib.Core.Path.{◌≡◌, refl, sym, ap, ap₂, ◌∙◌, subst}
use mathlib.Core.List.{List, ◌∷◌, ◌++◌, append_assoc, append-nil}
use Prim.Native.Nat.{ℕ, zero, suc, ◌+◌, ◌-◌, ◌*◌, ◌^◌, ◌<◌, ◌≤◌}
use native.Mathlib.Omega.{arith}
use native.Mathlib.Numerals.{add-one}
use lib.ListN.{length, get_or, length-append}
use Rattle.base.specs.Cat.{join, Wrote}
use Rattle.base.specs.Numbers.{cut}
use Rattle.lists.proofs.Joined.{From, first_is, behind}
use Rattle.plan_file.specs.Bytes.{words}
use Rattle.plan_file.specs.Records.{record_of}
use Rattle.plan_file.specs.Written.{Writer, wide_writer, written_from}
use Rattle.plan_file.specs.Verdicts.{lists_from}
use Rattle.plan_file.proofs.Numbers.{length_words}
use Rattle.plan_file.proofs.Parse.{length_record}
use Rattle.file_write.specs.Writable.{Writable}
use Rattle.base.proofs.Write.{then_written, same_text}

-- the sizes as they are worked out
pub with_sizes : {lists : ℕ → List ℕ} {sizes z index : List ℕ} {bytes : ℕ} → z ≡ sizes → Writable lists sizes index bytes → Writable lists z index bytes
with_sizes {lists} {sizes} {z} {index} {bytes} e w = subst (λ (l : List ℕ). Writable lists l index bytes) (sym e) w

-- one record more
written_next : (wr : Writer) (lists : ℕ → List ℕ) (n k : ℕ)
    → written_from wr lists k n ++ record_of (wr.kind (k + n)) (words (wr.width (k + n)) (lists (k + n))) ≡ written_from wr lists k (suc n)
unfolding written_from
written_next wr lists zero k =
    let e : k + 0 ≡ k = omega arith in
    ap (λ (j : ℕ). record_of (wr.kind j) (words (wr.width j) (lists j))) e
    ∙ sym (append-nil (record_of (wr.kind k) (words (wr.width k) (lists k))))
written_next wr lists (suc n) k =
    let e : k + suc n ≡ suc k + n = omega arith in
    append_assoc (record_of (wr.kind k) (words (wr.width k) (lists k))) (written_from wr lists (suc k) n)
    (record_of (wr.kind (k + suc n)) (words (wr.width (k + suc n)) (lists (k + suc n))))
    ∙ ap (λ (j : ℕ). record_of (wr.kind k) (words (wr.width k) (lists k)) ++ (written_from wr lists (suc k) n ++ record_of (wr.kind j) (words (wr.width j) (lists j)))) e
    ∙ ap (λ (l : List ℕ). record_of (wr.kind k) (words (wr.width k) (lists k)) ++ l) (written_next wr lists n (suc k))

-- the lists from number k + 1 on
abbrev left : (ℕ → List ℕ) → ℕ → List (List ℕ)
left lists k = lists_from lists (suc k) (16 - k)

left_is : (lists : ℕ → List ℕ) (k : ℕ) → k < 16 → left lists k ≡ lists (suc k) ∷ left lists (k + 1)
unfolding lists_from
left_is lists k h =
    let e : 16 - k ≡ suc (16 - (k + 1)) = omega arith in
    ap (lists_from lists (suc k)) e ∙ ap (λ (j : ℕ). lists (suc k) ∷ lists_from lists (suc j) (16 - (k + 1))) (sym (add-one k))

module _ (lists : ℕ → List ℕ) (index : List ℕ) where
  -- k records are written, and their lists end at `from`
  pub record Writing (old new : List ℕ) (at from k : ℕ) : Type 0 where
    pub stand : From index from (left lists k)
    pub total : from + length (join (left lists k)) ≡ length (join (lists_from lists 1 16))
    pub place : at ≡ 6 * k + 4 * from
    pub wrote : Wrote old new 0 (written_from wide_writer lists 1 k) at

  pub writing_none : (sizes : List ℕ) (bytes : ℕ) (old : List ℕ) → Writable lists sizes index bytes → Writing old old 0 0 0
  unfolding written_from
  writing_none sizes bytes old w = record {
    stand = record { rest = w.rest; is = w.is };
    total = omega arith;
    place = refl;
    wrote = record { is = refl; next = refl };
  }

  module _ (sizes : List ℕ) (bytes : ℕ) (w : Writable lists sizes index bytes) (old new : List ℕ) (at from k size : ℕ) (h : k < 16) (q : size ≡ get_or sizes k 0) (s : Writing old new at from k) where
    size_is : size ≡ length (lists (suc k))
    size_is = q ∙ w.sized k h

    halves : length (join (left lists k)) ≡ size + length (join (left lists (k + 1)))
    halves =
        ap (λ (l : List (List ℕ)). length (join l)) (left_is lists k h)
        ∙ omega (arith, length-append (lists (suc k)) (join (left lists (k + 1))), size_is)

    stands : From index from (lists (suc k) ∷ left lists (k + 1))
    stands = subst (From index from) (left_is lists k h) s.stand

    -- the next list is within the index memory, and its record within the file
    pub list_fits : from + size ≤ length index
    list_fits = omega (arith, halves, s.total, ap length w.is, length-append (join (lists_from lists 1 16)) w.rest)

    pub list_is : cut from (from + size) index ≡ lists (suc k)
    list_is = first_is stands (from + size) (omega (arith, size_is))

    pub list_long : length (cut from (from + size) index) ≡ size
    list_long = ap length list_is ∙ sym size_is

    pub record_fits : at + 6 + 4 * size ≤ bytes
    record_fits = omega (arith, halves, s.total, s.place, w.room)

    pub record_low : 2 + 4 * size < 2 ^ 32
    record_low = omega (arith, w.low k h, size_is)

    pub writing_more : (next : List ℕ) (r : ℕ) → Wrote new next at (record_of (k + 1) (words 4 (cut from (from + size) index))) r → Writing old next r (from + size) (k + 1)
    writing_more next r p =
        let one : k + 1 ≡ 1 + k = omega arith in
        record {
          stand = behind stands (from + size) (omega (arith, size_is));
          total = omega (arith, halves, s.total);
          place = p.next ∙ omega (arith, s.place, length_record (k + 1) (words 4 (cut from (from + size) index)), length_words 4 (cut from (from + size) index), list_long);
          wrote =
              same_text
              (ap₂ (λ (j : ℕ) (l : List ℕ). written_from wide_writer lists 1 k ++ record_of j (words 4 l)) one (list_is ∙ ap lists (sym (add-one k)) ∙ ap lists one)
              ∙ written_next wide_writer lists k 1
              ∙ ap (written_from wide_writer lists 1) (sym (add-one k)))
              (then_written s.wrote p);
        }
