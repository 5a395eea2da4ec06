-- The table of kinds, and the files written for it. Assumes nothing.
use mathlib.Core.Path.{◌≡◌, refl, sym, ◌∙◌, subst}
use mathlib.Core.Bool.{Bool, true, false, cond}
use mathlib.Core.List.{List, []}
use Prim.Native.Nat.{ℕ, zero, suc, ◌+◌, ◌*◌, ◌^◌, ◌<◌, ◌≤◌}
use native.Mathlib.Omega.{arith}
use borrow.Author.Tests.{le-leb, lt-leb, leb-true}
use lib.Dec.{leb}
use lib.ListN.{length, length-append}
use Rattle.base.specs.Numbers.{Below}
use Rattle.base.proofs.Bools.{and_in, and_out}
use Rattle.csr.specs.Verdict.{passed, refused, ask}
use Rattle.plan_file.specs.Bytes.{words}
use Rattle.plan_file.specs.Records.{record_of, Cut, short, whole, records_of}
use Rattle.plan_file.specs.declared.Meaning.{Meaning}
use Rattle.plan_file.specs.declared.Meaning.TheVariants.{Listed, Note, Neither}
use Rattle.plan_file.specs.Tables.{Table, first_note, is_list, wide, width_of}
use Rattle.plan_file.specs.Verdicts.{asked, file_verdict, whole_cut, whole_file, ordered_cut, ordered_file, matrixs_cut, matrixs_file, Around, ended, noted, held, Filed, Sound, Fitting, lists_from}
use Rattle.plan_file.specs.Written.{Writer, wide_writer, written_from, written_file, words_in, Noted, last, note, next}
use Rattle.plan_file.proofs.Numbers.{length_words}
use Rattle.plan_file.proofs.Parse.{length_record}
use Rattle.plan_file.proofs.Yes.{filed_passes, passes_gives}

-- ---- what a table's entry says of the kind

apart : {k w : ℕ} → Note ≡ Listed k w → ⊥
apart e = let z : ◌≡◌ {A = ℕ} 0 1 = cc in omega arith

apart_neither : {k w : ℕ} → Neither ≡ Listed k w → ⊥
apart_neither e = let z : ◌≡◌ {A = ℕ} 0 1 = cc in omega arith

apart_note : {k w : ℕ} → Listed k w ≡ Note → ⊥
apart_note e = let z : ◌≡◌ {A = ℕ} 0 1 = cc in omega arith

note_neither : Neither ≡ Note → ⊥
note_neither e = let z : ◌≡◌ {A = ℕ} 0 1 = cc in omega arith

same_list : {a b k w : ℕ} → Listed a b ≡ Listed k w → (a ≡ k) × (b ≡ w)
same_list e = (cc, cc)

-- a list's number
pub record Numbered (k : ℕ) : Type 0 where
  pub low : 1 ≤ k
  pub high : k ≤ 16

is_list_lem : (k : ℕ) → is_list k ≡ true → Numbered k
is_list_lem k e = let b = and_out (leb 1 k) (leb k 16) e in record { low = leb-true 1 k b.0; high = leb-true k 16 b.1 }

list_is : (k : ℕ) → Numbered k → is_list k ≡ true
list_is k h = and_in (leb 1 k) (leb k 16) (le-leb 1 k h.low) (le-leb k 16 h.high)

-- what the table says of a list's kind
pub record Wide (kind k w : ℕ) : Type 0 where
  pub number : k ≡ kind
  pub bytes : w ≡ 4
  pub known : Numbered k

wide_out : (kind k w : ℕ) → wide kind ≡ Listed k w → Wide kind k w
wide_out kind k w = go (leb first_note kind) (is_list kind) refl
  where
    go : (a b : Bool) → is_list kind ≡ b → cond a Note (cond b (Listed kind 4) Neither) ≡ Listed k w → Wide kind k w
    go true b f e = absurd (apart e)
    go false false f e = absurd (apart_neither e)
    go false true f e =
        let s = same_list e in
        record { number = sym s.0; bytes = sym s.1; known = subst Numbered s.0 (is_list_lem kind f) }

note_out : (kind : ℕ) (m : Meaning) → (m ≡ Note → ⊥) → cond (leb first_note kind) Note m ≡ Note → first_note ≤ kind
note_out kind m h e = leb-true first_note kind (go (leb first_note kind) e)
  where
    go : (a : Bool) → cond a Note m ≡ Note → a ≡ true
    go true e = refl
    go false e = absurd (h e)

pub wide_sound : Sound wide
wide_sound = record {
  notes = λ kind h. rw (le-leb first_note kind h);
  only = λ kind e. note_out kind (cond (is_list kind) (Listed kind 4) Neither) (no_note (is_list kind) kind) e;
  small = λ kind k w e. let o = wide_out kind k w e in omega (arith, o.number, o.known.high);
  wide = λ kind k w e. let o = wide_out kind k w e in omega (arith, o.bytes);
}
  where
    no_note : (b : Bool) (kind : ℕ) → cond b (Listed kind 4) Neither ≡ Note → ⊥
    no_note true kind e = apart_note e
    no_note false kind e = note_neither e

-- the lists fit it where their numbers fit 32 bits
pub wide_fitting : (lists : ℕ → List ℕ)
    → ((k : ℕ) → Numbered k → 2 + 4 * length (lists k) < 2 ^ 32)
    → ((k : ℕ) → Numbered k → Below (2 ^ 32) (lists k))
    → Fitting wide lists
wide_fitting lists long low = record {
  size = λ kind k w e. let o = wide_out kind k w e in subst (λ (v : ℕ). 2 + v * length (lists k) < 2 ^ 32) (sym o.bytes) (long k o.known);
  below = λ kind k w e. let o = wide_out kind k w e in subst (λ (v : ℕ). Below (256 ^ v) (lists k)) (sym o.bytes) (low k o.known);
}

-- ---- A WRITTEN FILE IS A PLAN'S FILE, whatever whole notes are added around its records

abbrev pub Writes : Table → Writer → Type 0
Writes t wr = (k : ℕ) → Numbered k → t (wr.kind k) ≡ Listed k (wr.width k)

pub wide_writes : Writes wide wide_writer
wide_writes k h = rw (lt-leb first_note k (omega (arith, h.high)), list_is k h)

module _ (t : Table) (wr : Writer) (lists : ℕ → List ℕ) where
  -- no note is one way of adding notes
  none_added : (n k : ℕ) → k + n ≡ 17 → Noted wr lists k (written_from wr lists k n)
  unfolding written_from
  none_added zero k e =
      let q : 17 ≡ k = omega arith in
      subst (λ (i : ℕ). Noted wr lists i []) q last
  none_added (suc n) k e = next (none_added n (suc k) (omega arith))

  pub written_noted : Noted wr lists 1 (written_file wr lists)
  written_noted = none_added 16 1 refl

  around : Writes t wr → {k : ℕ} {file : List ℕ} → 1 ≤ k → Noted wr lists k file → (k ≤ 17) × Around t lists k file
  around h l last = (omega arith, ended)
  around h l (note kind body high small fits a) = let b = around h l a in (b.0, noted kind body high small fits b.1)
  around h {k = k} l (next a) =
      let b = around h {k = suc k} (omega arith) a in
      (omega (arith, b.0), held (wr.kind k) (wr.width k) (h k (record { low = l; high = omega (arith, b.0) })) b.1)

  pub noted_filed : Writes t wr → (file : List ℕ) → Noted wr lists 1 file → Filed t lists file
  noted_filed h file a = (around h (omega arith) a).1

  pub noted_passes : Sound t → Fitting t lists → Writes t wr → (file : List ℕ) → Noted wr lists 1 file → file_verdict t lists file ≡ passed
  noted_passes sound fitting h file a = filed_passes t lists sound fitting file (noted_filed h file a)

-- ---- NO FILE GIVES OTHER LISTS: a file is the plan of one matrix's lists only
pub one_plan : (t : Table) (lists others : ℕ → List ℕ) (file : List ℕ)
    → file_verdict t lists file ≡ passed → file_verdict t others file ≡ passed → lists_from lists 1 16 ≡ lists_from others 1 16
one_plan t lists others file p q = sym (passes_gives t lists file p) ∙ passes_gives t others file q

-- ---- HOW LONG IT IS

unfoldable pub bytes_in : Writer → (ℕ → List ℕ) → ℕ → ℕ → ℕ
bytes_in wr lists k zero = 0
bytes_in wr lists k (suc n) = wr.width k * length (lists k) + bytes_in wr lists (suc k) n

pub length_written : (wr : Writer) (lists : ℕ → List ℕ) (n k : ℕ) → length (written_from wr lists k n) ≡ 6 * n + bytes_in wr lists k n
unfolding written_from bytes_in
length_written wr lists zero k = refl
length_written wr lists (suc n) k =
    length-append (record_of (wr.kind k) (words (wr.width k) (lists k))) (written_from wr lists (suc k) n)
    ∙ omega (arith, length_record (wr.kind k) (words (wr.width k) (lists k)), length_words (wr.width k) (lists k), length_written wr lists n (suc k))

module _ (lists : ℕ → List ℕ) where
  pub size_wide : length (written_file wide_writer lists) ≡ 4 * words_in lists 1 16 + 96
  unfolding bytes_in words_in
  size_wide = length_written wide_writer lists 16 1 ∙ omega arith

-- ---- the table as it is worked out

pub wide_most : (kind k w : ℕ) → wide kind ≡ Listed k w → k ≤ 16
wide_most kind k w e = (wide_out kind k w e).known.high

pub wide_width : (kind : ℕ) → 0 < width_of (wide kind)
wide_width kind = go (leb first_note kind) (is_list kind)
  where
    go : (a b : Bool) → 0 < width_of (cond a Note (cond b (Listed kind 4) Neither))
    go true b = omega arith
    go false true = omega arith
    go false false = omega arith

pub wide_high : (kind : ℕ) → first_note ≤ kind → Note ≡ wide kind
wide_high kind h = rw (le-leb first_note kind h)

not_list : (kind : ℕ) → kind < first_note → is_list kind ≡ false → Neither ≡ wide kind
not_list kind h e = rw (lt-leb first_note kind h, e)

pub wide_none : (kind : ℕ) → kind < 1 → Neither ≡ wide kind
wide_none kind h = not_list kind (omega arith) (rw (lt-leb 1 kind h))

pub wide_over : (kind : ℕ) → kind < first_note → 16 < kind → Neither ≡ wide kind
wide_over kind h l = not_list kind h (rw (lt-leb kind 16 l, le-leb 1 kind (omega arith)))

pub wide_list : (kind : ℕ) → 1 ≤ kind → kind ≤ 16 → Listed kind 4 ≡ wide kind
wide_list kind l h = sym (wide_writes kind (record { low = l; high = h }))

-- 14, 15 and 16 one after the other
pub one_by_one : (t : Table) (lists : ℕ → List ℕ) (file : List ℕ)
    → file_verdict t lists file
    ≡ ask (whole_file t file) (ask (ordered_file t 1 file) (ask (matrixs_file t lists file) passed (refused 16 0 0)) (refused 15 0 0)) (refused 14 0 0)
unfolding file_verdict whole_file ordered_file matrixs_file
one_by_one t lists file = go (records_of file)
  where
    go : (c : Cut) → asked t lists c ≡ ask (whole_cut t c) (ask (ordered_cut t 1 c) (ask (matrixs_cut t lists c) passed (refused 16 0 0)) (refused 15 0 0)) (refused 14 0 0)
    go short = refl
    go (whole rs) = refl
