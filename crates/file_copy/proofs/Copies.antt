-- The lists of a file, copied record by record. Assumes nothing.
use mathlib.Core.Path.{◌≡◌, refl, sym, ap, ap₂, ◌∙◌, subst}
use mathlib.Core.Bool.{Bool, true, false, cond, false≢true}
use mathlib.Core.List.{List, [], ◌++◌, append_assoc, append-nil}
use Prim.Native.Nat.{ℕ, zero, suc, ◌+◌, ◌*◌, ◌/◌, ◌<◌, ◌≤◌}
use native.Mathlib.Omega.{arith}
use native.Mathlib.Numerals.{add-one}
use lib.Dec.{leb}
use lib.ListN.{length, get_or, take, drop, set, length-append, drop_of_length-le}
use lib.Seq.{take-suc, take_all, sets, drop-drop, get_or-take, get_or-drop}
use Rattle.std.specs.Int.{w32, from_le_bytes}
use Rattle.std.specs.Simd.{first_chunks}
use Rattle.record.specs.Little.{le2, le4}
use Rattle.base.specs.Cat.{join, Wrote}
use Rattle.base.specs.Numbers.{cut}
use Rattle.base.proofs.Write.{then_written, same_text}
use Rattle.plan_file.specs.Records.{Entry, kind_at, body_at, rest_at, first_at, starts_whole, Cut, short, whole, also, records_of}
use Rattle.plan_file.specs.declared.Meaning.{Meaning}
use Rattle.plan_file.specs.declared.Meaning.TheVariants.{Listed, Note, Neither}
use Rattle.plan_file.specs.Tables.{Table, first_note, is_list, wide}
use Rattle.plan_file.specs.Verdicts.{whole_cut, whole_file, given, given_by, given_cut, lists_in}
use Rattle.plan_file.proofs.Parse.{records_first}
use Rattle.file_numbers.specs.Agree.{numbers_of}
use Rattle.file_numbers.proofs.Agrees.{how_many, number_is}
use Rattle.file_walk.proofs.Walks.{some_left, both_parts, meant, body_there, rest_there, good_there, within_there}
use Rattle.file_copy.specs.Copied.{given_words, Words}

-- ---- the numbers of a body

-- one number more is written
pub word_more : (old new : List ℕ) (start : ℕ) (xs : List ℕ) (k x : ℕ) → k < length xs → x ≡ get_or xs k 0
    → Wrote old new start (take k xs) (start + k) → Wrote old (set new (start + k) x) start (take (k + 1) xs) (start + (k + 1))
word_more old new start xs k x h e s =
    same_text (sym (take-suc xs k 0 h) ∙ ap (λ (j : ℕ). take j xs) (sym (add-one k)))
    (then_written s (record { is = ap (set new (start + k)) e; next = omega arith }))

pub words_all : (old new : List ℕ) (start : ℕ) (xs : List ℕ) (k n : ℕ) → n ≡ length xs → n ≡ k → Wrote old new start (take k xs) (start + k) → Wrote old new start xs (start + n)
words_all old new start xs k n c q s = record { is = s.is ∙ ap (sets old start) (take_all k xs (omega arith)); next = omega arith }

chunk_at : (n k : ℕ) (s : List ℕ) → k < n → get_or (first_chunks 4 n s) k [] ≡ take 4 (drop (4 * k) s)
chunk_at zero k s h = absurd (omega arith)
chunk_at (suc n) zero s h = refl
chunk_at (suc n) (suc k) s h =
    let e : 4 + 4 * k ≡ 4 * suc k = omega arith in
    chunk_at n k (drop 4 s) (omega arith) ∙ ap (take 4) (drop-drop (4 * k) 4 s) ∙ ap (λ (i : ℕ). take 4 (drop i s)) e

byte_at : (s : List ℕ) (at i : ℕ) → i < 4 → get_or (take 4 (drop at s)) i 0 ≡ get_or s (at + i) 0
byte_at s at i h = get_or-take 4 (drop at s) i 0 h ∙ get_or-drop at s i 0

four_bytes : (s : List ℕ) (at : ℕ) → from_le_bytes w32 (take 4 (drop at s)) ≡ le4 s at
four_bytes s at =
    let e : at + 0 ≡ at = omega arith in
    let f : at + 2 + 1 ≡ at + 3 = omega arith in
    omega (arith, byte_at s at 0 (omega arith), byte_at s at 1 (omega arith), byte_at s at 2 (omega arith), byte_at s at 3 (omega arith), ap (λ (i : ℕ). get_or s i 0) e, ap (λ (i : ℕ). get_or s i 0) f)

-- a word of a body is its number
pub word_is : (body : List ℕ) (n k : ℕ) → n ≡ length body / 4 → k < n → from_le_bytes w32 (get_or (first_chunks 4 n body) k []) ≡ get_or (numbers_of body) k 0
word_is body n k e h =
    number_is body k _ (omega (arith, how_many body))
    (ap (from_le_bytes w32) (chunk_at n k body h) ∙ four_bytes body (4 * k))

-- ---- one record

pub words_wide : (kind : ℕ) → Words (wide kind)
words_wide kind = go (leb first_note kind) (is_list kind)
  where
    go : (a b : Bool) → Words (cond a Note (cond b (Listed kind 4) Neither))
    go true b = tt
    go false true = refl
    go false false = tt

pub list_words : (m : Meaning) (body : List ℕ) {k w : ℕ} → m ≡ Listed k w → Words m → numbers_of body ≡ given_words m body
unfolding numbers_of
list_words m body {k} {w} e h =
    let four : w ≡ 4 = subst Words e h in
    ap (λ (x : ℕ). given_words (Listed k x) body) (sym four) ∙ ap (λ (q : Meaning). given_words q body) (sym e)

join_given : (m : Meaning) (body : List ℕ) (more : List (List ℕ)) → join (given m body more) ≡ given_words m body ++ join more
join_given (Listed k w) body more = refl
join_given Note body more = refl
join_given Neither body more = refl

-- ---- the walk

module _ (t : Table) where
  given_also : (r : Entry) (c : Cut) → whole_cut t c ≡ true → given_cut t (also r c) ≡ given (t r.kind) r.body (given_cut t c)
  unfolding given_by
  given_also r short e = absurd (false≢true e)
  given_also r (whole rs) e = refl

  lists_first : (s : List ℕ) → 0 < length s → starts_whole s ≡ true → whole_file t (rest_at s) ≡ true
      → lists_in t s ≡ given (t (kind_at s)) (body_at s) (lists_in t (rest_at s))
  unfolding lists_in whole_file
  lists_first s h e w =
      ap (given_cut t) (records_first s h ∙ ap (λ (b : Bool). cond b (also (first_at s) (records_of (rest_at s))) short) e)
      ∙ given_also (first_at s) (records_of (rest_at s)) w

  lists_none : lists_in t [] ≡ []
  unfolding lists_in given_by
  lists_none = refl

  -- the walk stands at a record's start, and what was written before it with what is left are the file's words
  pub record Copying (file old new : List ℕ) (at to : ℕ) : Type 0 where
    pub within : at ≤ length file
    pub good : whole_file t (drop at file) ≡ true
    pub front : List ℕ
    pub both : join (lists_in t file) ≡ front ++ join (lists_in t (drop at file))
    pub wrote : Wrote old new 0 front to

  module _ (file old : List ℕ) where
    pub copying_all : (new : List ℕ) (at to : ℕ) → length file ≤ at → Copying file old new at to → Wrote old new 0 (join (lists_in t file)) to
    copying_all new at to h w =
        same_text
        (sym (append-nil w.front) ∙ sym (ap (λ (l : List (List ℕ)). w.front ++ join l) (ap (lists_in t) (drop_of_length-le file {i = at} h) ∙ lists_none)) ∙ sym w.both)
        w.wrote

    module _ (new : List ℕ) (at to : ℕ) (w : Copying file old new at to) (more : at < length file) where
      -- the next record's words
      abbrev words_there : List ℕ
      words_there = given_words (t (le2 file (at + 4))) (cut (at + 6) (at + 4 + le4 file at) file)

      -- they come next
      next_words : join (lists_in t file) ≡ (w.front ++ words_there) ++ join (lists_in t (drop (at + 4 + le4 file at) file))
      next_words =
          w.both
          ∙ ap (λ (l : List ℕ). w.front ++ l)
          (ap join (lists_first (drop at file) (some_left t file at w.good more) (both_parts t file at w.good more).0 (both_parts t file at w.good more).1)
          ∙ join_given (t (kind_at (drop at file))) (body_at (drop at file)) (lists_in t (rest_at (drop at file)))
          ∙ ap₂ (λ (x y : List ℕ). x ++ join (lists_in t y))
          (ap₂ given_words (sym (meant t file at w.good more (le2 file (at + 4)) refl (t (le2 file (at + 4))) refl)) (sym (body_there t file at w.good more (le4 file at) refl)))
          (rest_there t file at w.good more (le4 file at) refl))
          ∙ sym (append_assoc w.front words_there (join (lists_in t (drop (at + 4 + le4 file at) file))))

      pub next_fits : (n : ℕ) → length (join (lists_in t file)) ≤ n → to + length words_there ≤ n
      next_fits n h =
          omega (arith, ap length next_words, length-append (w.front ++ words_there) (join (lists_in t (drop (at + 4 + le4 file at) file))), length-append w.front words_there, w.wrote.next, h)

      pub copying_on : (next : List ℕ) (r : ℕ) → Wrote new next to words_there r → Copying file old next (at + 4 + le4 file at) r
      copying_on next r p = record {
        within = within_there t file at w.good more (le4 file at) refl;
        good = good_there t file at w.good more (le4 file at) refl;
        front = w.front ++ words_there;
        both = next_words;
        wrote = then_written w.wrote p;
      }
