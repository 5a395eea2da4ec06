-- A walk over a file's records by their places. Assumes nothing.
use mathlib.Core.Path.{◌≡◌, refl, sym, ap, ap₂, ◌∙◌}
use mathlib.Core.Bool.{Bool, true, false, cond, ◌&&◌, false≢true}
use mathlib.Core.List.{List, []}
use Prim.Native.Nat.{ℕ, ◌+◌, ◌-◌, ◌<◌, ◌≤◌}
use native.Mathlib.Omega.{arith}
use borrow.Author.Tests.{le-leb, lt-leb, eqb-true}
use lib.Dec.{eqb}
use lib.ListN.{length, take, drop, length-drop, drop_of_length-le}
use lib.Seq.{drop-drop}
use Rattle.record.specs.Little.{le2, le4}
use Rattle.base.specs.Numbers.{cut}
use Rattle.base.proofs.Bools.{and_in, and_out}
use Rattle.plan_file.specs.Bytes.{number}
use Rattle.plan_file.specs.Records.{Entry, length_at, kind_at, body_at, rest_at, first_at, starts_whole, Cut, short, whole, also, records_of}
use Rattle.plan_file.specs.declared.Meaning.{Meaning}
use Rattle.plan_file.specs.declared.Meaning.TheVariants.{Listed, Note, Neither}
use Rattle.plan_file.specs.Tables.{Table}
use Rattle.plan_file.specs.Verdicts.{whole_body, whole_bodies, whole_cut, whole_file, is_next, after, in_order, ordered_cut, ordered_file}
use Rattle.plan_file.proofs.Little.{le2_is, le4_is}
use Rattle.file_walk.specs.Headed.{Headed}
use Rattle.plan_file.proofs.Parse.{records_first, no_length, no_room, Starts, starts_out}

-- ---- the record's fields by their places

pub kind_is : (s : List ℕ) (at : ℕ) → at + 4 + 2 ≤ length s → le2 s (at + 4) ≡ kind_at (drop at s)
kind_is s at h = le2_is s (at + 4) h ∙ ap (λ (l : List ℕ). number (take 2 l)) (sym (drop-drop 4 at s))

body_is : (s : List ℕ) (at size : ℕ) → size ≡ length_at (drop at s) → cut (at + 6) (at + 4 + size) s ≡ body_at (drop at s)
body_is s at size e =
    let z : at + 4 + size - (at + 6) ≡ length_at (drop at s) - 2 = omega (arith, e) in
    ap₂ (λ (n : ℕ) (l : List ℕ). take n l) z (sym (drop-drop 6 at s))

-- ---- whether a record starts there

pub starts_yes : (s : List ℕ) → Starts s → starts_whole s ≡ true
unfolding starts_whole
starts_yes s w = and_in _ _ (le-leb _ _ w.long) (and_in _ _ (le-leb _ _ w.room) (le-leb _ _ w.kinded))

pub no_kind : (s : List ℕ) → 4 ≤ length s → length_at s ≤ length s - 4 → length_at s < 2 → starts_whole s ≡ false
unfolding starts_whole
no_kind s h r l = rw (le-leb 4 (length s) h, le-leb (length_at s) (length s - 4) r, lt-leb 2 (length_at s) l)

-- by what is read at a place of a file
module _ (file : List ℕ) (at : ℕ) where
  left_at : length (drop at file) ≡ length file - at
  left_at = length-drop at file

  pub no_length_at : length file - at < 4 → starts_whole (drop at file) ≡ false
  no_length_at h = no_length (drop at file) (omega (arith, left_at))

  module _ (four : 4 ≤ length file - at) where
    said_at : length_at (drop at file) ≡ le4 file at
    said_at = sym (le4_is file at (omega arith))

    pub no_room_at : length file - at - 4 < le4 file at → starts_whole (drop at file) ≡ false
    no_room_at h = no_room (drop at file) (omega (arith, left_at)) (omega (arith, left_at, said_at))

    module _ (room : le4 file at ≤ length file - at - 4) where
      pub no_kind_at : le4 file at < 2 → starts_whole (drop at file) ≡ false
      no_kind_at h = no_kind (drop at file) (omega (arith, left_at)) (omega (arith, left_at, said_at)) (omega (arith, said_at))

      pub starts_at : 2 ≤ le4 file at → starts_whole (drop at file) ≡ true
      starts_at h =
          starts_yes (drop at file)
          (record { room = omega (arith, left_at, said_at); long = omega (arith, left_at); kinded = omega (arith, said_at) })

  pub headed_at : starts_whole (drop at file) ≡ true → Headed file at
  headed_at e =
      let s = starts_out (drop at file) e in
      let f : at + 4 ≤ length file = omega (arith, s.long, left_at) in
      let l = le4_is file at f in
      record { four = f; six = omega (arith, s.room, s.kinded, left_at); kinded = omega (arith, s.kinded, l); room = omega (arith, s.room, left_at, l) }

-- ---- question 14, record by record

module _ (t : Table) where
  whole_also : (r : Entry) (c : Cut) → whole_cut t (also r c) ≡ whole_body (t r.kind) (length r.body) && whole_cut t c
  unfolding whole_bodies
  whole_also r short = no (whole_body (t r.kind) (length r.body))
    where
      no : (b : Bool) → false ≡ b && false
      no true = refl
      no false = refl
  whole_also r (whole rs) = refl

  whole_none : whole_file t [] ≡ true
  unfolding whole_file
  whole_none = refl

  pub whole_first : (s : List ℕ) → 0 < length s
      → whole_file t s ≡ cond (starts_whole s) (whole_body (t (kind_at s)) (length (body_at s)) && whole_file t (rest_at s)) false
  unfolding whole_file
  whole_first s h = ap (whole_cut t) (records_first s h) ∙ go (starts_whole s)
    where
      go : (b : Bool) → whole_cut t (cond b (also (first_at s) (records_of (rest_at s))) short)
          ≡ cond b (whole_body (t (kind_at s)) (length (body_at s)) && whole_cut t (records_of (rest_at s))) false
      go false = refl
      go true = whole_also (first_at s) (records_of (rest_at s))

  -- what a yes at 14 says of the first record and of the rest
  pub whole_starts : (s : List ℕ) → 0 < length s → whole_file t s ≡ true → (starts_whole s ≡ true) × (whole_file t (rest_at s) ≡ true)
  whole_starts s h e = go (starts_whole s) (sym (whole_first s h) ∙ e)
    where
      go : (b : Bool) → cond b (whole_body (t (kind_at s)) (length (body_at s)) && whole_file t (rest_at s)) false ≡ true → (b ≡ true) × (whole_file t (rest_at s) ≡ true)
      go true q = (refl, (and_out (whole_body (t (kind_at s)) (length (body_at s))) (whole_file t (rest_at s)) q).1)
      go false q = absurd (false≢true q)

  -- the walk stands at a record's start, and what is left is as good as the whole
  pub record Walked (file : List ℕ) (at : ℕ) : Type 0 where
    pub within : at ≤ length file
    pub left : whole_file t (drop at file) ≡ whole_file t file

  module _ (file : List ℕ) where
    pub walked_all : (at : ℕ) → length file ≤ at → Walked file at → true ≡ whole_file t file
    walked_all at h w = sym whole_none ∙ sym (ap (whole_file t) (drop_of_length-le file {i = at} h)) ∙ w.left

    module _ (at : ℕ) (w : Walked file at) (more : at < length file) where
      first : whole_file t (drop at file) ≡ cond (starts_whole (drop at file)) (whole_body (t (kind_at (drop at file))) (length (body_at (drop at file))) && whole_file t (rest_at (drop at file))) false
      first = whole_first (drop at file) (omega (arith, left_at file at))

      pub stopped : starts_whole (drop at file) ≡ false → false ≡ whole_file t file
      stopped e = sym (rw e at first) ∙ w.left

      module _ (begins : starts_whole (drop at file) ≡ true) (b : Bool) (said : b ≡ whole_body (t (le2 file (at + 4))) (length (cut (at + 6) (at + 4 + le4 file at) file))) where
        there : Headed file at
        there = headed_at file at begins

        long : length_at (drop at file) ≡ le4 file at
        long = sym (le4_is file at there.four)

        same : b ≡ whole_body (t (kind_at (drop at file))) (length (body_at (drop at file)))
        same = said ∙ ap₂ (λ (k n : ℕ). whole_body (t k) n) (kind_is file at there.six) (ap length (body_is file at (le4 file at) (sym long)))

        goes : b && whole_file t (rest_at (drop at file)) ≡ whole_file t file
        goes = ap (λ (x : Bool). x && whole_file t (rest_at (drop at file))) same ∙ sym (rw begins at first) ∙ w.left

        pub bad_body : b ≡ false → false ≡ whole_file t file
        bad_body e = sym (ap (λ (x : Bool). x && whole_file t (rest_at (drop at file))) e) ∙ goes

        pub walked_on : b ≡ true → Walked file (at + 4 + le4 file at)
        walked_on e = record {
          within = there.room;
          left =
              sym (ap (whole_file t) (ap (λ (n : ℕ). drop n (drop 4 (drop at file))) long ∙ ap (drop (le4 file at)) (drop-drop 4 at file) ∙ drop-drop (le4 file at) (at + 4) file))
              ∙ sym (ap (λ (x : Bool). x && whole_file t (rest_at (drop at file))) e) ∙ goes;
        }

-- ---- a record of a file that got a yes at 14

module _ (t : Table) (file : List ℕ) (at : ℕ) (good : whole_file t (drop at file) ≡ true) (more : at < length file) where
  bytes_left : length (drop at file) ≡ length file - at
  bytes_left = length-drop at file

  pub some_left : 0 < length (drop at file)
  some_left = omega (arith, bytes_left)

  -- it is whole, and so is what follows it
  pub both_parts : (starts_whole (drop at file) ≡ true) × (whole_file t (rest_at (drop at file)) ≡ true)
  both_parts = whole_starts t (drop at file) some_left good

  pub headed : Headed file at
  headed = headed_at file at both_parts.0

  pub meant : (kind : ℕ) → kind ≡ le2 file (at + 4) → (m : Meaning) → m ≡ t kind → m ≡ t (kind_at (drop at file))
  meant kind has m means = means ∙ ap t (has ∙ kind_is file at headed.six)

  module _ (size : ℕ) (is : size ≡ le4 file at) where
    sized : size ≡ length_at (drop at file)
    sized = is ∙ le4_is file at headed.four

    -- its body, and where the next begins
    pub body_there : cut (at + 6) (at + 4 + size) file ≡ body_at (drop at file)
    body_there = body_is file at size sized

    pub rest_there : rest_at (drop at file) ≡ drop (at + 4 + size) file
    rest_there = ap (λ (n : ℕ). drop n (drop 4 (drop at file))) (sym sized) ∙ ap (drop size) (drop-drop 4 at file) ∙ drop-drop size (at + 4) file

    pub good_there : whole_file t (drop (at + 4 + size) file) ≡ true
    good_there = ap (whole_file t) (sym rest_there) ∙ both_parts.1

    pub within_there : at + 4 + size ≤ length file
    within_there = omega (arith, headed.room, is)

-- ---- question 15, record by record, in a file that got a yes at 14

module _ (t : Table) (most : (kind k w : ℕ) → t kind ≡ Listed k w → k ≤ 16) where
  ordered_also : (r : Entry) (c : Cut) (next : ℕ) → ordered_cut t next (also r c) ≡ is_next (t r.kind) next && ordered_cut t (after (t r.kind) next) c
  unfolding in_order
  ordered_also r short next = nowhere (is_next (t r.kind) next)
    where
      nowhere : (b : Bool) → false ≡ b && false
      nowhere true = refl
      nowhere false = refl
  ordered_also r (whole rs) next = refl

  ordered_first : (s : List ℕ) (next : ℕ) → 0 < length s → starts_whole s ≡ true
      → ordered_file t next s ≡ is_next (t (kind_at s)) next && ordered_file t (after (t (kind_at s)) next) (rest_at s)
  unfolding ordered_file
  ordered_first s next h e =
      ap (ordered_cut t next) (records_first s h ∙ ap (λ (b : Bool). cond b (also (first_at s) (records_of (rest_at s))) short) e)
      ∙ ordered_also (first_at s) (records_of (rest_at s)) next

  ordered_none : (next : ℕ) → ordered_file t next [] ≡ eqb next 17
  unfolding ordered_file in_order
  ordered_none next = refl

  after_few : (m : Meaning) (next : ℕ) → ((k w : ℕ) → m ≡ Listed k w → k ≤ 16) → next ≤ 17 → is_next m next ≡ true → after m next ≤ 17
  after_few (Listed k w) next h l e = omega (arith, h k w refl, eqb-true k next e)
  after_few Note next h l e = l
  after_few Neither next h l e = absurd (false≢true e)

  pub record Ordered (file : List ℕ) (at next : ℕ) : Type 0 where
    pub within : at ≤ length file
    pub few : next ≤ 17
    pub good : whole_file t (drop at file) ≡ true
    pub left : ordered_file t next (drop at file) ≡ ordered_file t 1 file

  module _ (file : List ℕ) where
    pub ended_at : (at next : ℕ) → length file ≤ at → Ordered file at next → eqb next 17 ≡ ordered_file t 1 file
    ended_at at next h w = sym (ordered_none next) ∙ sym (ap (ordered_file t next) (drop_of_length-le file {i = at} h)) ∙ w.left

    module _ (at next : ℕ) (w : Ordered file at next) (more : at < length file) where
      means_there : t (le2 file (at + 4)) ≡ t (kind_at (drop at file))
      means_there = meant t file at w.good more (le2 file (at + 4)) refl (t (le2 file (at + 4))) refl

      onward : is_next (t (le2 file (at + 4))) next && ordered_file t (after (t (le2 file (at + 4))) next) (rest_at (drop at file)) ≡ ordered_file t 1 file
      onward =
          ap (λ (q : Meaning). is_next q next && ordered_file t (after q next) (rest_at (drop at file))) means_there
          ∙ sym (ordered_first (drop at file) next (some_left t file at w.good more) (both_parts t file at w.good more).0) ∙ w.left

      pub not_next : is_next (t (le2 file (at + 4))) next ≡ false → false ≡ ordered_file t 1 file
      not_next e = rw e at onward

      pub ordered_on : is_next (t (le2 file (at + 4))) next ≡ true → (r : ℕ) → r ≡ after (t (le2 file (at + 4))) next → Ordered file (at + 4 + le4 file at) r
      ordered_on e r q = record {
        within = (headed t file at w.good more).room;
        few = omega (arith, q, after_few (t (le2 file (at + 4))) next (λ k v z. most (le2 file (at + 4)) k v z) w.few e);
        good = good_there t file at w.good more (le4 file at) refl;
        left =
            ap₂ (λ (n : ℕ) (l : List ℕ). ordered_file t n l) q (sym (rest_there t file at w.good more (le4 file at) refl))
            ∙ rw e at onward;
      }
