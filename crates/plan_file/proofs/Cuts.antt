-- A WRITTEN FILE THAT IS CUT, and one that has other lists. Assumes nothing.
use mathlib.Core.Path.{◌≡◌, refl, sym, ap, ap₂, ◌∙◌}
use mathlib.Core.Logic.{◌⊎◌, inl, inr}
use mathlib.Core.Bool.{Bool, true, false, cond}
use mathlib.Core.List.{List, [], ◌∷◌, ◌++◌}
use Prim.Native.Nat.{ℕ, zero, suc, ◌+◌, ◌*◌, ◌-◌, ◌/◌, ◌%◌, ◌^◌, ◌<◌, ◌≤◌}
use native.Mathlib.Omega.{arith}
use native.Mathlib.Nat.{mul-suc}
use borrow.Author.Tests.{eq-eqb, ne_eqb, leb-true, leb-false}
use lib.Dec.{leb}
use lib.ListN.{length, take, drop, length-append, length-drop}
use lib.Seq.{take-take, take-append-add, length-take-le}
use Rattle.base.proofs.Bools.{and_in}
use Rattle.csr.specs.Verdict.{Verdict, passed, refused, ask}
use Rattle.base.specs.Numbers.{Below}
use Rattle.plan_file.specs.Bytes.{number, words, numbers, numbers_in, Bytes}
use Rattle.plan_file.specs.Records.{Entry, record_of, length_at, rest_at, first_at, starts_whole, Cut, short, whole, also, records_up_to, records_of}
use Rattle.plan_file.specs.declared.Meaning.{Meaning}
use Rattle.plan_file.specs.Tables.{Table, wide}
use Rattle.plan_file.specs.Verdicts.{whole_body, whole_bodies, in_order, are_matrixs, asked, file_verdict, whole_file, ordered_file, matrixs_file, Sound, Fitting, lists_from}
use Rattle.plan_file.specs.Written.{Writer, wide_writer, written_from, written_file, records_with}
use Rattle.plan_file.proofs.Numbers.{length_words, whole_words, words_in_numbers, number_under, bytes_take, bytes_drop, length_numbers}
use Rattle.plan_file.proofs.Parse.{length_record, length_at_lem, cut_first, cut_record, no_length, no_room}
use Rattle.plan_file.proofs.Yes.{passes_gives}
use Rattle.plan_file.proofs.Files.{Numbered, Writes, wide_sound, wide_writes, wide_fitting, one_by_one, written_noted, noted_passes}

-- ---- a record that is cut

module _ (kind : ℕ) (body rest : List ℕ) (small : kind < 2 ^ 16) (fits : 2 + length body < 2 ^ 32) (j : ℕ) (cut : j < 6 + length body) where
  abbrev cut_at : List ℕ
  cut_at = take j (record_of kind body ++ rest)

  cut_long : length cut_at ≡ j
  cut_long = length-take-le j (record_of kind body ++ rest) (omega (arith, length-append (record_of kind body) rest, length_record kind body))

  record_cut : starts_whole cut_at ≡ false
  record_cut = go (leb 4 j) refl
    where
      go : (b : Bool) → leb 4 j ≡ b → starts_whole cut_at ≡ false
      go false e = no_length cut_at (omega (arith, cut_long, leb-false 4 j e))
      go true e =
          let four : 4 ≤ j = leb-true 4 j e in
          let says : length_at cut_at ≡ 2 + length body = ap number (take-take 4 j (record_of kind body ++ rest) four) ∙ length_at_lem kind body rest small fits in
          no_room cut_at (omega (arith, cut_long)) (omega (arith, cut_long, says))

  -- nothing is left of the file, or the record that is left is cut short
  cut_here : (fuel : ℕ) → j ≤ fuel → (records_up_to fuel cut_at ≡ short) ⊎ (j ≡ 0)
  cut_here fuel h = go fuel j refl h
    where
      go : (f i : ℕ) → i ≡ j → i ≤ f → (records_up_to f cut_at ≡ short) ⊎ (j ≡ 0)
      go f zero e l = inr (sym e)
      go zero (suc i) e l = absurd (omega arith)
      go (suc f) (suc i) e l =
          inl (cut_first f cut_at (omega (arith, cut_long)) ∙ ap (λ (b : Bool). cond b (also (first_at cut_at) (records_up_to f (rest_at cut_at))) short) record_cut)

none : (fuel : ℕ) (s : List ℕ) → length s ≡ 0 → records_up_to fuel s ≡ whole []
unfolding records_up_to
none zero [] e = refl
none (suc fuel) [] e = refl
none fuel (x ∷ s) e = absurd (omega arith)

-- ---- the records of a writer

module _ (t : Table) (wr : Writer) (lists : ℕ → List ℕ) (sound : Sound t) (fitting : Fitting t lists) (writes : Writes t wr) where
  abbrev body_of : ℕ → List ℕ
  body_of k = words (wr.width k) (lists k)

  -- n of them, from list number k on
  unfoldable entries : ℕ → ℕ → List Entry
  entries k zero = []
  entries k (suc n) = record { kind = wr.kind k; body = body_of k } ∷ entries (suc k) n

  kind_low : (k : ℕ) → Numbered k → wr.kind k < 2 ^ 16
  kind_low k h = sound.small (wr.kind k) k (wr.width k) (writes k h)

  body_low : (k : ℕ) → Numbered k → 2 + length (body_of k) < 2 ^ 32
  body_low k h = omega (arith, fitting.size (wr.kind k) k (wr.width k) (writes k h), length_words (wr.width k) (lists k))

  -- what is left after a cut: a record that is cut short, or fewer records
  abbrev Left : ℕ → ℕ → Cut → Type 0
  Left k n c = (c ≡ short) ⊎ ((i : ℕ) × (i < n) × (c ≡ whole (entries k i)))

  left_more : (k n : ℕ) (c d : Cut) → d ≡ also (record { kind = wr.kind k; body = body_of k }) c → Left (suc k) n c → Left k (suc n) d
  unfolding entries
  left_more k n c d e (inl s) = inl (e ∙ ap (also (record { kind = wr.kind k; body = body_of k })) s)
  left_more k n c d e (inr s) = inr (suc s.0, omega (arith, s.1), e ∙ ap (also (record { kind = wr.kind k; body = body_of k })) s.2)

  module _ (n k : ℕ) (known : Numbered k) (rest : List ℕ) (ih : (fuel j : ℕ) → j < length rest → j ≤ fuel → Left (suc k) n (records_up_to fuel (take j rest))) where
    abbrev first : List ℕ
    first = record_of (wr.kind k) (body_of k)

    long : length first ≡ 6 + length (body_of k)
    long = length_record (wr.kind k) (body_of k)

    -- the cut is after the first record
    left_later : (fuel j : ℕ) → j ≤ fuel → j < length (first ++ rest) → 6 + length (body_of k) ≤ j → Left k (suc n) (records_up_to fuel (take j (first ++ rest)))
    left_later zero j h c q = absurd (omega arith)
    left_later (suc f) j h c q =
        let i = j - (6 + length (body_of k)) in
        let z : length first + i ≡ j = omega (arith, long) in
        let is : take j (first ++ rest) ≡ first ++ take i rest = ap (λ (x : ℕ). take x (first ++ rest)) (sym z) ∙ take-append-add first rest i in
        left_more k n (records_up_to f (take i rest)) _
        (ap (records_up_to (suc f)) is ∙ cut_record f (wr.kind k) (body_of k) (take i rest) (kind_low k known) (body_low k known))
        (ih f i (omega (arith, c, long, length-append first rest)) (omega arith))

    -- or in it
    left_here : (fuel j : ℕ) → j ≤ fuel → j < 6 + length (body_of k) → Left k (suc n) (records_up_to fuel (take j (first ++ rest)))
    unfolding entries
    left_here fuel j h q = go (cut_here (wr.kind k) (body_of k) rest (kind_low k known) (body_low k known) j q fuel h)
      where
        go : (records_up_to fuel (take j (first ++ rest)) ≡ short) ⊎ (j ≡ 0) → Left k (suc n) (records_up_to fuel (take j (first ++ rest)))
        go (inl s) = inl s
        go (inr z) =
            inr (0, omega arith, none fuel (take j (first ++ rest)) (cut_long (wr.kind k) (body_of k) rest (kind_low k known) (body_low k known) j q ∙ z))

    left_one : (fuel j : ℕ) → j ≤ fuel → j < length (first ++ rest) → Left k (suc n) (records_up_to fuel (take j (first ++ rest)))
    left_one fuel j h c = go (leb (6 + length (body_of k)) j) refl
      where
        go : (b : Bool) → leb (6 + length (body_of k)) j ≡ b → Left k (suc n) (records_up_to fuel (take j (first ++ rest)))
        go true q = left_later fuel j h c (leb-true (6 + length (body_of k)) j q)
        go false q = left_here fuel j h (leb-false (6 + length (body_of k)) j q)

  left_of : (n k fuel j : ℕ) → 1 ≤ k → k + n ≡ 17 → j < length (written_from wr lists k n) → j ≤ fuel
      → Left k n (records_up_to fuel (take j (written_from wr lists k n)))
  unfolding written_from
  left_of zero k fuel j l e c h = absurd (omega arith)
  left_of (suc n) k fuel j l e c h =
      left_one n k (record { low = l; high = omega arith }) (written_from wr lists (suc k) n)
      (λ f i p q. left_of n (suc k) f i (omega arith) (omega arith) p q) fuel j h c

  entries_whole : (n k : ℕ) → 1 ≤ k → k + n ≤ 17 → whole_bodies t (entries k n) ≡ true
  unfolding whole_bodies entries
  entries_whole zero k l e = refl
  entries_whole (suc n) k l e =
      and_in _ _ (ap (λ (m : Meaning). whole_body m (length (body_of k))) (writes k (record { low = l; high = omega arith })) ∙ eq-eqb _ 0 (whole_words (wr.width k) (lists k)))
      (entries_whole n (suc k) (omega arith) (omega arith))

  -- fewer than sixteen are not enough
  entries_few : (n k : ℕ) → 1 ≤ k → k + n < 17 → in_order t k (entries k n) ≡ false
  unfolding in_order entries
  entries_few zero k l e = ne_eqb k 17 (λ z. omega arith)
  entries_few (suc n) k l e =
      rw (writes k (record { low = l; high = omega arith }), eq-eqb k k refl) (entries_few n (suc k) (omega arith) (omega arith))

  -- A WRITTEN FILE THAT IS CUT ANYWHERE MEETS 14 OR 15, for any matrix
  pub cut_refused : (matrix : ℕ → List ℕ) (j : ℕ) → j < length (written_file wr lists)
      → (file_verdict t matrix (take j (written_file wr lists)) ≡ refused 14 0 0) ⊎ (file_verdict t matrix (take j (written_file wr lists)) ≡ refused 15 0 0)
  unfolding file_verdict
  cut_refused matrix j c =
      go (left_of 16 1 (length (take j (written_file wr lists))) j (omega arith) refl c (omega (arith, length-take-le j (written_file wr lists) (omega arith))))
    where
      go : Left 1 16 (records_of (take j (written_file wr lists)))
          → (asked t matrix (records_of (take j (written_file wr lists))) ≡ refused 14 0 0) ⊎ (asked t matrix (records_of (take j (written_file wr lists))) ≡ refused 15 0 0)
      go (inl s) = inl (ap (asked t matrix) s)
      go (inr s) =
          inr (ap (asked t matrix) s.2
          ∙ ap (λ (b : Bool). ask b (ask (in_order t 1 (entries 1 s.0)) (ask (are_matrixs t matrix (entries 1 s.0)) passed (refused 16 0 0)) (refused 15 0 0)) (refused 14 0 0)) (entries_whole s.0 1 (omega arith) (omega (arith, s.1)))
          ∙ ap (λ (b : Bool). ask b (ask (are_matrixs t matrix (entries 1 s.0)) passed (refused 16 0 0)) (refused 15 0 0)) (entries_few s.0 1 (omega arith) (omega (arith, s.1))))

  -- ---- A WRITTEN FILE OF OTHER LISTS MEETS 16

  -- the three questions by their answers
  abbrev asks : Bool → Bool → Bool → Verdict
  asks a b c = ask a (ask b (ask c passed (refused 16 0 0)) (refused 15 0 0)) (refused 14 0 0)

  all_yes : (a b c : Bool) → asks a b c ≡ passed → (a ≡ true) × (b ≡ true)
  all_yes true true c e = (refl, refl)
  all_yes true false c e = let z : ◌≡◌ {A = ℕ} 0 1 = cc in absurd (omega arith)
  all_yes false b c e = let z : ◌≡◌ {A = ℕ} 0 1 = cc in absurd (omega arith)

  -- list number k of the sixteen
  pick_list : (xs ys : ℕ → List ℕ) (n a k : ℕ) → lists_from xs a n ≡ lists_from ys a n → a ≤ k → k < a + n → xs k ≡ ys k
  unfolding lists_from
  pick_list xs ys zero a k e l h = absurd (omega arith)
  pick_list xs ys (suc n) a k e l h = go (leb k a) refl (pick_list xs ys n (suc a) k (cc))
    where
      front : xs a ≡ ys a
      front = cc

      go : (b : Bool) → leb k a ≡ b → (suc a ≤ k → k < suc a + n → xs k ≡ ys k) → xs k ≡ ys k
      go true q ih = let z : k ≡ a = omega (arith, leb-true k a q) in ap xs z ∙ front ∙ ap ys (sym z)
      go false q ih = ih (leb-false k a q) (omega arith)

  pub other_refused : (matrix : ℕ → List ℕ) (k : ℕ) → 1 ≤ k → k ≤ 16 → (lists k ≡ matrix k → ⊥) → file_verdict t matrix (written_file wr lists) ≡ refused 16 0 0
  other_refused matrix k l h ne = one_by_one t matrix file ∙ go (matrixs_file t matrix file) refl
    where
      file : List ℕ
      file = written_file wr lists

      own : file_verdict t lists file ≡ passed
      own = noted_passes t wr lists sound fitting writes file (written_noted t wr lists)

      both : (whole_file t file ≡ true) × (ordered_file t 1 file ≡ true)
      both = all_yes (whole_file t file) (ordered_file t 1 file) (matrixs_file t lists file) (sym (one_by_one t lists file) ∙ own)

      there : (c : Bool) → asks (whole_file t file) (ordered_file t 1 file) c ≡ ask c passed (refused 16 0 0)
      there c = rw (both.0, both.1)

      go : (c : Bool) → matrixs_file t matrix file ≡ c → asks (whole_file t file) (ordered_file t 1 file) (matrixs_file t matrix file) ≡ refused 16 0 0
      go false e = there (matrixs_file t matrix file) ∙ ap (λ (b : Bool). ask b passed (refused 16 0 0)) e
      go true e =
          let yes : file_verdict t matrix file ≡ passed = one_by_one t matrix file ∙ there (matrixs_file t matrix file) ∙ ap (λ (b : Bool). ask b passed (refused 16 0 0)) e in
          absurd (ne (pick_list lists matrix 16 1 k (sym (passes_gives t lists file own) ∙ passes_gives t matrix file yes) l (omega arith)))

-- ---- A WRITTEN FILE WITH OTHER BYTES IN A BODY MEETS 16

-- bodies of whole words are those of their numbers
with_words : (bodies : ℕ → List ℕ) → ((k : ℕ) → Bytes (bodies k)) → ((k : ℕ) → length (bodies k) % 4 ≡ 0)
    → (n k : ℕ) → records_with bodies k n ≡ written_from wide_writer (λ j. numbers_in 4 (bodies j)) k n
unfolding records_with written_from
with_words bodies b h zero k = refl
with_words bodies b h (suc n) k =
    ap₂ (λ (x y : List ℕ). record_of k x ++ y) (sym (words_in_numbers 4 (bodies k) (b k) (h k))) (with_words bodies b h n (suc k))

pub own_bodies : (lists : ℕ → List ℕ) (n k : ℕ) → records_with (λ j. words 4 (lists j)) k n ≡ written_from wide_writer lists k n
unfolding records_with written_from
own_bodies lists zero k = refl
own_bodies lists (suc n) k = ap (λ (y : List ℕ). record_of k (words 4 (lists k)) ++ y) (own_bodies lists n (suc k))

numbers_low : (w n : ℕ) (s : List ℕ) → Bytes s → w * n ≤ length s → Below (256 ^ w) (numbers w n s)
unfolding numbers
numbers_low w zero s b h = tt
numbers_low w (suc n) s b h = (
  number_under w (take w s) (bytes_take w s b) (length-take-le w s (omega (arith, mul-suc w n))),
  numbers_low w n (drop w s) (bytes_drop w s b) (omega (arith, length-drop w s, mul-suc w n)),
)

module _ (lists bodies : ℕ → List ℕ) (small : (k : ℕ) → 2 + 4 * length (lists k) < 2 ^ 32)
    (b : (k : ℕ) → Bytes (bodies k)) (long : (k : ℕ) → length (bodies k) ≡ 4 * length (lists k)) where
  whole_words_in : (k : ℕ) → length (bodies k) % 4 ≡ 0
  whole_words_in k = omega (arith, long k)

  as_many : (k : ℕ) → length (numbers_in 4 (bodies k)) ≡ length (lists k)
  as_many k = length_numbers 4 (length (bodies k) / 4) (bodies k) ∙ omega (arith, long k)

  fits : Fitting wide (λ k. numbers_in 4 (bodies k))
  fits = wide_fitting (λ k. numbers_in 4 (bodies k)) (λ k h. omega (arith, small k, as_many k)) (λ k h. numbers_low 4 (length (bodies k) / 4) (bodies k) (b k) (omega arith))

  pub body_refused : (k : ℕ) → 1 ≤ k → k ≤ 16 → (bodies k ≡ words 4 (lists k) → ⊥) → file_verdict wide lists (records_with bodies 1 16) ≡ refused 16 0 0
  body_refused k l h ne =
      ap (file_verdict wide lists) (with_words bodies b whole_words_in 16 1)
      ∙ other_refused wide wide_writer (λ j. numbers_in 4 (bodies j)) wide_sound fits wide_writes lists k l h
      (λ e. ne (sym (words_in_numbers 4 (bodies k) (b k) (whole_words_in k)) ∙ ap (words 4) e))
