-- What the two calls answer and leave, and what they promise together. Assumes nothing.
use mathlib.Core.Path.{◌≡◌, refl, sym, ap, ◌∙◌, subst}
use mathlib.Core.Bool.{Bool, true, false, not, ◌&&◌}
use mathlib.Core.List.{List, ◌++◌}
use Prim.Native.Nat.{ℕ, suc, ◌<◌, ◌≤◌}
use native.Mathlib.Omega.{arith}
use borrow.Author.Tests.{le-leb, lt-leb}
use lib.Dec.{leb, ltb}
use lib.ListN.{length, get_or, take, drop}
use lib.Seq.{take_at}
use Rattle.base.specs.Cat.{join, Wrote}
use Rattle.base.proofs.Write.{same_text}
use Rattle.csr.specs.Csr.{Accepted}
use Rattle.csr.specs.Counts.{count_e, count_s, count_d, size_w}
use Rattle.csr.specs.Verdict.{Verdict, Told, passed, told, written, refused, ask, and_then}
use Rattle.csr.specs.Pattern.{row}
use Rattle.csr.specs.Questions.{max_columns, first_from, empty, bad_row, offsets_right, rows_right, first_no}
use Rattle.csr.proofs.Yes.{accepted_of}
use Rattle.layout.specs.declared.Plan.{Plan}
use Rattle.layout.specs.Layout.{plan_of}
use Rattle.layout.specs.Lists.{sizes_of, words_at}
use Rattle.counts.proofs.Plans.{words_are}
use Rattle.lists.specs.Lists.{plan_words}
use Rattle.lists.proofs.Sizes.{plan_size}
use Rattle.lists.proofs.Whole.{as_written}
use Rattle.ipm_common.specs.Plan.{room_verdict, plan_verdict, plan_index}
use Rattle.plan_file.specs.Matrix.{matrix_lists}
use Rattle.plan_file.specs.Tables.{wide}
use Rattle.plan_file.specs.Verdicts.{file_verdict, lists_in}
use Rattle.plan_file.specs.Promises.{plan_file}
use Rattle.plan_file.proofs.Bounds.{sixteen_long}
use Rattle.plan_file.proofs.Plans.{joined_plan, sizes_are, file_bytes_lem, files}
use Rattle.file_write.specs.Writable.{Writable}
use Rattle.file_questions.proofs.Three.{then_passed}
use Rattle.file_calls.specs.Calls.{file_bytes, rooms_verdict, write_verdict, words_after, bytes_after, read_verdict, Carried}

module _ (m n : ℕ) (off cols : List ℕ) where
  -- the words of the plan, as they are counted
  pub counted : {s k : ℕ} {p : Plan} → p ≡ plan_of m n s (length cols) (count_e off cols m) (count_s off cols m) (count_d off cols m) → k ≡ words_at p
      → k ≡ size_w off cols m n
  counted {s} e q = q ∙ ap words_at e ∙ words_are off cols m n s

  -- ---- questions 6 and 8 of write_plan

  pub no_words : (words bytes : ℕ) → words < size_w off cols m n → refused 6 0 0 ≡ rooms_verdict m n off cols words bytes
  unfolding rooms_verdict
  no_words words bytes h = rw (lt-leb (size_w off cols m n) words h)

  module _ (words bytes : ℕ) (room : size_w off cols m n ≤ words) where
    pub no_bytes : bytes < file_bytes m n off cols → refused 8 0 0 ≡ rooms_verdict m n off cols words bytes
    unfolding rooms_verdict
    no_bytes h = rw (le-leb (size_w off cols m n) words room, lt-leb (file_bytes m n off cols) bytes h)

    pub all_room : file_bytes m n off cols ≤ bytes → told (written (file_bytes m n off cols)) ≡ rooms_verdict m n off cols words bytes
    unfolding rooms_verdict
    all_room h = rw (le-leb (size_w off cols m n) words room, le-leb (file_bytes m n off cols) bytes h)

  -- ---- what is written

  module _ (ok : Accepted off cols m n) where
    -- an index memory that begins with the plan, and a file with room, are what the writer asks for
    pub writable : {s : ℕ} {p : Plan} {index : List ℕ} {bytes : ℕ} (rest : List ℕ) → p ≡ plan_of m n s (length cols) (count_e off cols m) (count_s off cols m) (count_d off cols m)
        → index ≡ plan_words off cols m n ++ rest → file_bytes m n off cols ≤ bytes → Writable (matrix_lists off cols m n) (sizes_of p) index bytes
    writable {s} {p} {index} {bytes} rest e is room = record {
      sized = subst (λ (q : Plan). (k : ℕ) → k < 16 → get_or (sizes_of q) k 0 ≡ length (matrix_lists off cols m n (suc k))) (sym e) (sizes_are off cols m n ok (plan_of m n s (length cols) (count_e off cols m) (count_s off cols m) (count_d off cols m)) (record { stored = refl; shared = refl; products = refl }) refl refl refl);
      rest = rest;
      is = is ∙ ap (λ (l : List ℕ). l ++ rest) (sym (joined_plan off cols m n));
      room = omega (arith, ap length (joined_plan off cols m n), plan_size off cols m n ok);
      low = λ k h. sixteen_long off cols m n ok (suc k);
    }

    -- the file and the old rest
    pub file_after : (old new : List ℕ) (r : ℕ) → file_bytes m n off cols ≤ length old → Wrote old new 0 (plan_file off cols m n) r
        → new ≡ plan_file off cols m n ++ drop (file_bytes m n off cols) old
    file_after old new r room w =
        (as_written old new (plan_file off cols m n) r (omega (arith, file_bytes_lem off cols m n ok)) w).0
        ∙ ap (λ (k : ℕ). plan_file off cols m n ++ drop k old) (file_bytes_lem off cols m n ok)

    -- the words of a file with a yes at 14 to 16 are the plan's
    pub file_words : (file : List ℕ) → file_verdict wide (matrix_lists off cols m n) file ≡ passed → join (lists_in wide file) ≡ plan_words off cols m n
    file_words file e = ap join ((files off cols m n ok).gives file e) ∙ (files off cols m n ok).planned

    -- the plan and the old rest
    pub words_after_lem : (file old new : List ℕ) (r : ℕ) → file_verdict wide (matrix_lists off cols m n) file ≡ passed → size_w off cols m n ≤ length old
        → Wrote old new 0 (join (lists_in wide file)) r → new ≡ plan_words off cols m n ++ drop (size_w off cols m n) old
    words_after_lem file old new r e room w =
        let size = plan_size off cols m n ok in
        (as_written old new (plan_words off cols m n) r (omega (arith, size)) (same_text (file_words file e) w)).0
        ∙ ap (λ (k : ℕ). plan_words off cols m n ++ drop k old) size

  -- ---- after questions 1 to 5

  pub write_on : (index file : List ℕ) (v : Verdict) → first_no m n off cols (length cols) ≡ passed → v ≡ rooms_verdict m n off cols (length index) (length file)
      → v ≡ write_verdict m n off cols (length index) (length file)
  unfolding write_verdict
  write_on index file v e q = q ∙ sym (ap (λ (x : Verdict). and_then x (rooms_verdict m n off cols (length index) (length file))) e)

  pub write_not : (words bytes q p l : ℕ) → refused q p l ≡ first_no m n off cols (length cols) → refused q p l ≡ write_verdict m n off cols words bytes
  unfolding write_verdict
  write_not words bytes q p l e = ap (λ (x : Verdict). and_then x (rooms_verdict m n off cols words bytes)) e

  pub read_on : (file : List ℕ) (words : ℕ) (v : Verdict) → and_then (first_no m n off cols (length cols)) (file_verdict wide (matrix_lists off cols m n) file) ≡ passed
      → v ≡ room_verdict m n off cols words → v ≡ read_verdict m n off cols file words
  unfolding read_verdict
  read_on file words v e q = q ∙ sym (ap (λ (x : Verdict). and_then x (room_verdict m n off cols words)) e)

  pub read_not : (file : List ℕ) (words q p l : ℕ) → refused q p l ≡ and_then (first_no m n off cols (length cols)) (file_verdict wide (matrix_lists off cols m n) file)
      → refused q p l ≡ read_verdict m n off cols file words
  unfolding read_verdict
  read_not file words q p l e = ap (λ (x : Verdict). and_then x (room_verdict m n off cols words)) e

  -- ---- what the two promise together

  as_plan : (file : List ℕ) (words : ℕ) → file_verdict wide (matrix_lists off cols m n) file ≡ passed → read_verdict m n off cols file words ≡ plan_verdict m n off cols words
  unfolding read_verdict plan_verdict
  as_plan file words e =
      ap (λ (v : Verdict). and_then (and_then (first_no m n off cols (length cols)) v) (room_verdict m n off cols words)) e
      ∙ ap (λ (v : Verdict). and_then v (room_verdict m n off cols words)) (then_passed (first_no m n off cols (length cols)))

  index_as_plan : (file index : List ℕ) → file_verdict wide (matrix_lists off cols m n) file ≡ passed
      → words_after m n off cols (read_verdict m n off cols file (length index)) index ≡ plan_index m n off cols index
  unfolding plan_index
  index_as_plan file index e = ap (λ (v : Verdict). words_after m n off cols v index) (as_plan file (length index) e)

  -- ---- a file that was written

  answer_after : (b : Bool) (next : Verdict) (q p l : ℕ) (a : Told) → ask b next (refused q p l) ≡ told a → next ≡ told a
  answer_after true next q p l a e = e
  answer_after false next q p l a e = let z : ◌≡◌ {A = ℕ} 0 1 = cc in absurd (omega arith)

  -- questions 1 to 5 tell nothing but a pass or a no
  first_tells_not : (values : ℕ) (a : Told) → first_no m n off cols values ≡ told a → ⊥
  unfolding first_no
  first_tells_not values a e =
      let empties = first_from (empty off) 0 m in
      let bads = first_from (λ (i : ℕ). bad_row n (row off cols i)) 0 m in
      let a1 = answer_after (rows_right m) _ 1 0 0 a e in
      let a2 = answer_after (leb 1 n && leb n max_columns) _ 2 0 0 a a1 in
      let a3 = answer_after (offsets_right m off (length cols) values) _ 3 0 0 a a2 in
      let a4 = answer_after (not (ltb empties m)) _ 4 empties 0 a a3 in
      let a5 : passed ≡ told a = answer_after (not (ltb bads m)) passed 5 bads 0 a a4 in
      let z : ◌≡◌ {A = ℕ} 0 1 = cc in
      omega arith

  rooms_told : (words bytes k : ℕ) → rooms_verdict m n off cols words bytes ≡ told (written k) → k ≡ file_bytes m n off cols
  unfolding rooms_verdict
  rooms_told words bytes k e =
      let six = answer_after (leb (size_w off cols m n) words) _ 6 0 0 (written k) e in
      let eight : told (written (file_bytes m n off cols)) ≡ told (written k) = answer_after (leb (file_bytes m n off cols) bytes) _ 8 0 0 (written k) six in
      cc

  first_yes : (v w : Verdict) (a : Told) → and_then v w ≡ told a → (v ≡ told a → ⊥) → (v ≡ passed) × (w ≡ told a)
  first_yes passed w a e h = (refl, e)
  first_yes (told b) w a e h = absurd (h e)
  first_yes (refused q p l) w a e h = let z : ◌≡◌ {A = ℕ} 0 1 = cc in absurd (omega arith)

  read_back : (words k : ℕ) (file : List ℕ) → write_verdict m n off cols words (length file) ≡ told (written k)
      → file_verdict wide (matrix_lists off cols m n) (take k (bytes_after m n off cols (write_verdict m n off cols words (length file)) file)) ≡ passed
  unfolding write_verdict
  read_back words k file e =
      let yes = first_yes (first_no m n off cols (length cols)) (rooms_verdict m n off cols words (length file)) (written k) e (first_tells_not (length cols) (written k)) in
      let ok = accepted_of m n off cols (length cols) yes.0 in
      let long : length (plan_file off cols m n) ≡ k = file_bytes_lem off cols m n ok ∙ sym (rooms_told words (length file) k yes.1) in
      ap (λ (v : Verdict). file_verdict wide (matrix_lists off cols m n) (take k (bytes_after m n off cols v file))) e
      ∙ ap (file_verdict wide (matrix_lists off cols m n)) (take_at (plan_file off cols m n) (drop (file_bytes m n off cols) file) k long)
      ∙ (files off cols m n ok).yes (plan_file off cols m n) (files off cols m n ok).plain

  pub carried : Carried m n off cols
  carried = record { answers = λ file index e. (as_plan file (length index) e, index_as_plan file index e); yes = read_back }
