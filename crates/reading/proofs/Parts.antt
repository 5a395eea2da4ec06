-- The parts of a record, cut out of its shorts and its floats. Assumes nothing.
use mathlib.Core.Path.{◌≡◌, refl, sym, ap, ap₂, ◌∙◌, subst}
use mathlib.Core.List.{List, ◌∷◌, ◌++◌}
use Prim.Native.Nat.{ℕ, zero, suc, ◌+◌, ◌-◌, ◌*◌, ◌≤◌, ◌<◌}
use native.Mathlib.Omega.{arith}
use lib.ListN.{length, take, drop, replicate, length-drop, length-append}
use lib.Seq.{length-take-le, take_at, ext_get_or, get_or-take, get_or-drop}
use lib.Ieee.{Float, binary64, of_bits}
use Rattle.lanes.specs.Lists.{grow, vec}
use Rattle.lanes.specs.Controls.{standard_controls}
use Rattle.lanes.specs.declared.Controls.{Controls}
use Rattle.lanes.proofs.Lists.{grow_length, grow_at}
use Rattle.machine.specs.Demand3.{Buffers}
use Rattle.ipm_simd.specs.Solve.{Given, given, lent}
use Rattle.record.specs.declared.RecordSizes.{RecordSizes}
use Rattle.record.specs.Little.{le2, le8, shorts, floats}
use Rattle.record.specs.Record.{m_of, n_of, t_of, columns_at, values_at, tolerances_at, b_at, c_at, sizes_of}
use Rattle.reading.specs.Parts.{Whole, most_shorts, most_floats, most_output, parts_of}
use Rattle.reading.specs.Answer.{given_of, solve_text, lent_for, zeros, blank, index_words, work_floats}

-- ---- an array whose first k elements were lent and became `new`
module _ {A : Type 0} (arr new : List A) (k : ℕ) (fits : k ≤ length arr) (kept : length new ≡ length (take k arr)) where
  new_long : length new ≡ k
  new_long = kept ∙ length-take-le k arr fits

  pub front_is : take k (new ++ drop k arr) ≡ new
  front_is = take_at new (drop k arr) k new_long

  pub front_room : k ≤ length (new ++ drop k arr)
  front_room = omega (arith, length-append new (drop k arr), new_long)

  pub front_long : length (take k (new ++ drop k arr)) ≡ k
  front_long = ap length front_is ∙ new_long

-- ---- a part of a list that f makes is made by g
part_same : {A : Type 0} (f g : ℕ → A) (n j k : ℕ) → j + k ≤ n → ((i : ℕ) → f (j + i) ≡ g i)
    → take k (drop j (grow n (λ _ i. f i))) ≡ grow k (λ _ i. g i)
part_same f g n j k h same =
    ext_get_or (f 0) (take k (drop j (grow n (λ _ i. f i)))) (grow k (λ _ i. g i))
    (long ∙ sym (grow_length (λ _ i. g i) k))
    (λ i l.
    let b : i < k = omega (arith, long) in
    get_or-take k (drop j (grow n (λ _ i. f i))) i (f 0) b ∙ get_or-drop j (grow n (λ _ i. f i)) i (f 0)
    ∙ grow_at (λ _ i. f i) n (j + i) (f 0) (omega (arith, b, h)) ∙ same i ∙ sym (grow_at (λ _ i. g i) k i (f 0) b))
  where
    long : length (take k (drop j (grow n (λ _ i. f i)))) ≡ k
    long = length-take-le k (drop j (grow n (λ _ i. f i))) (omega (arith, length-drop j (grow n (λ _ i. f i)), grow_length (λ _ i. f i) n, h))

shorts_part : (s : List ℕ) (at n j k to : ℕ) → j + k ≤ n → to ≡ at + 2 * j → take k (drop j (shorts s at n)) ≡ shorts s to k
unfolding shorts
shorts_part s at n j k to h e =
    part_same (λ i. le2 s (at + 2 * i)) (λ i. le2 s (to + 2 * i)) n j k h (λ i. ap (le2 s) (omega (arith, e)))

floats_part : (s : List ℕ) (at n j k to : ℕ) → j + k ≤ n → to ≡ at + 8 * j → take k (drop j (floats s at n)) ≡ floats s to k
unfolding floats vec
floats_part s at n j k to h e =
    part_same (λ i. of_bits binary64 (le8 s (at + 8 * i))) (λ i. of_bits binary64 (le8 s (to + 8 * i))) n j k h
    (λ i. ap (λ (p : ℕ). of_bits binary64 (le8 s p)) (omega (arith, e)))

given_same : {m n s : ℕ} {k : Controls} {o o' c c' : List ℕ} {v v' b b' e e' t t' : List Float}
    → o ≡ o' → c ≡ c' → v ≡ v' → b ≡ b' → e ≡ e' → t ≡ t' → given m n s o c v b e t k ≡ given m n s o' c' v' b' e' t' k
given_same p q r u w x = cc

-- ---- how many shorts and floats there are, and where the floats start
abbrev pub short_count : RecordSizes → ℕ
short_count z = z.m + 1 + z.t

abbrev pub float_count : RecordSizes → ℕ
float_count z = z.t + 12 + 4 * z.m + 4 * z.n

abbrev pub floats_from : RecordSizes → ℕ
floats_from z = 16 + 2 * short_count z

own_parts : (s : List ℕ) → parts_of (sizes_of s) (shorts s 16 (short_count (sizes_of s))) (floats s (floats_from (sizes_of s)) (float_count (sizes_of s))) ≡ given_of s
own_parts s =
    let m = m_of s in
    let n = n_of s in
    let t = t_of s in
    let shorts-cut = shorts_part s 16 (short_count (sizes_of s)) in
    let floats-cut = floats_part s (floats_from (sizes_of s)) (float_count (sizes_of s)) in
    given_same
    (shorts-cut 0 (m + 1) 16 (omega arith) (omega arith))
    (shorts-cut (m + 1) t (columns_at m) (omega arith) (omega arith))
    (floats-cut 0 t (values_at m t) (omega arith) (omega arith))
    (floats-cut (t + 12) (4 * m) (b_at m t) (omega arith) (omega arith))
    (floats-cut (t + 12 + 4 * m) (4 * n) (c_at m t) (omega arith) (omega arith))
    (floats-cut t 12 (tolerances_at m t) (omega arith) (omega arith))

parts_given : (s : List ℕ) (z : RecordSizes) → z ≡ sizes_of s → parts_of z (shorts s 16 (short_count z)) (floats s (floats_from z) (float_count z)) ≡ given_of s
parts_given s z e = subst (λ (y : RecordSizes). parts_of y (shorts s 16 (short_count y)) (floats s (floats_from y) (float_count y)) ≡ given_of s) (sym e) (own_parts s)

take_replicate : {A : Type 0} (k n : ℕ) (x : A) → k ≤ n → take k (replicate n x) ≡ replicate k x
take_replicate zero n x h = refl
take_replicate (suc k) zero x h = absurd (omega arith)
take_replicate (suc k) (suc n) x h = ap (λ l. x ∷ l) (take_replicate k n x (omega arith))

pub zeros_long : (k : ℕ) → length (zeros k) ≡ k
unfolding zeros
zeros_long k = lib.ListN.length-replicate k 0

pub blank_long : (k : ℕ) → length (blank k) ≡ k
unfolding blank
blank_long k = lib.ListN.length-replicate k (of_bits binary64 0)

-- numbers that are all the same, by name
pub zeros_lem : (k : ℕ) {arr : List ℕ} → arr ≡ replicate k 0 → arr ≡ zeros k
unfolding zeros
zeros_lem k e = e

pub blank_lem : (k : ℕ) {arr : List Float} → arr ≡ replicate k (of_bits binary64 0) → arr ≡ blank k
unfolding blank
blank_lem k e = e

-- the front of a memory of +0.0
pub blank_front : (k n : ℕ) (arr : List Float) → arr ≡ blank n → k ≤ n → take k arr ≡ blank k
unfolding blank
blank_front k n arr e h = ap (take k) e ∙ take_replicate k n (of_bits binary64 0) h

-- ---- the arrays are long enough
module _ {s : List ℕ} {z : RecordSizes} (W : Whole s z) where
  pub shorts_fit : {arr : List ℕ} → arr ≡ zeros most_shorts → short_count z ≤ length arr
  shorts_fit e = omega (arith, ap length e, zeros_long most_shorts, W.rows, W.entries)

  pub floats_fit : {arr : List Float} → arr ≡ blank most_floats → float_count z ≤ length arr
  floats_fit e = omega (arith, ap length e, blank_long most_floats, W.rows, W.columns, W.entries)

  pub output_long : {arr : List Float} → arr ≡ blank most_output → length (take (4 * z.n) arr) ≡ 4 * z.n
  output_long {arr} e = length-take-le (4 * z.n) arr (omega (arith, ap length e, blank_long most_output, W.columns))

-- ---- the text of what was read is the text of the record's solve
module _ (s : List ℕ) (z : RecordSizes) (W : Whole s z) where
  lent_is : (o w : List Float) (i : List ℕ) → o ≡ blank most_output → i ≡ zeros index_words → w ≡ blank work_floats
      → lent (take (4 * z.n) o) (blank (4 * z.m)) i w ≡ lent_for (m_of s) (n_of s)
  lent_is o w i eo ei ew =
      let o_is : take (4 * z.n) o ≡ blank (4 * n_of s) =
      blank_front (4 * z.n) most_output o eo (omega (arith, W.columns)) ∙ ap (λ (v : RecordSizes). blank (4 * v.n)) W.sizes in
      let y_is : blank (4 * z.m) ≡ blank (4 * m_of s) = ap (λ (v : RecordSizes). blank (4 * v.m)) W.sizes in
      cc

  pub read_text : (o w : List Float) (i : List ℕ) (arr S : List ℕ) (brr F : List Float)
      → o ≡ blank most_output → i ≡ zeros index_words → w ≡ blank work_floats
      → arr ≡ zeros most_shorts → S ≡ shorts s 16 (length (take (short_count z) arr))
      → brr ≡ blank most_floats → F ≡ floats s (floats_from z) (length (take (float_count z) brr))
      → length S ≡ length (take (short_count z) arr) → length F ≡ length (take (float_count z) brr)
      → solve_text (parts_of z (take (short_count z) (S ++ drop (short_count z) arr)) (take (float_count z) (F ++ drop (float_count z) brr))) (lent (take (4 * z.n) o) (blank (4 * z.m)) i w)
      ≡ solve_text (given_of s) (lent_for (m_of s) (n_of s))
  read_text o w i arr S brr F eo ei ew la eS lb eF kS kF =
      let fa : short_count z ≤ length arr = shorts_fit W la in
      let fb : float_count z ≤ length brr = floats_fit W lb in
      let S-is : take (short_count z) (S ++ drop (short_count z) arr) ≡ shorts s 16 (short_count z) =
      front_is arr S (short_count z) fa kS ∙ eS ∙ ap (shorts s 16) (length-take-le (short_count z) arr fa) in
      let F-is : take (float_count z) (F ++ drop (float_count z) brr) ≡ floats s (floats_from z) (float_count z) =
      front_is brr F (float_count z) fb kF ∙ eF ∙ ap (floats s (floats_from z)) (length-take-le (float_count z) brr fb) in
      ap₂ solve_text (ap₂ (parts_of z) S-is F-is ∙ parts_given s z W.sizes) (lent_is o w i eo ei ew)

-- ---- parts cut by their ends
cut : (a b : ℕ) → a + b - a ≡ b
cut a b = omega arith

pub cut_text : (z : RecordSizes) (shorts : List ℕ) (floats : List Float) (B : Buffers)
    → solve_text
    (given z.m z.n z.s
    (take (z.m + 1) shorts)
    (take (z.m + 1 + z.t - (z.m + 1)) (drop (z.m + 1) shorts))
    (take z.t floats)
    (take (z.t + 12 + 4 * z.m - (z.t + 12)) (drop (z.t + 12) floats))
    (take (z.t + 12 + 4 * z.m + 4 * z.n - (z.t + 12 + 4 * z.m)) (drop (z.t + 12 + 4 * z.m) floats))
    (take (z.t + 12 - z.t) (drop z.t floats))
    (standard_controls z.limit))
    B
    ≡ solve_text (parts_of z shorts floats) B
cut_text z shorts floats B =
    ap (λ (g : Given). solve_text g B)
    (given_same refl (ap (λ (k : ℕ). take k (drop (z.m + 1) shorts)) (cut (z.m + 1) z.t)) refl
    (ap (λ (k : ℕ). take k (drop (z.t + 12) floats)) (cut (z.t + 12) (4 * z.m)))
    (ap (λ (k : ℕ). take k (drop (z.t + 12 + 4 * z.m) floats)) (cut (z.t + 12 + 4 * z.m) (4 * z.n)))
    (ap (λ (k : ℕ). take k (drop z.t floats)) (cut z.t 12)))
