-- Counting by column, and where the columns start. Assumes nothing.
use mathlib.Core.Path.{◌≡◌, refl, sym, ap, ap₂, ◌∙◌, subst}
use mathlib.Core.Bool.{Bool, true, false, ◌||◌}
use mathlib.Core.List.{List, [], ◌∷◌, ◌++◌}
use Prim.Native.Nat.{ℕ, suc, ◌+◌, ◌-◌, ◌*◌, ◌<◌, ◌≤◌}
use native.Mathlib.Omega.{arith}
use native.Mathlib.Decide.{ℕ_discrete}
use native.Mathlib.Numerals.{add-one}
use lib.Dec.{eqb}
use borrow.Author.Tests.{eq-eqb, ne_eqb}
use lib.ListN.{length, get_or, set, take, drop, replicate, length-append}
use lib.Seq.{sets, get_or-set_same, get_or-set_other, take_all}
use Rattle.csr.specs.Pattern.{has, row}
use Rattle.base.specs.Sums.{sum, one}
use Rattle.base.proofs.Sums.{sum_ext, sum_next, sum_times, count_le}
use Rattle.base.specs.Cat.{cat, pick, Wrote}
use Rattle.lists.specs.Lists.{shape, holds, entry, column, columns, in_column, column_ends, ends_of, columns_of}
use Rattle.lists.specs.declared.What.{What}
use Rattle.lists.specs.declared.What.TheVariants.{Numbers, Places}
use Rattle.lists.specs.declared.Side.TheVariants.{Matrix}
use Rattle.base.proofs.Write.{length_cat, cat_ext, cat_next, length_pick, wrote_join, wrote_as, singles_length}
use Rattle.base.proofs.Front.{cleared_at}
use Rattle.lists.proofs.Whole.{side_is, three, three_length}
use Rattle.transpose.specs.Bins.{Bins, rows_of, room_of, Grid, EmptyBins, Uncounted, RowCounting, Scattering, Scattered, Starts, seen, ends_from, side_in}
use Rattle.transpose.proofs.Fill.{one_more, absent_e, bins_whole}
use Rattle.csr.proofs.RowParts.{row_of, in_row_lem, entry_at, entry_below}
use Rattle.base.proofs.Numbers.{below_more}
use Rattle.base.proofs.Bools.{or_nil}
use Rattle.csr.proofs.Has.{has_at, below_has}

-- ---- counts by column
pub room_few : (off cols : List ℕ) (m c : ℕ) → room_of off cols m c ≤ m
unfolding in_column
room_few off cols m c = count_le m (λ i. holds (shape off cols) Matrix i c)

pub room_sum : (off cols : List ℕ) (m n : ℕ) → m ≤ 256 → n ≤ 1024 → sum n (room_of off cols m) ≤ 262144
room_sum off cols m n hm hn = omega (arith, sum_times n 256 (room_of off cols m) (λ c l. omega (arith, room_few off cols m c)))

pub column_long : (off cols : List ℕ) (w : What) (m c : ℕ) → length (rows_of off cols w m c) ≡ room_of off cols m c
unfolding column in_column
column_long off cols w m c =
    length_cat m (λ r. pick (holds (shape off cols) Matrix r c) (entry (shape off cols) Matrix w r c))
    ∙ sum_ext m (λ r. length (pick (holds (shape off cols) Matrix r c) (entry (shape off cols) Matrix w r c))) (λ r. one (holds (shape off cols) Matrix r c)) (λ k l. length_pick (holds (shape off cols) Matrix k c) (entry (shape off cols) Matrix w k c))

pub seen_start : (off cols next : List ℕ) (c : ℕ) → get_or next c 0 ≡ get_or next c 0 + length (seen off cols 0 c)
unfolding column cat
seen_start off cols next c = omega arith

pub seen_next : (off cols : List ℕ) (i c : ℕ) → length (seen off cols (i + 1) c) ≡ length (seen off cols i c) + one (has (row off cols i) c)
unfolding column
seen_next off cols i c =
    ap length (cat_next i (λ r. pick (has (row off cols r) c) r))
    ∙ length-append (seen off cols i c) (pick (has (row off cols i) c) i)
    ∙ ap (λ (k : ℕ). length (seen off cols i c) + k) (length_pick (has (row off cols i) c) i)

-- the first q entries of a row are counted, each in its column
abbrev pub Passed : List ℕ → ℕ → List ℕ → List ℕ → Type 0
Passed xs q old next = (c : ℕ) → get_or next c 0 ≡ get_or old c 0 + one (has (take q xs) c)

pub passed_none : (xs : List ℕ) (q : ℕ) (next : List ℕ) → q ≡ 0 → Passed xs q next next
unfolding has
passed_none xs q next e c = omega (arith, ap (λ (k : ℕ). one (has (take k xs) c)) e)

pub passed_all : (xs : List ℕ) (q : ℕ) (old next : List ℕ) → length xs ≤ q → Passed xs q old next → (c : ℕ) → get_or next c 0 ≡ get_or old c 0 + one (has xs c)
passed_all xs q old next h v c = v c ∙ ap (λ (l : List ℕ). get_or old c 0 + one (has l c)) (take_all q xs h)

-- a turn: entry k of the columns is one of row i
module _ (off cols : List ℕ) (i : ℕ) (old : List ℕ) (r : RowCounting off cols i old) (k e : ℕ) (lo : get_or off i 0 ≤ k) (hk : k < get_or off (i + 1) 0) (he : e ≡ get_or cols k 0)
    (next : List ℕ) (same : length next ≡ length old) (v : Passed (row off cols i) (k - get_or off i 0) old next) where
  q_in : k - get_or off i 0 < length (row off cols i)
  q_in = in_row_lem off cols i (length old) r.at k e lo hk he

  e_is : e ≡ get_or (row off cols i) (k - get_or off i 0) 0
  e_is = entry_at off cols i (length old) r.at k e lo hk he

  e_in : e < length next
  e_in = omega (arith, entry_below off cols i (length old) r.at k e lo hk he)

  e_new : has (take (k - get_or off i 0) (row off cols i)) e ≡ false
  e_new = absent_e off cols Numbers i (k - get_or off i 0) e i r.at.rising q_in e_is refl

  e_has : has (row off cols i) e ≡ true
  e_has = ap (has (row off cols i)) e_is ∙ has_at (row off cols i) (k - get_or off i 0) q_in

  -- its column counts the rows before it
  e_count : get_or next e 0 ≡ length (seen off cols i e)
  e_count = omega (arith, v e, ap one e_new, r.counts e e_has)

  pub passed_asks : (e < length next) × (get_or next e 0 < 256)
  passed_asks = (e_in, omega (arith, e_count, column_long off cols Numbers i e, room_few off cols i e, r.few))

  pub passed_count : get_or next e 0 + 1 ≡ length (seen off cols (i + 1) e)
  passed_count = omega (arith, e_count, seen_next off cols i e, ap one e_has)

  grown : (c : ℕ) → has (take (k + 1 - get_or off i 0) (row off cols i)) c ≡ has (take (k - get_or off i 0) (row off cols i)) c || eqb c e
  grown c =
      let z : k + 1 - get_or off i 0 ≡ k - get_or off i 0 + 1 = omega arith in
      ap (λ (y : ℕ). has (take y (row off cols i)) c) z ∙ one_more off cols Numbers i (k - get_or off i 0) e i r.at.rising q_in e_is refl c

  pub passed_turn : Passed (row off cols i) (k + 1 - get_or off i 0) old (set next e (get_or next e 0 + 1))
  passed_turn c = go (ℕ_discrete c e)
    where
      go : Dec (c ≡ e) → get_or (set next e (get_or next e 0 + 1)) c 0 ≡ get_or old c 0 + one (has (take (k + 1 - get_or off i 0) (row off cols i)) c)
      go (yes d) = rw d (get_or-set_same next e (get_or next e 0 + 1) 0 e_in ∙ omega (arith, v e, ap one e_new, ap one (grown e ∙ ap₂ ◌||◌ e_new (eq-eqb e e refl))))
      go (no d) =
          get_or-set_other next e c (get_or next e 0 + 1) 0 d ∙ v c
          ∙ ap (λ (t : Bool). get_or old c 0 + one t)
          (sym (grown c ∙ ap (λ (t : Bool). has (take (k - get_or off i 0) (row off cols i)) c || t) (ne_eqb c e d) ∙ or_nil (has (take (k - get_or off i 0) (row off cols i)) c)))

pub row_counting : (off cols : List ℕ) (m i : ℕ) (old : List ℕ) → Uncounted off cols m old → i < m → (next : List ℕ) → length next ≡ length old
    → ((c : ℕ) → get_or next c 0 ≡ get_or old c 0 + length (seen off cols i c)) → RowCounting off cols i next
row_counting off cols m i old u l next long t = record {
  at = row_of off cols m i (length next) u.grid.csr l (below_more u.n (length next) (row off cols i) (omega (arith, u.long)) (u.grid.within i l));
  few = omega (arith, u.grid.csr.few);
  counts = λ c h. omega (arith, t c, u.clear c (below_has u.n c (row off cols i) (u.grid.within i l) h));
}

-- entry c of a memory counts what bin c holds
pub record Tally (next : List ℕ) (n : ℕ) (held : ℕ → List ℕ) : Type 0 where
  pub count : (c : ℕ) → c < n → get_or next c 0 ≡ length (held c)

pub tallied : (off cols : List ℕ) (m n : ℕ) (old clear next : List ℕ) → clear ≡ replicate n 0 ++ drop n old → ((c : ℕ) → get_or next c 0 ≡ get_or clear c 0 + length (seen off cols m c)) → Tally next n (seen off cols m)
tallied off cols m n old clear next z t = record { count = λ c h. omega (arith, t c, cleared_at old clear 0 0 n z c h) }

pub tally_few : (off cols : List ℕ) (m n : ℕ) → Grid off cols m n → (next : List ℕ) → Tally next n (seen off cols m) → (c : ℕ) → c < n → get_or next c 0 ≤ 256
tally_few off cols m n g next t c h = omega (arith, t.count c h, column_long off cols Numbers m c, room_few off cols m c, g.csr.few)

-- ---- from counts to ends and starts
module _ (f : ℕ → ℕ) where
  unfoldable pub ends_to : ℕ → List ℕ
  unfolding cat sum
  ends_to n = cat n (λ e. sum (suc e) f ∷ [])

  pub record Ending (index₀ index next₀ next again : List ℕ) (start at t e n : ℕ) : Type 0 where
    pub total : t ≡ sum e f
    pub few : t ≤ 256 * e
    pub wrote : Wrote index₀ index start (ends_to e) at
    pub starts : Starts next e f
    pub starts2 : Starts again e f
    pub rest : (c : ℕ) → e ≤ c → c < n → get_or next c 0 ≡ f c

  pub ending_start : (index next again : List ℕ) (start n : ℕ) → ((c : ℕ) → c < n → get_or next c 0 ≡ f c) → Ending index index next next again start start 0 0 n
  unfolding ends_to sum
  ending_start index next again start n h = record {
    total = refl;
    few = omega arith;
    wrote = record { is = refl; next = omega arith };
    starts = record { first = λ c l. absurd (omega arith) };
    starts2 = record { first = λ c l. absurd (omega arith) };
    rest = λ c l u. h c u;
  }

  starts_next : (l : List ℕ) (e t : ℕ) → e < length l → t ≡ sum e f → Starts l e f → Starts (set l e t) (e + 1) f
  starts_next l e t h q b = record { first = λ c u. go c u (ℕ_discrete c e) }
    where
      go : (c : ℕ) → c < e + 1 → Dec (c ≡ e) → get_or (set l e t) c 0 ≡ sum c f
      go c u (yes r) = ap (λ (k : ℕ). get_or (set l e t) k 0) r ∙ get_or-set_same l e t 0 h ∙ q ∙ ap (λ (k : ℕ). sum k f) (sym r)
      go c u (no r) = get_or-set_other l e c t 0 r ∙ b.first c (omega arith)

  module _ (index₀ index next₀ next again : List ℕ) (start at t e n : ℕ) (v : Ending index₀ index next₀ next again start at t e n) (he : e < n) where
    pub ending_turn : (index' : List ℕ) (r x : ℕ) → e < length next → e < length again → x ≡ get_or next e 0 → x ≤ 256 → Wrote index index' at ((t + x) ∷ []) r
        → Ending index₀ index' next₀ (set next e t) (set again e t) start r (t + x) (e + 1) n
    unfolding ends_to sum
    ending_turn index' r x hn ha q few w = record {
      total = tot;
      few = omega (arith, v.few);
      wrote =
          wrote_as index₀ index' start r _ _ (ap (λ (y : ℕ). ends_to e ++ (y ∷ [])) (tot ∙ ap (λ (k : ℕ). sum k f) (add-one e)) ∙ sym (cat_next e (λ k. sum (suc k) f ∷ [])))
          (wrote_join index₀ index index' start at r _ _ v.wrote w);
      starts = starts_next next e t hn v.total v.starts;
      starts2 = starts_next again e t ha v.total v.starts2;
      rest = λ c l u. get_or-set_other next e c t 0 (λ z. omega arith) ∙ v.rest c (omega arith) u;
    }
      where
        tot : t + x ≡ sum (e + 1) f
        tot = omega (arith, v.total, sum_next e f, v.rest e (omega arith) he)

    pub ending_room : (start₀ l : ℕ) → start ≡ start₀ + 1 → start₀ + n + 1 ≤ l → at < l
    unfolding ends_to
    ending_room start₀ l q h = omega (arith, v.wrote.next, singles_length e (λ k. sum (suc k) f))

    pub ending_few : ((c : ℕ) → c < n → f c ≤ 256) → get_or next e 0 ≤ 256
    ending_few h = omega (arith, v.rest e (omega arith) he, h e he)

  pub ending_end : (index₀ index₁ index next₀ next again : List ℕ) (start at₀ at t e n : ℕ) → e ≡ n → n < length again → Wrote index₀ index₁ start (0 ∷ []) at₀ → Ending index₁ index next₀ next again at₀ at t e n
      → Wrote index₀ index start (ends_from f n) at × (Starts next n f × Starts (set again n t) (n + 1) f)
  unfolding ends_from ends_to
  ending_end index₀ index₁ index next₀ next again start at₀ at t e n q l w v =
      let u = wrote_join index₀ index₁ index start at₀ at _ _ w v.wrote in
      (subst (λ (k : ℕ). Wrote index₀ index start (0 ∷ cat k (λ x. sum (suc x) f ∷ [])) at) q u, (subst (λ (k : ℕ). Starts next k f) q v.starts, starts_next again n t l (v.total ∙ ap (λ (k : ℕ). sum k f) q) (subst (λ (k : ℕ). Starts again k f) q v.starts2)))

-- ---- the scatter of all rows
module _ (off cols : List ℕ) (w : What) (m n : ℕ) (old first : List ℕ) (start : ℕ) (b : EmptyBins off cols m n old first start) where
  pub scatter_start : Scattered off cols m n w 0 old old first start
  unfolding column cat
  scatter_start = record {
    bins = record {
      cursor = λ c h. b.starts.first c h ∙ omega arith;
      fits = λ c h. omega arith;
      words = λ c k h l. absurd (omega arith);
    };
    outside = record { low = λ q h. refl; high = λ q h. refl };
  }

  module _ (i : ℕ) (index next : List ℕ) (li : length index ≡ length old) (v : Scattered off cols m n w i old index next start) where
    -- row i can follow the rows before it
    pub scatter_asks : i < m → length next ≡ length first → Scattering off cols m n w i index next start
    scatter_asks l ln = record {
      grid = b.grid;
      inside = l;
      long = omega (arith, b.long);
      room = omega (arith, b.room);
      few = room_sum off cols m n b.grid.csr.few b.grid.wide;
      bins = v.bins;
    }

    pub scatter_turn : (index' next' : List ℕ) → Scattered off cols m n w (i + 1) index index' next' start → Scattered off cols m n w (i + 1) old index' next' start
    scatter_turn index' next' u = record {
      bins = u.bins;
      outside = record { low = λ q h. u.outside.low q h ∙ v.outside.low q h; high = λ q h. u.outside.high q h ∙ v.outside.high q h };
    }

    pub scatter_end : i ≡ m → index ≡ sets old start (cat n (rows_of off cols w m))
    scatter_end e =
        bins_whole index next start n (room_of off cols m) (rows_of off cols w m) (subst (λ (k : ℕ). Bins index next start n (room_of off cols m) (rows_of off cols w k)) e v.bins)
        (λ c h. column_long off cols w m c) old li b.room v.outside.low v.outside.high

-- ---- the whole transpose
module _ (off cols : List ℕ) (m n : ℕ) where
  pub ends_are : (next : List ℕ) → Tally next n (seen off cols m) → ends_from (λ c. get_or next c 0) n ≡ ends_of (shape off cols) Matrix m n
  unfolding ends_from ends_of column_ends
  ends_are next t =
      ap (λ (l : List ℕ). 0 ∷ l)
      (cat_ext n (λ e. sum (suc e) (λ c. get_or next c 0) ∷ []) (λ e. sum (suc e) (λ c. room_of off cols m c) ∷ [])
      (λ e h. ap (λ (k : ℕ). k ∷ []) (sum_ext (suc e) (λ c. get_or next c 0) (λ c. room_of off cols m c) (λ c l. t.count c (omega arith) ∙ column_long off cols Numbers m c))))

  pub starts_are : (next l : List ℕ) (k : ℕ) → k ≤ n + 1 → Tally next n (seen off cols m) → Starts l k (λ c. get_or next c 0) → Starts l k (room_of off cols m)
  starts_are next l k hk t s = record { first = λ c h. s.first c h ∙ sum_ext c (λ d. get_or next d 0) (room_of off cols m) (λ d u. t.count d (omega arith) ∙ column_long off cols Numbers m d) }

  pub cols_are : (w : What) → cat n (rows_of off cols w m) ≡ columns_of (shape off cols) Matrix w m n
  unfolding columns_of columns
  cols_are w = refl

  pub cols_long : (w : What) → length (cat n (rows_of off cols w m)) ≡ sum n (room_of off cols m)
  cols_long w = length_cat n (rows_of off cols w m) ∙ sum_ext n (λ c. length (rows_of off cols w m c)) (room_of off cols m) (λ c h. column_long off cols w m c)

  pub ends_long : length (ends_of (shape off cols) Matrix m n) ≡ n + 1
  unfolding ends_of column_ends
  ends_long = omega (arith, singles_length n (λ e. sum (suc e) (λ c. room_of off cols m c)))

  side_long : length (side_in off cols m n) ≡ n + 1 + sum n (room_of off cols m) + sum n (room_of off cols m)
  side_long =
      ap length (side_is (shape off cols) Matrix m n)
      ∙ three_length (ends_of (shape off cols) Matrix m n) (columns_of (shape off cols) Matrix Numbers m n) (columns_of (shape off cols) Matrix Places m n)
      ∙ omega (arith, ends_long, ap length (cols_are Numbers), ap length (cols_are Places), cols_long Numbers, cols_long Places)

  pub ends_fit : (start l : ℕ) → start + length (side_in off cols m n) ≤ l → start + n + 1 ≤ l
  ends_fit start l h = omega (arith, side_long)

  side_wrote : (a b c d : List ℕ) (start p t : ℕ) → t ≡ sum n (room_of off cols m) → Wrote a b start (ends_of (shape off cols) Matrix m n) p
      → c ≡ sets b p (cat n (rows_of off cols Numbers m)) → d ≡ sets c (p + t) (cat n (rows_of off cols Places m)) → Wrote a d start (side_in off cols m n) (p + t + t)
  side_wrote a b c d start p t q w u v =
      wrote_as a d start (p + t + t) _ _ (sym (side_is (shape off cols) Matrix m n))
      (three a b c d start p (p + t) (p + t + t) _ _ _ w
      (record { is = u ∙ ap (sets b p) (cols_are Numbers); next = omega (arith, q, cols_long Numbers, ap length (cols_are Numbers)) })
      (record { is = v ∙ ap (sets c (p + t)) (cols_are Places); next = omega (arith, q, cols_long Places, ap length (cols_are Places)) }))

-- the bins of the rows and of the places, after the ends
module _ (off cols : List ℕ) (m n : ℕ) (g : Grid off cols m n) (counts : List ℕ) (t : Tally counts n (seen off cols m)) (old index : List ℕ) (start p : ℕ)
    (fits : start + length (side_in off cols m n) ≤ length old) (w : Wrote old index start (ends_from (λ c. get_or counts c 0) n) p) where
  ends_past : p ≡ start + n + 1
  ends_past = omega (arith, w.next, ap length (ends_are off cols m n counts t), ends_long off cols m n)

  pub row_bins : (next : List ℕ) → length index ≡ length old → n ≤ length next → Starts next n (λ c. get_or counts c 0) → EmptyBins off cols m n index next p
  row_bins next same long s = record {
    grid = g;
    long = long;
    room = omega (arith, fits, side_long off cols m n, ends_past);
    starts = starts_are off cols m n counts next n (omega arith) t s;
  }

  module _ (again : List ℕ) (s : Starts again (n + 1) (λ c. get_or counts c 0)) (k : ℕ) (e : k ≡ get_or again n 0) where
    pub all_entries : k ≡ sum n (room_of off cols m)
    all_entries = e ∙ (starts_are off cols m n counts again (n + 1) (omega arith) t s).first n (omega arith)

    pub places_fit : p + k + k ≤ length old
    places_fit = omega (arith, fits, side_long off cols m n, ends_past, all_entries)

    pub place_bins : (index' : List ℕ) → length index' ≡ length old → n ≤ length again → EmptyBins off cols m n index' again (p + k)
    place_bins index' same long = record {
      grid = g;
      long = long;
      room = omega (arith, places_fit, all_entries);
      starts = starts_are off cols m n counts again n (omega arith) t (record { first = λ c h. s.first c (omega arith) });
    }

    pub transposed : (c d : List ℕ) → c ≡ sets index p (cat n (rows_of off cols Numbers m)) → d ≡ sets c (p + k) (cat n (rows_of off cols Places m)) → Wrote old d start (side_in off cols m n) (p + k + k)
    transposed c d = side_wrote off cols m n old index c d start p k all_entries (subst (λ (x : List ℕ). Wrote old index start x p) (ends_are off cols m n counts t) w)
