-- The columns of a transpose, compared row by row. Assumes nothing.
use mathlib.Core.Path.{◌≡◌, refl, sym, ap, ap₂, ◌∙◌, subst}
use mathlib.Core.Bool.{Bool, true, false}
use mathlib.Core.List.{List, ◌++◌, append-nil}
use Prim.Native.Nat.{ℕ, zero, suc, ◌+◌, ◌-◌, ◌<◌, ◌≤◌}
use native.Mathlib.Omega.{arith}
use native.Mathlib.Decide.{ℕ_discrete}
use lib.ListN.{length, get_or, set, take, length-append, get_or-append, drop_of_length-le}
use lib.Seq.{sets, get_or-append-add, set-get_or}
use Rattle.base.specs.Cat.{cat, pick}
use Rattle.base.specs.Sums.{sum}
use Rattle.base.proofs.Write.{cat_room}
use Rattle.csr.specs.Csr.{RowOf}
use Rattle.csr.specs.Pattern.{has, row}
use Rattle.csr.proofs.Has.{has_at}
use Rattle.csr.proofs.RowParts.{row_of, row_long, in_row_lem, entry_at, entry_below}
use Rattle.lists.specs.Lists.{shape, holds, entry, column, by_what}
use Rattle.lists.specs.declared.What.{What}
use Rattle.lists.specs.declared.Side.TheVariants.{Matrix}
use Rattle.lists.proofs.Whole.{as_written}
use Rattle.transpose.specs.Bins.{Bins, rows_of, room_of, in_row, Grid, Starts, Scattering}
use Rattle.transpose.proofs.Fill.{turn, in_start, in_end, bins_ext, absent_e, bins_whole}
use Rattle.transpose.proofs.Row.{Passing, x_is, passing_asks}
use Rattle.transpose.proofs.Count.{column_long, cols_long, room_sum, scatter_start}
use Rattle.plan_file.specs.Verdicts.{same}
use Rattle.plan_file.proofs.Yes.{same_out, same_in}
use Rattle.file_lists.specs.Matched.{entries_of, Matched}

-- ---- the word at a place of joined lists

cat_at : (n : ℕ) (f : ℕ → List ℕ) (e j : ℕ) → e < n → j < length (f e) → get_or (cat n f) (length (cat e f) + j) 0 ≡ get_or (f e) j 0
unfolding cat
cat_at zero f e j h l = absurd (omega arith)
cat_at (suc n) f e j h l = go (ℕ_discrete e n) (cat_at n f e j)
  where
    go : Dec (e ≡ n) → (e < n → j < length (f e) → get_or (cat n f) (length (cat e f) + j) 0 ≡ get_or (f e) j 0) → get_or (cat n f ++ f n) (length (cat e f) + j) 0 ≡ get_or (f e) j 0
    go (yes q) ih = subst (λ (k : ℕ). get_or (cat n f ++ f n) (length (cat k f) + j) 0 ≡ get_or (f k) j 0) (sym q) (get_or-append-add (cat n f) (f n) j 0)
    go (no q) ih = get_or-append (cat n f) (f n) 0 (length (cat e f) + j) (omega (arith, cat_room n e f (omega arith))) ∙ ih (omega arith) l

-- what row i adds to a column that it holds
col_room : (off cols : List ℕ) (w : What) (m i e : ℕ) → i < m → has (row off cols i) e ≡ true → length (rows_of off cols w i e) < length (rows_of off cols w m e)
unfolding column
col_room off cols w m i e hi t =
    omega (
      arith,
      cat_room m i (λ r. pick (holds (shape off cols) Matrix r e) (entry (shape off cols) Matrix w r e)) hi,
      ap (λ (b : Bool). length (pick b (entry (shape off cols) Matrix w i e))) t,
    )

col_at : (off cols : List ℕ) (w : What) (m i e : ℕ) → i < m → has (row off cols i) e ≡ true → get_or (rows_of off cols w m e) (length (rows_of off cols w i e)) 0 ≡ entry (shape off cols) Matrix w i e
unfolding column
col_at off cols w m i e hi t =
    let g : ℕ → List ℕ = λ (r : ℕ). pick (holds (shape off cols) Matrix r e) (entry (shape off cols) Matrix w r e) in
    let z : length (cat i g) ≡ length (cat i g) + 0 = omega arith in
    let l : length (pick (has (row off cols i) e) (entry (shape off cols) Matrix w i e)) ≡ 1 = ap (λ (b : Bool). length (pick b (entry (shape off cols) Matrix w i e))) t in
    ap (λ (k : ℕ). get_or (cat m g) k 0) z
    ∙ cat_at m g i 0 hi (omega arith)
    ∙ ap (λ (b : Bool). get_or (pick b (entry (shape off cols) Matrix w i e)) 0 0) t

inner_long : (off cols : List ℕ) (w : What) (i q e : ℕ) → has (take q (row off cols i)) e ≡ false → length (in_row off cols w i q e) ≡ length (rows_of off cols w i e)
unfolding in_row
inner_long off cols w i q e t =
    omega (
      arith,
      length-append (rows_of off cols w i e) (pick (has (take q (row off cols i)) e) (entry (shape off cols) Matrix w i e)),
      ap (λ (b : Bool). length (pick b (entry (shape off cols) Matrix w i e))) t,
    )

set_there : (l : List ℕ) (q x : ℕ) → get_or l q 0 ≡ x → set l (0 + q) x ≡ l
set_there l q x e = let z : 0 + q ≡ q = omega arith in ap₂ (λ (k y : ℕ). set l k y) z (sym e) ∙ set-get_or l q 0

not_same : (s l : List ℕ) (q : ℕ) → (get_or s q 0 ≡ get_or l q 0 → ⊥) → same s l ≡ false
not_same s l q n = go (same s l) refl
  where
    go : (b : Bool) → same s l ≡ b → b ≡ false
    go false e = refl
    go true e = absurd (n (ap (λ (x : List ℕ). get_or x q 0) (same_out s l e)))

-- the same bins by another name
matched_as : (s l next : List ℕ) (n : ℕ) (size : ℕ → ℕ) (f g : ℕ → List ℕ) → ((index : List ℕ) → Bins index next 0 n size f → Bins index next 0 n size g) → Matched s l next n size f → Matched s l next n size g
matched_as s l next n size f g h b = record { bins = h l b.bins; like = h s b.like }

-- ---- row i, from what stood when it began

module _ (off cols : List ℕ) (m n : ℕ) (ok : Grid off cols m n) (w : What) (i : ℕ) (hi : i < m) (s : List ℕ) (size : length s ≡ sum n (room_of off cols m)) (old : List ℕ) (long : n ≤ length old)
    (first : Matched s (entries_of off cols w m n) old n (room_of off cols m) (rows_of off cols w i)) where
  rowed : RowOf off cols i n
  rowed = row_of off cols m i n ok.csr hi (ok.within i hi)

  scattering : Scattering off cols m n w i (entries_of off cols w m n) old 0
  scattering = record {
    grid = ok;
    inside = hi;
    long = long;
    room = omega (arith, cols_long off cols m n w);
    few = room_sum off cols m n ok.csr.few ok.wide;
    bins = first.bins;
  }

  -- the first entries of row i are looked up
  abbrev pub Looking : ℕ → List ℕ → Type 0
  Looking k next = Matched s (entries_of off cols w m n) next n (room_of off cols m) (in_row off cols w i (k - get_or off i 0))

  pub match_start : (k : ℕ) → k ≡ get_or off i 0 → Looking k old
  match_start k e =
      let z : 0 ≡ k - get_or off i 0 = omega arith in
      matched_as s (entries_of off cols w m n) old n (room_of off cols m) (rows_of off cols w i) (in_row off cols w i (k - get_or off i 0))
      (λ index d.
      subst (λ (y : ℕ). Bins index old 0 n (room_of off cols m) (in_row off cols w i y)) z
      (bins_ext index old 0 n (room_of off cols m) (rows_of off cols w i) (in_row off cols w i 0) (λ c h. in_start off cols w i c) d))
      first

  pub match_end : (k : ℕ) (next : List ℕ) → get_or off (i + 1) 0 ≤ k → Looking k next
      → Matched s (entries_of off cols w m n) next n (room_of off cols m) (rows_of off cols w (i + 1))
  match_end k next h b =
      matched_as s (entries_of off cols w m n) next n (room_of off cols m) (in_row off cols w i (k - get_or off i 0)) (rows_of off cols w (i + 1))
      (λ index d.
      bins_ext index next 0 n (room_of off cols m) (in_row off cols w i (k - get_or off i 0)) (rows_of off cols w (i + 1))
      (λ c l. in_end off cols w i (k - get_or off i 0) c (omega (arith, row_long off cols i n rowed))) d)
      b

  -- one entry more
  module _ (k e x : ℕ) (lo : get_or off i 0 ≤ k) (hk : k < get_or off (i + 1) 0) (he : e ≡ get_or cols k 0) (hx : x ≡ by_what w i k)
      (next : List ℕ) (same_long : length next ≡ length old) (b : Looking k next) where
    passing : Passing off cols m n w i k (entries_of off cols w m n) (entries_of off cols w m n) next 0
    passing = record { bins = b.bins; outside = record { low = λ q h. refl; high = λ q h. refl } }

    there_in : k - get_or off i 0 < length (row off cols i)
    there_in = in_row_lem off cols i n rowed k e lo hk he

    e_is : e ≡ get_or (row off cols i) (k - get_or off i 0) 0
    e_is = entry_at off cols i n rowed k e lo hk he

    e_in : e < n
    e_in = entry_below off cols i n rowed k e lo hk he

    is_entry : x ≡ entry (shape off cols) Matrix w i e
    is_entry = x_is off cols m n w i (entries_of off cols w m n) old 0 scattering k e x lo hk he hx (entries_of off cols w m n) next refl same_long passing

    has_it : has (row off cols i) e ≡ true
    has_it = ap (has (row off cols i)) e_is ∙ has_at (row off cols i) (k - get_or off i 0) there_in

    cursor : get_or next e 0 ≡ length (cat e (rows_of off cols w m)) + length (rows_of off cols w i e)
    cursor =
        b.bins.cursor e e_in
        ∙ ap₂ ◌+◌ (sym (cols_long off cols m e w))
        (inner_long off cols w i (k - get_or off i 0) e (absent_e off cols w i (k - get_or off i 0) e x rowed.rising there_in e_is is_entry))

    there : get_or (entries_of off cols w m n) (get_or next e 0) 0 ≡ x
    there =
        ap (λ (q : ℕ). get_or (entries_of off cols w m n) q 0) cursor
        ∙ cat_at n (rows_of off cols w m) e (length (rows_of off cols w i e)) e_in (col_room off cols w m i e hi has_it)
        ∙ col_at off cols w m i e hi has_it
        ∙ sym is_entry

    pub match_asks : (e < length next) × (get_or next e 0 < 262144) × (get_or next e 0 < length s)
    match_asks =
        let h = passing_asks off cols m n w i (entries_of off cols w m n) old 0 scattering k e x lo hk he hx (entries_of off cols w m n) next refl same_long passing in
        (h.0, h.2, omega (arith, h.1, size, cols_long off cols m n w))

    on : (index : List ℕ) → 0 + sum n (room_of off cols m) ≤ length index → get_or index (get_or next e 0) 0 ≡ x
        → Bins index next 0 n (room_of off cols m) (in_row off cols w i (k - get_or off i 0)) → Bins index (set next e (get_or next e 0 + 1)) 0 n (room_of off cols m) (in_row off cols w i (k + 1 - get_or off i 0))
    on index r h d =
        let z : k - get_or off i 0 + 1 ≡ k + 1 - get_or off i 0 = omega arith in
        subst (λ (y : List ℕ). Bins y (set next e (get_or next e 0 + 1)) 0 n (room_of off cols m) (in_row off cols w i (k + 1 - get_or off i 0))) (set_there index (get_or next e 0) x h)
        (subst (λ (y : ℕ). Bins (set index (0 + get_or next e 0) x) (set next e (get_or next e 0 + 1)) 0 n (room_of off cols m) (in_row off cols w i y)) z
        (turn off cols w i (k - get_or off i 0) e x rowed.rising there_in e_is is_entry index next 0 n m hi e_in match_asks.0 r d))

    pub match_turn : (next' : List ℕ) → get_or s (get_or next e 0) 0 ≡ x → next' ≡ set next e (get_or next e 0 + 1) → Looking (k + 1) next'
    match_turn next' h u = rw u (record {
      bins = on (entries_of off cols w m n) (omega (arith, cols_long off cols m n w)) there b.bins;
      like = on s (omega (arith, size)) h b.like;
    })

    -- another number there
    pub match_not : (get_or s (get_or next e 0) 0 ≡ x → ⊥) → same s (entries_of off cols w m n) ≡ false
    match_not h = not_same s (entries_of off cols w m n) (get_or next e 0) (λ r. h (r ∙ there))

-- ---- all rows

pub match_none : (off cols : List ℕ) (m n : ℕ) (ok : Grid off cols m n) (w : What) (s next : List ℕ) → length s ≡ sum n (room_of off cols m) → n ≤ length next → Starts next n (room_of off cols m) → Matched s (entries_of off cols w m n) next n (room_of off cols m) (rows_of off cols w 0)
match_none off cols m n ok w s next size long h = record {
  bins = bins_start (entries_of off cols w m n) (omega (arith, cols_long off cols m n w));
  like = bins_start s (omega (arith, size));
}
  where
    bins_start : (index : List ℕ) → 0 + sum n (room_of off cols m) ≤ length index → Bins index next 0 n (room_of off cols m) (rows_of off cols w 0)
    bins_start index r = (scatter_start off cols w m n index next 0 (record { grid = ok; long = long; room = r; starts = h })).bins

full_is : (off cols : List ℕ) (m n : ℕ) (w : What) (s next : List ℕ) → length s ≡ sum n (room_of off cols m) → Bins s next 0 n (room_of off cols m) (rows_of off cols w m) → s ≡ entries_of off cols w m n
full_is off cols m n w s next size b =
    let l = entries_of off cols w m n in
    let long : length l ≡ sum n (room_of off cols m) = cols_long off cols m n w in
    let wrote : s ≡ sets s 0 l = bins_whole s next 0 n (room_of off cols m) (rows_of off cols w m) b (λ c h. column_long off cols w m c) s refl (omega arith) (λ q h. refl) (λ q h. refl) in
    (as_written s s l (length l) (omega arith) (record { is = wrote; next = omega arith })).0
    ∙ ap (λ (r : List ℕ). l ++ r) (drop_of_length-le s {i = length l} (omega arith))
    ∙ append-nil l

pub match_all : (off cols : List ℕ) (m n : ℕ) (w : What) (s next : List ℕ) → length s ≡ sum n (room_of off cols m) → Matched s (entries_of off cols w m n) next n (room_of off cols m) (rows_of off cols w m) → true ≡ same s (entries_of off cols w m n)
match_all off cols m n w s next size b =
    sym (ap (λ (x : List ℕ). same x (entries_of off cols w m n)) (full_is off cols m n w s next size b.like) ∙ same_in (entries_of off cols w m n))
