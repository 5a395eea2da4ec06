-- Laws of bins. Assumes nothing.
use mathlib.Core.Path.{◌≡◌, refl, sym, ap, ap₂, ◌∙◌, subst}
use mathlib.Core.Logic.{◌≢◌}
use mathlib.Core.Bool.{Bool, false, ◌||◌}
use mathlib.Core.List.{List, [], ◌∷◌, ◌++◌, append-nil}
use Prim.Native.Nat.{ℕ, zero, suc, ◌+◌, ◌-◌, ◌<◌, ◌≤◌}
use native.Mathlib.Omega.{arith}
use native.Mathlib.Decide.{ℕ_discrete, dec_lt}
use lib.Dec.{eqb}
use lib.ListN.{length, get_or, set, length-set, length-append, get_or-append, take}
use lib.Seq.{sets, length-sets, get_or-set_same, get_or-set_other, get_or-append-add, get_or-append_seam, ext_get_or, take-suc, take_all}
use borrow.Author.Tests.{eq-eqb, ne_eqb}
use native.Mathlib.Numerals.{add-one}
use Rattle.csr.specs.Pattern.{has, row}
use Rattle.base.specs.Numbers.{Rising}
use Rattle.base.specs.Cat.{pick, cat}
use Rattle.lists.specs.Lists.{shape, holds, entry, column, in_column}
use Rattle.lists.specs.declared.What.{What}
use Rattle.lists.specs.declared.Side.TheVariants.{Matrix}
use Rattle.base.specs.Sums.{sum, one}
use Rattle.base.proofs.Sums.{sum_ext, sum_room}
use Rattle.base.proofs.Write.{length_cat, cat_room, cat_next, length_pick}
use Rattle.transpose.specs.Bins.{Bins, onto, put_in, rows_of, room_of, in_row}
use Rattle.base.proofs.Bools.{or_nil}
use Rattle.csr.proofs.Has.{has_at, has_last, not_before}

module _ (index next : List ℕ) (start n : ℕ) (size : ℕ → ℕ) (held : ℕ → List ℕ) (b : Bins index next start n size held)
    (e x : ℕ) (he : e < n) (hn : e < length next) (room : length (held e) < size e) (long : start + sum n size ≤ length index) where
  -- where the word goes
  abbrev at : ℕ
  at = start + get_or next e 0

  cur : get_or next e 0 ≡ sum e size + length (held e)
  cur = b.cursor e he

  put_cursor : (c : ℕ) → c < n → get_or (set next e (get_or next e 0 + 1)) c 0 ≡ sum c size + length (put_in e x held c)
  put_cursor c hc = go (ℕ_discrete c e)
    where
      go : Dec (c ≡ e) → get_or (set next e (get_or next e 0 + 1)) c 0 ≡ sum c size + length (onto (eqb c e) x (held c))
      go (yes q) =
          ap (λ (k : ℕ). get_or (set next e (get_or next e 0 + 1)) k 0) q
          ∙ get_or-set_same next e (get_or next e 0 + 1) 0 hn
          ∙ omega (arith, cur, ap (λ (k : ℕ). sum k size + length (held k)) q, length-append (held c) (x ∷ []), ap (λ (t : Bool). length (onto t x (held c))) (eq-eqb c e q))
      go (no q) = get_or-set_other next e c (get_or next e 0 + 1) 0 q ∙ b.cursor c hc ∙ ap (λ (t : Bool). sum c size + length (onto t x (held c))) (sym (ne_eqb c e q))

  put_fits : (c : ℕ) → c < n → length (put_in e x held c) ≤ size c
  put_fits c hc = go (ℕ_discrete c e)
    where
      go : Dec (c ≡ e) → length (onto (eqb c e) x (held c)) ≤ size c
      go (yes q) = omega (arith, ap (λ (t : Bool). length (onto t x (held c))) (eq-eqb c e q), length-append (held c) (x ∷ []), ap (λ (k : ℕ). length (held k)) q, ap size q)
      go (no q) = omega (arith, ap (λ (t : Bool). length (onto t x (held c))) (ne_eqb c e q), b.fits c hc)

  put_words : (c k : ℕ) → c < n → k < length (put_in e x held c) → get_or (set index at x) (start + sum c size + k) 0 ≡ get_or (put_in e x held c) k 0
  put_words c k hc hk = go (ℕ_discrete c e)
    where
      in_bin : c ≡ e → Dec (k ≡ length (held c)) → k < length (held c ++ (x ∷ [])) → get_or (set index at x) (start + sum c size + k) 0 ≡ get_or (held c ++ (x ∷ [])) k 0
      in_bin q (yes r) h =
          let w : start + sum c size + k ≡ at = omega (arith, cur, ap (λ (z : ℕ). sum z size + length (held z)) q) in
          ap (λ (z : ℕ). get_or (set index at x) z 0) w
          ∙ get_or-set_same index at x 0 (omega (arith, cur, sum_room n e size he))
          ∙ sym (ap (λ (z : ℕ). get_or (held c ++ (x ∷ [])) z 0) r ∙ get_or-append_seam (held c) x [] 0)
      in_bin q (no r) h =
          let l : k < length (held c) = omega (arith, length-append (held c) (x ∷ [])) in
          get_or-set_other index at (start + sum c size + k) x 0 (λ w. omega (arith, cur, ap (λ (z : ℕ). sum z size + length (held z)) q))
          ∙ b.words c k hc l
          ∙ sym (get_or-append (held c) (x ∷ []) 0 k l)

      away : c ≢ e → k < length (held c) → Dec (c < e) → start + sum c size + k ≢ at
      away q l (yes r) w = omega (arith, cur, sum_room e c size r, b.fits c hc)
      away q l (no r) w = omega (arith, cur, sum_room c e size (omega arith))

      go : Dec (c ≡ e) → get_or (set index at x) (start + sum c size + k) 0 ≡ get_or (onto (eqb c e) x (held c)) k 0
      go (yes q) =
          in_bin q (ℕ_discrete k (length (held c))) (subst (λ (t : Bool). k < length (onto t x (held c))) (eq-eqb c e q) hk)
          ∙ ap (λ (t : Bool). get_or (onto t x (held c)) k 0) (sym (eq-eqb c e q))
      go (no q) =
          let l : k < length (held c) = subst (λ (t : Bool). k < length (onto t x (held c))) (ne_eqb c e q) hk in
          get_or-set_other index at (start + sum c size + k) x 0 (away q l (dec_lt c e))
          ∙ b.words c k hc l
          ∙ ap (λ (t : Bool). get_or (onto t x (held c)) k 0) (sym (ne_eqb c e q))

  -- A WORD PUT INTO ITS BIN
  pub bin_put : Bins (set index at x) (set next e (get_or next e 0 + 1)) start n size (put_in e x held)
  bin_put = record { cursor = put_cursor; fits = put_fits; words = put_words }

-- ---- the words of a list stored one after the other
sets_below : (l : List ℕ) (i : ℕ) (vs : List ℕ) (q : ℕ) → q < i → get_or (sets l i vs) q 0 ≡ get_or l q 0
sets_below l i [] q h = refl
sets_below l i (v ∷ vs) q h = sets_below (set l i v) (suc i) vs q (omega arith) ∙ get_or-set_other l i q v 0 (λ e. omega arith)

sets_above : (l : List ℕ) (i : ℕ) (vs : List ℕ) (q : ℕ) → i + length vs ≤ q → get_or (sets l i vs) q 0 ≡ get_or l q 0
sets_above l i [] q h = refl
sets_above l i (v ∷ vs) q h = sets_above (set l i v) (suc i) vs q (omega arith) ∙ get_or-set_other l i q v 0 (λ e. omega arith)

sets_in : (l : List ℕ) (i : ℕ) (vs : List ℕ) (k : ℕ) → k < length vs → i + length vs ≤ length l → get_or (sets l i vs) (i + k) 0 ≡ get_or vs k 0
sets_in l i [] k h r = absurd (omega arith)
sets_in l i (v ∷ vs) zero h r =
    let e : i + 0 ≡ i = omega arith in
    ap (λ (z : ℕ). get_or (sets (set l i v) (suc i) vs) z 0) e ∙ sets_below (set l i v) (suc i) vs i (omega arith) ∙ get_or-set_same l i v 0 (omega arith)
sets_in l i (v ∷ vs) (suc k) h r =
    let e : i + suc k ≡ suc i + k = omega arith in
    ap (λ (z : ℕ). get_or (sets (set l i v) (suc i) vs) z 0) e ∙ sets_in (set l i v) (suc i) vs k (omega arith) (omega (arith, length-set l i v))

-- ---- every bin full: the bins are one list
module _ (index next : List ℕ) (start n : ℕ) (size : ℕ → ℕ) (held : ℕ → List ℕ) (b : Bins index next start n size held)
    (full : (c : ℕ) → c < n → length (held c) ≡ size c) where
  cat_size : (d : ℕ) → d ≤ n → length (cat d held) ≡ sum d size
  cat_size d h = length_cat d held ∙ sum_ext d (λ k. length (held k)) size (λ k l. full k (omega arith))

  joined : (d : ℕ) → d ≤ n → (k : ℕ) → k < sum d size → get_or index (start + k) 0 ≡ get_or (cat d held) k 0
  unfolding sum cat
  joined zero hd k hk = absurd (omega arith)
  joined (suc d) hd k hk = go (dec_lt k (sum d size)) (joined d (omega arith) k)
    where
      go : Dec (k < sum d size) → (k < sum d size → get_or index (start + k) 0 ≡ get_or (cat d held) k 0) → get_or index (start + k) 0 ≡ get_or (cat d held ++ held d) k 0
      go (yes l) ih = ih l ∙ sym (get_or-append (cat d held) (held d) 0 k (omega (arith, cat_size d (omega arith))))
      go (no l) ih =
          let r : ℕ = k - sum d size in
          let p : start + k ≡ start + sum d size + r = omega arith in
          let q : k ≡ length (cat d held) + r = omega (arith, cat_size d (omega arith)) in
          ap (λ (z : ℕ). get_or index z 0) p
          ∙ b.words d r (omega arith) (omega (arith, full d (omega arith)))
          ∙ sym (ap (λ (z : ℕ). get_or (cat d held ++ held d) z 0) q ∙ get_or-append-add (cat d held) (held d) r 0)

  pub bins_whole : (old : List ℕ) → length index ≡ length old → start + sum n size ≤ length old
      → ((q : ℕ) → q < start → get_or index q 0 ≡ get_or old q 0) → ((q : ℕ) → start + sum n size ≤ q → get_or index q 0 ≡ get_or old q 0)
      → index ≡ sets old start (cat n held)
  bins_whole old len room low high =
      ext_get_or 0 index (sets old start (cat n held)) (len ∙ sym (length-sets old start (cat n held))) (λ q h. go q (dec_lt q start) (dec_lt q (start + sum n size)))
    where
      z : length (cat n held) ≡ sum n size
      z = cat_size n (omega arith)

      go : (q : ℕ) → Dec (q < start) → Dec (q < start + sum n size) → get_or index q 0 ≡ get_or (sets old start (cat n held)) q 0
      go q (yes l) d = low q l ∙ sym (sets_below old start (cat n held) q l)
      go q (no l) (yes r) =
          let e : q ≡ start + (q - start) = omega arith in
          ap (λ (y : ℕ). get_or index y 0) e
          ∙ joined n (omega arith) (q - start) (omega arith)
          ∙ sym (ap (λ (y : ℕ). get_or (sets old start (cat n held)) y 0) e ∙ sets_in old start (cat n held) (q - start) (omega (arith, z)) (omega (arith, z)))
      go q (no l) (no r) = high q (omega arith) ∙ sym (sets_above old start (cat n held) q (omega (arith, z)))

-- ---- the entries of a row, one after the other
pub bins_ext : (index next : List ℕ) (start n : ℕ) (size : ℕ → ℕ) (f g : ℕ → List ℕ) → ((c : ℕ) → c < n → f c ≡ g c) → Bins index next start n size f → Bins index next start n size g
bins_ext index next start n size f g e b = record {
  cursor = λ c h. b.cursor c h ∙ ap (λ (l : List ℕ). sum c size + length l) (e c h);
  fits = λ c h. subst (λ (l : List ℕ). length l ≤ size c) (e c h) (b.fits c h);
  words = λ c k h l. b.words c k h (subst (λ (z : List ℕ). k < length z) (sym (e c h)) l) ∙ ap (λ (z : List ℕ). get_or z k 0) (e c h);
}

module _ (off cols : List ℕ) (w : What) (i : ℕ) where
  pub in_start : (c : ℕ) → rows_of off cols w i c ≡ in_row off cols w i 0 c
  unfolding in_row has
  in_start c = sym (append-nil (rows_of off cols w i c))

  pub in_end : (q c : ℕ) → length (row off cols i) ≤ q → in_row off cols w i q c ≡ rows_of off cols w (i + 1) c
  unfolding in_row column
  in_end q c h =
      ap (λ (l : List ℕ). rows_of off cols w i c ++ pick (has l c) (entry (shape off cols) Matrix w i c)) (take_all q (row off cols i) h)
      ∙ sym (cat_next i (λ r. pick (holds (shape off cols) Matrix r c) (entry (shape off cols) Matrix w r c)))

  module _ (q e x : ℕ) (up : Rising (row off cols i)) (hq : q < length (row off cols i)) (he : e ≡ get_or (row off cols i) q 0) (hx : x ≡ entry (shape off cols) Matrix w i e) where
    pub one_more : (c : ℕ) → has (take (q + 1) (row off cols i)) c ≡ has (take q (row off cols i)) c || eqb c e
    one_more c =
        ap (λ (k : ℕ). has (take k (row off cols i)) c) (add-one q)
        ∙ ap (λ (l : List ℕ). has l c) (take-suc (row off cols i) q 0 hq)
        ∙ has_last (take q (row off cols i)) (get_or (row off cols i) q 0) c
        ∙ ap (λ (z : ℕ). has (take q (row off cols i)) c || eqb c z) (sym he)

    pub absent_e : has (take q (row off cols i)) e ≡ false
    absent_e = ap (has (take q (row off cols i))) he ∙ not_before (row off cols i) q up hq

    pub in_step : (c : ℕ) → put_in e x (in_row off cols w i q) c ≡ in_row off cols w i (q + 1) c
    unfolding in_row
    in_step c = go (ℕ_discrete c e)
      where
        base : List ℕ
        base = rows_of off cols w i c

        go : Dec (c ≡ e) → onto (eqb c e) x (base ++ pick (has (take q (row off cols i)) c) (entry (shape off cols) Matrix w i c)) ≡ base ++ pick (has (take (q + 1) (row off cols i)) c) (entry (shape off cols) Matrix w i c)
        go (yes r) =
            let z : has (take q (row off cols i)) c ≡ false = ap (has (take q (row off cols i))) r ∙ absent_e in
            ap₂ (λ (s t : Bool). onto s x (base ++ pick t (entry (shape off cols) Matrix w i c))) (eq-eqb c e r) z
            ∙ ap₂ (λ (l : List ℕ) (y : ℕ). l ++ (y ∷ [])) (append-nil base) (hx ∙ ap (entry (shape off cols) Matrix w i) (sym r))
            ∙ ap (λ (t : Bool). base ++ pick t (entry (shape off cols) Matrix w i c)) (sym (one_more c ∙ ap₂ ◌||◌ z (eq-eqb c e r)))
        go (no r) =
            ap (λ (s : Bool). onto s x (base ++ pick (has (take q (row off cols i)) c) (entry (shape off cols) Matrix w i c))) (ne_eqb c e r)
            ∙ ap (λ (t : Bool). base ++ pick t (entry (shape off cols) Matrix w i c)) (sym (one_more c ∙ ap (λ (t : Bool). has (take q (row off cols i)) c || t) (ne_eqb c e r) ∙ or_nil (has (take q (row off cols i)) c)))

    pub in_room : (m : ℕ) → i < m → length (in_row off cols w i q e) < room_of off cols m e
    unfolding in_row column in_column
    in_room m hi =
        omega (
          arith,
          cat_room m i (λ r. pick (holds (shape off cols) Matrix r e) (entry (shape off cols) Matrix w r e)) hi,
          length_cat m (λ r. pick (holds (shape off cols) Matrix r e) (entry (shape off cols) Matrix w r e)),
          sum_ext m (λ r. length (pick (holds (shape off cols) Matrix r e) (entry (shape off cols) Matrix w r e))) (λ r. one (holds (shape off cols) Matrix r e)) (λ k l. length_pick (holds (shape off cols) Matrix k e) (entry (shape off cols) Matrix w k e)),
          length_pick (has (row off cols i) e) (entry (shape off cols) Matrix w i e),
          ap one (ap (has (row off cols i)) he ∙ has_at (row off cols i) q hq),
          length-append (rows_of off cols w i e) (pick (has (take q (row off cols i)) e) (entry (shape off cols) Matrix w i e)),
          ap (λ (t : Bool). length (pick t (entry (shape off cols) Matrix w i e))) absent_e,
        )

    -- A TURN OF THE SCATTER
    pub turn : (index next : List ℕ) (start n m : ℕ) → i < m → e < n → e < length next → start + sum n (room_of off cols m) ≤ length index
        → Bins index next start n (room_of off cols m) (in_row off cols w i q)
        → Bins (set index (start + get_or next e 0) x) (set next e (get_or next e 0 + 1)) start n (room_of off cols m) (in_row off cols w i (q + 1))
    turn index next start n m hi en el room b =
        bins_ext _ _ start n (room_of off cols m) (put_in e x (in_row off cols w i q)) (in_row off cols w i (q + 1)) (λ c h. in_step c)
        (bin_put index next start n (room_of off cols m) (in_row off cols w i q) b e x en el (in_room m hi) room)
