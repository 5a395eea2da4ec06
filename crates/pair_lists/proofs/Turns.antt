-- The turns of a row's loop over its stored pairs. Assumes nothing.
use mathlib.Core.Path.{◌≡◌, refl, sym, ap, ◌∙◌, subst}
use mathlib.Core.Bool.{Bool, true, false}
use mathlib.Core.List.{List, [], ◌∷◌, ◌++◌}
use Prim.Native.Nat.{ℕ, suc, ◌+◌, ◌-◌, ◌*◌, ◌<◌, ◌≤◌}
use native.Mathlib.Omega.{arith}
use native.Mathlib.Numerals.{add-one}
use lib.ListN.{length, get_or, take, length-append}
use lib.Seq.{take-suc, take_all}
use Rattle.base.specs.Sums.{sum}
use Rattle.pattern.specs.Word.{bit}
use Rattle.base.specs.Cat.{cat, pick, pairs, Wrote}
use Rattle.lists.specs.Lists.{Shape, shape, weight, piece, before, list_of, begins}
use Rattle.csr.specs.Csr.{RowOf}
use Rattle.csr.specs.Pattern.{row}
use Rattle.csr.proofs.RowParts.{row_length, row_of}
use Rattle.transpose.specs.Bins.{Grid}
use Rattle.shared_columns.specs.Marked.{MarkedOver}
use Rattle.shared_columns.proofs.Marks.{over_next}
use Rattle.base.proofs.Numbers.{below_more}
use Rattle.pattern.specs.Ready.{Ready}
use Rattle.lists.specs.declared.Which.{Which}
use Rattle.base.proofs.Write.{cat_room, wrote_join, wrote_as, then_written, same_text, pairs_next}
use Rattle.pair_lists.proofs.Bits.{bit_held}
use Rattle.lists.proofs.Counts.{before_next, before_row}
use Rattle.base.proofs.Sums.{sum_zero}
use Rattle.pair_lists.specs.Kept.{kept, Rows, diagonal_only, marks_read}
use Rattle.pair_lists.specs.Listing.{RowListing, Counting, AtPair}
use Rattle.pair_lists.proofs.Stored.{last_of}
use Rattle.pair_lists.proofs.Diagonal.{cat_none, left_silent, left_weightless}
use Rattle.pair_lists.proofs.Lists.{rows_up, kept_short}
use Rattle.pair_lists.proofs.Through.{over, total, over_snoc, total_snoc, over_kept, total_kept, q_in, t_in, entry_is, entry_below, part_kept, silent, weightless}

-- in row i, after q of its stored pairs
pub record Turned (off cols p : List ℕ) (w : Which) (i : ℕ) (a b : List ℕ) (start at n₀ n q : ℕ) : Type 0 where
  pub wrote : Wrote a b start (over (take q (kept (bit p i) (i + 1))) (piece (shape off cols) w i)) at
  pub counted : n ≡ n₀ + total (take q (kept (bit p i) (i + 1))) (weight (shape off cols) w i)
  pub small : n ≤ n₀ + 16384 * q

module _ (off cols : List ℕ) (m : ℕ) (p : List ℕ) (ready : Ready off cols m p) (lindptr lindices : List ℕ) (v : Rows (bit p) lindptr lindices m) (w : Which) (i : ℕ) (hi : i < m) where
  abbrev f : ℕ → List ℕ
  f = piece (shape off cols) w i

  abbrev c : ℕ → ℕ
  c = weight (shape off cols) w i

  abbrev l : List ℕ
  l = kept (bit p i) (i + 1)

  pub empty : (k : ℕ) → k < i + 1 → bit p i k ≡ false → f k ≡ []
  empty k b e = silent off cols i k (omega arith) (sym (bit_held off cols m p ready i k hi (omega (arith, v.few))) ∙ e) w

  nothing : (k : ℕ) → k < i + 1 → bit p i k ≡ false → c k ≡ 0
  nothing k b e = weightless off cols i k (omega arith) (sym (bit_held off cols m p ready i k hi (omega (arith, v.few))) ∙ e) w

  pub turned_start : (a : List ℕ) (start n q : ℕ) → q ≡ 0 → Turned off cols p w i a a start start n n q
  unfolding over total
  turned_start a start n q e = subst (λ (x : ℕ). Turned off cols p w i a a start start n n x) (sym e) (record { wrote = record { is = refl; next = omega arith }; counted = omega arith; small = omega arith })

  before_from : (j : ℕ) → before (weight (shape off cols) w) i j ≡ before (weight (shape off cols) w) i 0 + sum j c
  unfolding before sum
  before_from j = omega arith

  module _ (t j : ℕ) (lo : get_or lindptr i 0 ≤ t) (up : t < get_or lindptr (i + 1) 0) (e : j ≡ get_or lindices t 0) where
    le : j ≤ i
    le = omega (arith, entry_below (bit p) lindptr lindices m v i t hi lo up)

    cut : take (t - get_or lindptr i 0) l ≡ kept (bit p i) j
    cut = part_kept (bit p) lindptr lindices m v i t hi lo up ∙ ap (kept (bit p i)) (sym e)

    so_far : over (take (t - get_or lindptr i 0) l) f ≡ cat j f
    so_far = ap (λ (x : List ℕ). over x f) cut ∙ over_kept (bit p i) j f (λ k b. empty k (omega (arith, le)))

    so_much : total (take (t - get_or lindptr i 0) l) c ≡ sum j c
    so_much = ap (λ (x : List ℕ). total x c) cut ∙ total_kept (bit p i) j c (λ k b. nothing k (omega (arith, le)))

    pub one_more : take (t + 1 - get_or lindptr i 0) l ≡ take (t - get_or lindptr i 0) l ++ (j ∷ [])
    one_more =
        let z : t + 1 - get_or lindptr i 0 ≡ suc (t - get_or lindptr i 0) = omega arith in
        ap (λ (x : ℕ). take x l) z ∙ take-suc l (t - get_or lindptr i 0) 0 (q_in (bit p) lindptr lindices m v i t hi lo up)
        ∙ ap (λ (x : ℕ). take (t - get_or lindptr i 0) l ++ (x ∷ [])) (entry_is (bit p) lindptr lindices m v i t hi lo up ∙ sym e)

    module _ (a b : List ℕ) (start at n₀ n : ℕ) (u : Turned off cols p w i a b start at n₀ n (t - get_or lindptr i 0)) where
      pub turn_count : (x : ℕ) → n₀ ≡ before (weight (shape off cols) w) i 0 → x ≡ c j → n + x ≡ before (weight (shape off cols) w) i (suc j)
      turn_count x q r = omega (arith, u.counted, so_much, before_from j, before_next (weight (shape off cols) w) i j, ap (before (weight (shape off cols) w) i) (add-one j))

      pub turn_room : (s : ℕ) → start + length (cat (i + 1) f) ≤ s → at + length (f j) ≤ s
      turn_room s r = omega (arith, u.wrote.next, ap length so_far, cat_room (i + 1) j f (omega (arith, le)))

      pub turn_few : i < 256 → t - get_or lindptr i 0 ≤ 256
      turn_few q = omega (arith, q_in (bit p) lindptr lindices m v i t hi lo up, rows_few)
        where
          rows_few : length l ≤ i + 1
          rows_few = kept_short (bit p i) (i + 1)

      pub turn_next : (d : List ℕ) (x r : ℕ) → x ≡ c j → x ≤ 16384 → Wrote b d at (f j) r → Turned off cols p w i a d start r n₀ (n + x) (t + 1 - get_or lindptr i 0)
      turn_next d x r q s g = record {
        wrote = wrote_as a d start r _ _ (sym (ap (λ (y : List ℕ). over y f) one_more ∙ over_snoc (take (t - get_or lindptr i 0) l) j f)) (wrote_join a b d start at r _ _ u.wrote g);
        counted = omega (arith, u.counted, ap (λ (y : List ℕ). total y c) one_more, total_snoc (take (t - get_or lindptr i 0) l) j c);
        small = omega (arith, u.small);
      }

  -- in a row from its last stored pair on, if the list has the diagonal alone
  turned_last : (a : List ℕ) (start n t : ℕ) → diagonal_only w ≡ true → t ≡ get_or lindptr (i + 1) 0 - 1 → Turned off cols p w i a a start start n n (t - get_or lindptr i 0)
  turned_last a start n t d z =
      let s = last_of off cols m p ready lindptr lindices v i hi in
      let lo : get_or lindptr i 0 ≤ t = omega (arith, s.low) in
      let up : t < get_or lindptr (i + 1) 0 = omega (arith, s.high) in
      let e : i ≡ get_or lindices t 0 = sym s.is ∙ ap (λ (x : ℕ). get_or lindices x 0) (sym z) in
      record {
        wrote = wrote_as a a start start _ _ (sym (so_far t i lo up e ∙ cat_none i f (λ k b. left_silent off cols i k b w d))) (record { is = refl; next = omega arith });
        counted = omega (arith, so_much t i lo up e, sum_zero i c (λ k b. left_weightless off cols i k b w d));
        small = omega arith;
      }

  pub turned_from : (a : List ℕ) (start n t : ℕ) → (diagonal_only w ≡ true → t ≡ get_or lindptr (i + 1) 0 - 1) → (diagonal_only w ≡ false → t ≡ get_or lindptr i 0)
      → (get_or lindptr i 0 ≤ t) × (t ≤ get_or lindptr (i + 1) 0) × Turned off cols p w i a a start start n n (t - get_or lindptr i 0)
  turned_from a start n t x y = go (diagonal_only w) refl
    where
      go : (b : Bool) → diagonal_only w ≡ b → (get_or lindptr i 0 ≤ t) × (t ≤ get_or lindptr (i + 1) 0) × Turned off cols p w i a a start start n n (t - get_or lindptr i 0)
      go true d = (omega (arith, x d, (last_of off cols m p ready lindptr lindices v i hi).low), omega (arith, x d), turned_last a start n t d (x d))
      go false d = (omega (arith, y d), omega (arith, y d, rows_up (bit p) lindptr lindices m v i hi), turned_start a start n (t - get_or lindptr i 0) (omega (arith, y d)))

  pub turned_end : (a b : List ℕ) (start at n₀ n t : ℕ) → t ≡ get_or lindptr (i + 1) 0 → n₀ ≡ before (weight (shape off cols) w) i 0 → n₀ ≤ 4210688 * i → Turned off cols p w i a b start at n₀ n (t - get_or lindptr i 0)
      → Wrote a b start (cat (i + 1) f) at × (n ≡ before (weight (shape off cols) w) (i + 1) 0) × (n ≤ 4210688 * (i + 1))
  turned_end a b start at n₀ n t q z s u = (
    wrote_as a b start at _ _ (ap (λ (x : List ℕ). over x f) all ∙ over_kept (bit p i) (i + 1) f empty) u.wrote,
    omega (arith, u.counted, ap (λ (x : List ℕ). total x c) all, total_kept (bit p i) (i + 1) c nothing, before_from (i + 1), before_row (weight (shape off cols) w) i),
    omega (arith, u.small, rows_up (bit p) lindptr lindices m v i hi, kept_short (bit p i) (i + 1), v.few),
  )
    where
      all : take (t - get_or lindptr i 0) l ≡ l
      all = take_all (t - get_or lindptr i 0) l (omega (arith, rows_up (bit p) lindptr lindices m v i hi))

-- ---- the same, from what the writing of a row starts from
module _ {w : Which} {off cols p lindptr lindices mark : List ℕ} {i : ℕ} (g : RowListing w off cols p lindptr lindices mark i) where
  pub row_some : 1 ≤ get_or lindptr (i + 1) 0
  row_some = (last_of off cols g.at.m p g.at.ready lindptr lindices g.rows i g.at.inside).some

  module _ {t : ℕ} (last : diagonal_only w ≡ true → t ≡ get_or lindptr (i + 1) 0 - 1) (first : diagonal_only w ≡ false → t ≡ get_or lindptr i 0) where
    pub row_begins : (a : List ℕ) (start n : ℕ) → (get_or lindptr i 0 ≤ t) × (t ≤ get_or lindptr (i + 1) 0) × Turned off cols p w i a a start start n n (t - get_or lindptr i 0)
    row_begins a start n = turned_from off cols g.at.m p g.at.ready lindptr lindices g.rows w i g.at.inside a start n t last first

    pub row_span : (get_or lindptr i 0 ≤ t) × (t ≤ get_or lindptr (i + 1) 0)
    row_span = let h = row_begins [] 0 0 in (h.0, h.1)

  module _ {t : ℕ} (lo : get_or lindptr i 0 ≤ t) (up : t < get_or lindptr (i + 1) 0) where
    pub pair_in : t < length lindices
    pair_in = t_in (bit p) lindptr lindices g.at.m g.rows i t g.at.inside lo up

    pub pair_left : get_or lindices t 0 ≤ i
    pair_left = entry_below (bit p) lindptr lindices g.at.m g.rows i t g.at.inside lo up

    module _ {a b : List ℕ} {start at n₀ n : ℕ} (u : Turned off cols p w i a b start at n₀ n (t - get_or lindptr i 0)) where
      pub pair_few : t - get_or lindptr i 0 ≤ 256
      pair_few = turn_few off cols g.at.m p g.at.ready lindptr lindices g.rows w i g.at.inside t (get_or lindices t 0) lo up refl a b start at n₀ n u (omega (arith, g.at.inside, g.rows.few))

      pub pair_at : {x : ℕ} → Counting w off cols i n₀ → x ≡ weight (shape off cols) w i (get_or lindices t 0) → AtPair w off cols lindptr lindices i (get_or lindices t 0) t (n + x)
      pair_at {x} k e = record {
        first = lo;
        last = up;
        column = refl;
        count = turn_count off cols g.at.m p g.at.ready lindptr lindices g.rows w i g.at.inside t (get_or lindices t 0) lo up refl a b start at n₀ n u x k.count e;
      }

      pub pair_room : {l : ℕ} → start + length (cat (i + 1) (piece (shape off cols) w i)) ≤ l → at + length (piece (shape off cols) w i (get_or lindices t 0)) ≤ l
      pair_room {l} r = turn_room off cols g.at.m p g.at.ready lindptr lindices g.rows w i g.at.inside t (get_or lindices t 0) lo up refl a b start at n₀ n u l r

      pub pair_next : {d : List ℕ} {x r : ℕ} → (x ≡ weight (shape off cols) w i (get_or lindices t 0)) × (x ≤ 16384) → Wrote b d at (piece (shape off cols) w i (get_or lindices t 0)) r
          → Turned off cols p w i a d start r n₀ (n + x) (t + 1 - get_or lindptr i 0)
      pair_next {d} {x} {r} e v = turn_next off cols g.at.m p g.at.ready lindptr lindices g.rows w i g.at.inside t (get_or lindices t 0) lo up refl a b start at n₀ n u d x r e.0 e.1 v

  pub row_over : {a b : List ℕ} {start at n₀ n : ℕ} (t : ℕ) → t ≡ get_or lindptr (i + 1) 0 → Counting w off cols i n₀ → Turned off cols p w i a b start at n₀ n (t - get_or lindptr i 0)
      → Wrote a b start (cat (i + 1) (piece (shape off cols) w i)) at × Counting w off cols (i + 1) n
  row_over {a} {b} {start} {at} {n₀} {n} t e k u =
      let r = turned_end off cols g.at.m p g.at.ready lindptr lindices g.rows w i g.at.inside a b start at n₀ n t e k.count k.few u in
      (r.0, record { count = r.1; few = r.2 })

-- ---- row after row
module _ (g : Shape) (w : Which) where
  pub row_room : (m i start l at₀ at : ℕ) → i < m → start + length (list_of g w m) ≤ l → at₀ ≡ start + length (pick (begins w) 0) → at ≡ at₀ + length (pairs i (piece g w)) → at + length (cat (i + 1) (piece g w i)) ≤ l
  unfolding list_of pairs
  row_room m i start l at₀ at b r e q =
      omega (
        arith,
        length-append (pick (begins w) 0) (pairs m (piece g w)),
        cat_room m i (λ a. cat (suc a) (λ k. piece g w a k)) b,
        ap (λ (k : ℕ). length (cat k (piece g w i))) (add-one i),
      )

  pub rows_start : (a : List ℕ) (start : ℕ) → Wrote a a start (pairs 0 (piece g w)) start
  unfolding pairs
  rows_start a start = record { is = refl; next = omega arith }

  pub rows_next : {a b c : List ℕ} {start at r : ℕ} (i : ℕ) → Wrote a b start (pairs i (piece g w)) at → Wrote b c at (cat (i + 1) (piece g w i)) r → Wrote a c start (pairs (i + 1) (piece g w)) r
  rows_next i u v = same_text (sym (pairs_next i (piece g w))) (then_written u v)

  pub whole : {a b c : List ℕ} {start at r : ℕ} (m i : ℕ) → i ≡ m → Wrote a b start (pick (begins w) 0) at → Wrote b c at (pairs i (piece g w)) r → Wrote a c start (list_of g w m) r
  unfolding list_of
  whole m i e u v = same_text (ap (λ (k : ℕ). pick (begins w) 0 ++ pairs k (piece g w)) e) (then_written u v)

-- ---- a memory over the columns, marked row by row
pub markable : (off cols : List ℕ) (m wide i : ℕ) (mark : List ℕ) → Grid off cols m wide → i < m → wide ≤ length mark → RowOf off cols i (length mark)
markable off cols m wide i mark g l long = row_of off cols m i (length mark) g.csr l (below_more wide (length mark) (row off cols i) long (g.within i l))

pub mark_low : (w : Which) (off cols old mark : List ℕ) (i : ℕ) → get_or off i 0 ≤ get_or off (i + 1) 0 → get_or off (i + 1) 0 ≤ length cols
    → (marks_read w ≡ true → MarkedOver old mark (get_or off i 0) (row off cols i)) → (marks_read w ≡ false → mark ≡ old) → (x : ℕ) → get_or old x 0 ≤ get_or off i 0 → get_or mark x 0 ≤ get_or off (i + 1) 0
mark_low w off cols old mark i up end read unread x low = go (marks_read w) refl
  where
    go : (t : Bool) → marks_read w ≡ t → get_or mark x 0 ≤ get_or off (i + 1) 0
    go true e = omega (arith, over_next old mark (get_or off i 0) (row off cols i) (read e) x low, row_length off cols i end)
    go false e = omega (arith, ap (λ (l : List ℕ). get_or l x 0) (unread e))
