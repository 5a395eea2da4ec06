-- A row, column by column, and the rows one after the other. Assumes nothing.
use mathlib.Core.Path.{◌≡◌, refl, sym, ap, ap₂, ◌∙◌, subst}
use mathlib.Core.Logic.{◌⊎◌, inl, inr}
use mathlib.Core.Bool.{Bool, true, false, ◌&&◌, ◌||◌, cond, false≢true}
use mathlib.Core.List.{List, [], ◌∷◌, ◌++◌}
use Prim.Native.Nat.{ℕ, suc, ◌+◌, ◌*◌, ◌≤◌, ◌<◌}
use native.Mathlib.Omega.{arith}
use native.Mathlib.Decide.{ℕ_discrete, dec_lt}
use native.Mathlib.Numerals.{add-one}
use lib.Dec.{eqb, ltb}
use lib.ListN.{length, get_or, set, take, replicate, length-set}
use lib.Seq.{take-suc, take-length, get_or-set_same, get_or-set_other}
use borrow.Author.Tests.{ne_eqb, eq-eqb, eqb-true, lt-ltb, le-ltb}
use Rattle.std.proofs.lemmas.Bool.{false_from_ne_true}
use Rattle.base.specs.Sums.{sum, one}
use Rattle.base.proofs.Bools.{or_out, or_right, or_nil, same_if}
use Rattle.base.proofs.Numbers.{below_at, below_more}
use Rattle.base.proofs.Sums.{sum_ext, sum_zero, sum_more}
use Rattle.csr.specs.Pattern.{has, row, neighbours}
use Rattle.csr.proofs.Rule.{stored_diag}
use Rattle.csr.proofs.Has.{has_last, has_at, not_before}
use Rattle.csr.proofs.RowParts.{row_of, row_le}
use Rattle.csr.specs.Csr.{Accepted}
use Rattle.csr.specs.Questions.{max_rows}
use Rattle.csr.specs.Counts.{is_stored, count_e, count_s, count_d}
use Rattle.pattern.specs.Links.{or_else, linked, first_of, links}
use Rattle.lists.proofs.Few.{stored_few, products_few, pairs_256, triples_256}
use Rattle.pattern.proofs.Whole.{zeros}
use Rattle.pattern.proofs.Links.{first_has, link_of}
use Rattle.pattern.proofs.Linking.{linked_last}
use Rattle.parents.specs.Parent.{parent_of, Along, from, up}
use Rattle.counts.specs.Climb.{entries_in, met, Adopts, Turn, Climbing, Climbed}
use Rattle.counts.specs.Rows.{rows_with, most_of_row, Rows, Fit, Countable}
use Rattle.parents.proofs.Lowest.{parent_is, parent_found, parent_next, parent_zero}
use Rattle.parents.proofs.Ascent.{along, filled_links}
use Rattle.counts.proofs.Step.{else_none, next_is, stand}
use Rattle.counts.proofs.Products.{total, total_last, total_none, rows_few, rows_zero, rows_next, S-next, S-zero, E-next, E-zero, entries_next, entries_zero, D-next, D-zero}

-- the climb starts at a row that is an entry, or at row i
arrive : {st : ℕ → ℕ → Bool} {i : ℕ} {mark parent column : List ℕ} {E D e d : ℕ} → Turn st i i mark parent column E D e d → (at : ℕ) → at ≤ i → (at < i → st i at ≡ true)
    → Turn st i at mark parent column E D e d
arrive {st} {i} {mark} t at l h = stand t at l h (λ x p m q. inl (go x p q (t.closed x p m q)))
  where
    go : (x p : ℕ) → parent_of st i x ≡ suc p → (met mark i p ≡ true) ⊎ (p ≡ i) → met mark i p ≡ true
    go x p q (inl a) = a
    go x p q (inr z) = absurd (omega (arith, (parent_is st i x p q).1))

module _ (off cols : List ℕ) (i rows columns : ℕ) where
  -- the first q columns of row i are done
  pub record Row (mark parent column seen first : List ℕ) (e s d q : ℕ) : Type 0 where
    pub marks : length mark ≡ rows
    pub seens : length seen ≡ columns
    pub firsts : length first ≡ columns
    pub up_to : q ≤ length (row off cols i)
    pub turn : Turn (is_stored off cols) i i mark parent column (count_e off cols i) (count_d off cols i) e d
    pub reached : (j : ℕ) → linked (first_of off cols i) (take q (row off cols i)) j ≡ true → met mark i j ≡ true
    pub seen_at : (c : ℕ) → c < columns → get_or seen c 0 ≡ rows_with off cols i c + one (has (take q (row off cols i)) c)
    pub first_at : (c : ℕ) → c < columns → get_or first c 0 ≡ or_else (first_of off cols i c) (cond (has (take q (row off cols i)) c) (suc i) 0)
    pub shared : s ≡ count_s off cols i + total (take q (row off cols i)) (rows_with off cols (suc i))
    pub small : s ≤ most_of_row * i + (max_rows + 1) * q

module _ {off cols : List ℕ} {i rows columns : ℕ} where
  module _ {mark parent column seen first : List ℕ} {e s d : ℕ} (v : Rows off cols i mark parent column seen first e s d) (fit : Fit off cols i rows columns) (wide : length mark ≡ rows) (long : length seen ≡ columns) where
    unmet : (k : ℕ) → met mark i k ≡ false
    unmet k = ne_eqb (get_or mark k 0) (i + 1) (λ z. omega (arith, v.old k))

    pub row_start : Row off cols i rows columns mark parent column seen first e s d 0
    unfolding linked has
    row_start = record {
      marks = wide;
      seens = long;
      firsts = v.firsts ∙ long;
      up_to = omega arith;
      turn = record {
        few = fit.few;
        room = omega (arith, fit.room, wide);
        parents = v.parents;
        columns = v.columns;
        small_e = omega (arith, stored_few off cols i, sum_more i 256 suc (omega (arith, fit.few)), pairs_256);
        small_d = omega (arith, products_few off cols i, sum_more i 256 (λ j. sum (suc j) (λ k. k)) (omega (arith, fit.few)), triples_256);
        joins = λ j k l u a b. (filled_links off cols).joins i j k l u a b;
        up_to = omega arith;
        here = λ l. absurd (omega arith);
        old = λ k. omega (arith, v.old k);
        sound = λ k h. absurd (false≢true (sym (unmet k) ∙ h));
        closed = λ k p h q. absurd (false≢true (sym (unmet k) ∙ h));
        parent_at = λ k h. v.parent_at k h ∙ sym (ap (λ (b : Bool). or_else (parent_of (is_stored off cols) i k) (cond b (suc i) 0)) (unmet k) ∙ else_none (parent_of (is_stored off cols) i k));
        column_at = λ k h. v.column_at k h ∙ sym (ap (λ (b : Bool). entries_in (is_stored off cols) i k + one b) (unmet k) ∙ omega arith);
        entries = omega (arith, v.entries, sum_zero i (λ k. one (met mark i k)) (λ k l. ap one (unmet k)));
        products =
            omega (
              arith,
              v.products,
              sum_zero i (λ k. cond (met mark i k) (entries_in (is_stored off cols) i k + 1) 0) (λ k l. ap (λ (b : Bool). cond b (entries_in (is_stored off cols) i k + 1) 0) (unmet k)),
            );
      };
      reached = λ j h. absurd (false≢true h);
      seen_at = λ c h. omega (arith, v.seen_at c (omega (arith, h, long)));
      first_at = λ c h. v.first_at c (omega (arith, h, long)) ∙ sym (else_none (first_of off cols i c));
      shared = omega (arith, v.shared, total_none (rows_with off cols (suc i)));
      small = omega (arith, v.small);
    }

  module _ {mark parent column seen first : List ℕ} {e s d q : ℕ} (v : Row off cols i rows columns mark parent column seen first e s d q) (fit : Fit off cols i rows columns) where
    module _ {xs : List ℕ} (same : xs ≡ row off cols i) (hx : q < length xs) where
      -- the column that is read is entry q of the row
      abbrev c : ℕ
      c = get_or xs q 0

      hq : q < length (row off cols i)
      hq = omega (arith, hx, ap length same)

      is : c ≡ get_or (row off cols i) q 0
      is = ap (λ (l : List ℕ). get_or l q 0) same

      c_in : c < columns
      c_in = omega (arith, is, below_at columns (row off cols i) q fit.is.within hq)

      fresh : has (take q (row off cols i)) c ≡ false
      fresh = ap (has (take q (row off cols i))) is ∙ not_before (row off cols i) q fit.is.rising hq

      holds : has (row off cols i) c ≡ true
      holds = ap (has (row off cols i)) is ∙ has_at (row off cols i) q hq

      seen_now : get_or seen c 0 ≡ rows_with off cols i c
      seen_now = omega (arith, v.seen_at c c_in, ap one fresh)

      first_now : get_or first c 0 ≡ first_of off cols i c
      first_now = v.first_at c c_in ∙ ap (λ (b : Bool). or_else (first_of off cols i c) (cond b (suc i) 0)) fresh ∙ else_none (first_of off cols i c)

      pub seen_asks : (c < length seen) × (get_or seen c 0 ≤ 65536)
      seen_asks = (omega (arith, v.seens, c_in), omega (arith, seen_now, rows_few off cols i c, fit.few))

      pub seen_grown : get_or seen c 0 + 1 ≤ 257
      seen_grown = omega (arith, seen_now, rows_few off cols i c, fit.few)

      pub first_asks : (c < length first) × (i < 256)
      first_asks = (omega (arith, v.firsts, c_in), fit.few)

      longer : take (q + 1) (row off cols i) ≡ take q (row off cols i) ++ (c ∷ [])
      longer = ap (λ (k : ℕ). take k (row off cols i)) (add-one q) ∙ take-suc (row off cols i) q 0 hq ∙ ap (λ (x : ℕ). take q (row off cols i) ++ (x ∷ [])) (sym is)

      module _ {at : ℕ} (begins : at + 1 ≡ or_else (get_or first c 0) (i + 1)) where
        cases : ((first_of off cols i c ≡ 0) × (at ≡ i)) ⊎ (first_of off cols i c ≡ suc at)
        cases = next_is i (first_of off cols i c) at (begins ∙ ap (λ (x : ℕ). or_else x (i + 1)) first_now)

        low : at ≤ i
        low = go cases
          where
            go : ((first_of off cols i c ≡ 0) × (at ≡ i)) ⊎ (first_of off cols i c ≡ suc at) → at ≤ i
            go (inl z) = omega (arith, z.1)
            go (inr z) = omega (arith, (first_has off cols i c at z).1)

        stands : at < i → is_stored off cols i at ≡ true
        unfolding links
        stands l = go cases
          where
            go : ((first_of off cols i c ≡ 0) × (at ≡ i)) ⊎ (first_of off cols i c ≡ suc at) → is_stored off cols i at ≡ true
            go (inl z) = absurd (omega (arith, z.1))
            go (inr z) = (filled_links off cols).seeds i at l (link_of off cols i at c holds z)

        pub climb_asks : Climbing i at mark parent column e d
        climb_asks = record { st = is_stored off cols; E = count_e off cols i; D = count_d off cols i; turn = arrive v.turn at low stands }

        module _ {mark' parent' column' seen' : List ℕ} (first' : List ℕ) {e' d' r : ℕ} (w : Climbed i at i mark parent column mark' parent' column' e d e' d') (counts : seen' ≡ set seen c (get_or seen c 0 + 1)) (adds : r ≡ get_or seen c 0 + 1)
            (adopts : Adopts first first' c (i + 1)) (len : length first' ≡ length first) where
          reach : (j : ℕ) → linked (first_of off cols i) (take q (row off cols i) ++ (c ∷ [])) j ≡ true → met mark' i j ≡ true
          reach j h = go (or_out (linked (first_of off cols i) (take q (row off cols i)) j) (eqb (first_of off cols i c) (suc j)) (sym (linked_last (first_of off cols i) (take q (row off cols i)) c j) ∙ h))
            where
              go : (linked (first_of off cols i) (take q (row off cols i)) j ≡ true) ⊎ (eqb (first_of off cols i c) (suc j) ≡ true) → met mark' i j ≡ true
              go (inl a) = w.keeps j (v.reached j a)
              go (inr y) = end (w.reaches (omega (arith, at_j, (first_has off cols i c j z).1)))
                where
                  z : first_of off cols i c ≡ suc j
                  z = eqb-true (first_of off cols i c) (suc j) y

                  at_j : at ≡ j
                  at_j = omega (arith, begins ∙ ap (λ (x : ℕ). or_else x (i + 1)) (first_now ∙ z))

                  end : (met mark' i at ≡ true) ⊎ (at ≡ i) → met mark' i j ≡ true
                  end (inl b) = sym (ap (met mark' i) at_j) ∙ b
                  end (inr b) = absurd (omega (arith, at_j, (first_has off cols i c j z).1))

          has_now : (x : ℕ) (t : Bool) → eqb x c ≡ t → has (take (q + 1) (row off cols i)) x ≡ has (take q (row off cols i)) x || t
          has_now x t z = ap (λ (l : List ℕ). has l x) longer ∙ has_last (take q (row off cols i)) c x ∙ ap (λ (b : Bool). has (take q (row off cols i)) x || b) z

          has_here : (x : ℕ) → x ≡ c → has (take (q + 1) (row off cols i)) x ≡ true
          has_here x z = has_now x true (eq-eqb x c z) ∙ or_right (has (take q (row off cols i)) x) true refl

          has_there : (x : ℕ) → (x ≡ c → ⊥) → has (take (q + 1) (row off cols i)) x ≡ has (take q (row off cols i)) x
          has_there x n = has_now x false (ne_eqb x c n) ∙ or_nil (has (take q (row off cols i)) x)

          pub row_turn : Row off cols i rows columns mark' parent' column' seen' first' e' (s + r) d' (q + 1)
          row_turn = record {
            marks = w.size ∙ v.marks;
            seens = ap length counts ∙ length-set seen c (get_or seen c 0 + 1) ∙ v.seens;
            firsts = len ∙ v.firsts;
            up_to = omega (arith, hq);
            turn = w.turns (is_stored off cols) (count_e off cols i) (count_d off cols i) (arrive v.turn at low stands);
            reached = λ j h. reach j (sym (ap (λ (l : List ℕ). linked (first_of off cols i) l j) longer) ∙ h);
            seen_at = λ x h. ap (λ (l : List ℕ). get_or l x 0) counts ∙ seen_at_lem x h (ℕ_discrete x c);
            first_at = λ x h. adopts x ∙ first_at_lem x h (ℕ_discrete x c);
            shared =
                omega (
                  arith,
                  v.shared,
                  ap (λ (l : List ℕ). total l (rows_with off cols (suc i))) longer,
                  total_last (take q (row off cols i)) c (rows_with off cols (suc i)),
                  rows_next off cols i c,
                  ap one holds,
                  seen_now,
                );
            small = omega (arith, v.small, seen_grown);
          }
            where
              seen_at_lem : (x : ℕ) → x < columns → Dec (x ≡ c) → get_or (set seen c (get_or seen c 0 + 1)) x 0 ≡ rows_with off cols i x + one (has (take (q + 1) (row off cols i)) x)
              seen_at_lem x h (yes z) =
                  ap (λ (y : ℕ). get_or (set seen c (get_or seen c 0 + 1)) y 0) z
                  ∙ get_or-set_same seen c (get_or seen c 0 + 1) 0 seen_asks.0
                  ∙ omega (arith, seen_now, ap (rows_with off cols i) z, ap one (has_here x z))
              seen_at_lem x h (no n) = get_or-set_other seen c x (get_or seen c 0 + 1) 0 n ∙ v.seen_at x h ∙ ap (λ (b : Bool). rows_with off cols i x + one b) (sym (has_there x n))

              first_at_lem : (x : ℕ) → x < columns → Dec (x ≡ c)
                  → cond (eqb x c) (or_else (get_or first c 0) (i + 1)) (get_or first x 0) ≡ or_else (first_of off cols i x) (cond (has (take (q + 1) (row off cols i)) x) (suc i) 0)
              first_at_lem x h (yes z) =
                  ap (λ (b : Bool). cond b (or_else (get_or first c 0) (i + 1)) (get_or first x 0)) (eq-eqb x c z)
                  ∙ ap₂ or_else (first_now ∙ sym (ap (first_of off cols i) z)) (add-one i)
                  ∙ sym (ap (λ (b : Bool). or_else (first_of off cols i x) (cond b (suc i) 0)) (has_here x z))
              first_at_lem x h (no n) =
                  ap (λ (b : Bool). cond b (or_else (get_or first c 0) (i + 1)) (get_or first x 0)) (ne_eqb x c n)
                  ∙ v.first_at x h
                  ∙ sym (ap (λ (b : Bool). or_else (first_of off cols i x) (cond b (suc i) 0)) (has_there x n))

    -- ---- the whole row
    module _ (all : q ≡ length (row off cols i)) where
      whole : take q (row off cols i) ≡ row off cols i
      whole = ap (λ (k : ℕ). take k (row off cols i)) all ∙ take-length (row off cols i)

      -- every row met along parents is marked
      marked : (k : ℕ) → Along (is_stored off cols) (links off cols) i k → met mark i k ≡ true
      unfolding links
      marked k (from l h) = v.reached k (ap (λ (x : List ℕ). linked (first_of off cols i) x k) whole ∙ h)
      marked k (up {k = c} a p l) = go (v.turn.closed c k (marked c a) (parent_found (is_stored off cols) i c k p l))
        where
          go : (met mark i k ≡ true) ⊎ (k ≡ i) → met mark i k ≡ true
          go (inl b) = b
          go (inr z) = absurd (omega arith)

      met_stored : (k : ℕ) → k < i → met mark i k ≡ is_stored off cols i k
      met_stored k l =
          same_if (met mark i k) (is_stored off cols i k) (λ h. (v.turn.sound k h).1)
          (λ h. marked k ((along (is_stored off cols) (links off cols) (filled_links off cols) i k l).0 h))

      met_is : (k : ℕ) → met mark i k ≡ ltb k i && is_stored off cols i k
      met_is k = go (dec_lt k i)
        where
          go : Dec (k < i) → met mark i k ≡ ltb k i && is_stored off cols i k
          go (yes l) = met_stored k l ∙ sym (ap (λ (b : Bool). b && is_stored off cols i k) (lt-ltb k i l))
          go (no n) = false_from_ne_true (met mark i k) (λ h. n (v.turn.sound k h).0) ∙ sym (ap (λ (b : Bool). b && is_stored off cols i k) (le-ltb k i (omega arith)))

      diagonal : is_stored off cols i i ≡ true
      unfolding is_stored
      diagonal = stored_diag (neighbours off cols) i i refl

      first_next : (c : ℕ) → or_else (first_of off cols i c) (cond (has (take q (row off cols i)) c) (suc i) 0) ≡ first_of off cols (suc i) c
      unfolding first_of
      first_next c = ap (λ (l : List ℕ). or_else (first_of off cols i c) (cond (has l c) (suc i) 0)) whole

      row_done : Rows off cols (suc i) mark parent column seen first (e + 1) s d
      row_done = record {
        parents = v.turn.parents;
        columns = v.turn.columns;
        firsts = v.firsts ∙ sym v.seens;
        old = λ k. omega (arith, v.turn.old k);
        parent_at = λ k h. v.turn.parent_at k h ∙ ap (λ (b : Bool). or_else (parent_of (is_stored off cols) i k) (cond b (suc i) 0)) (met_is k) ∙ sym (parent_next (is_stored off cols) i k);
        column_at = λ k h. v.turn.column_at k h ∙ ap (λ (b : Bool). entries_in (is_stored off cols) i k + one b) (met_is k) ∙ sym (entries_next (is_stored off cols) i k);
        seen_at = λ c h. v.seen_at c (omega (arith, h, v.seens)) ∙ ap (λ (l : List ℕ). rows_with off cols i c + one (has l c)) whole ∙ sym (rows_next off cols i c);
        first_at = λ c h. v.first_at c (omega (arith, h, v.seens)) ∙ first_next c;
        entries =
            omega (
              arith,
              v.turn.entries,
              E-next off cols i,
              ap one diagonal,
              sum_ext i (λ k. one (met mark i k)) (λ k. one (is_stored off cols i k)) (λ k l. ap one (met_stored k l)),
            );
        shared = omega (arith, v.shared, S-next off cols i, ap (λ (l : List ℕ). total l (rows_with off cols (suc i))) whole);
        products =
            omega (
              arith,
              v.turn.products,
              D-next off cols i,
              sum_ext i (λ k. cond (met mark i k) (entries_in (is_stored off cols) i k + 1) 0) (λ k. cond (is_stored off cols i k) (entries_in (is_stored off cols) i k + 1) 0)
                  (λ k l. ap (λ (b : Bool). cond b (entries_in (is_stored off cols) i k + 1) 0) (met_stored k l)),
            );
        small = omega (arith, v.small, row_le off cols i, fit.short);
      }

      pub row_end : Rows off cols (i + 1) mark parent column seen first (e + 1) s d
      row_end = subst (λ (k : ℕ). Rows off cols k mark parent column seen first (e + 1) s d) (sym (add-one i)) row_done

-- ---- all rows
pub rows_start : (off cols : List ℕ) (rows columns : ℕ) → Rows off cols 0 (replicate rows 0) (replicate rows 0) (replicate rows 0) (replicate columns 0) (replicate columns 0) 0 0 0
unfolding first_of
rows_start off cols rows columns = record {
  parents = refl;
  columns = refl;
  firsts = refl;
  old = λ k. omega (arith, zeros rows k);
  parent_at = λ k h. zeros rows k ∙ sym (parent_zero (is_stored off cols) k);
  column_at = λ k h. zeros rows k ∙ sym (entries_zero (is_stored off cols) k);
  seen_at = λ c h. zeros columns c ∙ sym (rows_zero off cols c);
  first_at = λ c h. zeros columns c;
  entries = sym (E-zero off cols);
  shared = sym (S-zero off cols);
  products = sym (D-zero off cols);
  small = omega arith;
}

pub fits : {off cols : List ℕ} {m rows columns i : ℕ} → Countable off cols m rows columns → i < m → Fit off cols i rows columns
fits {off} {cols} {m} {rows} {columns} {i} ok l = record {
  few = omega (arith, ok.csr.few);
  room = omega (arith, ok.room);
  short = ok.short;
  is = row_of off cols m i columns ok.csr l (ok.within i l);
}

pub countable : {off cols : List ℕ} {m n : ℕ} (rows columns : ℕ) → Accepted off cols m n → m ≤ rows → n ≤ columns → Countable off cols m rows columns
countable {off} {cols} {m} {n} rows columns ok h g = record {
  csr = ok.csr;
  short = ok.offsets.few;
  room = h;
  within = λ i l. below_more n columns (row off cols i) g (ok.within i l);
}
