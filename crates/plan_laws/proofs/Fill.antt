-- The memory while the factor is filled: its first e entries are the machine's on the memory's own numbers. Assumes nothing.
use mathlib.Core.Path.{◌≡◌, refl, sym, ap, ◌∙◌, subst}
use mathlib.Core.Logic.{inl, inr, ⊎_elim}
use mathlib.Core.Bool.{true}
use mathlib.Core.List.{List}
use Prim.Native.Nat.{ℕ, suc, ◌+◌, ◌*◌, ◌<◌, ◌≤◌}
use native.Mathlib.Omega.{arith}
use native.Mathlib.Decide.{ℕ_discrete}
use lib.ListN.{length, get_or}
use lib.Ieee.{Float}
use Rattle.base.specs.Sums.{sum, one}
use Rattle.csr.specs.Counts.{count_e, is_stored}
use Rattle.base.proofs.Sums.{sum_ext}
use Rattle.lists.specs.Lists.{Shape, shape, lplace, before as upto, list_of}
use Rattle.lists.specs.declared.Which.TheVariants.{Lindptr, Lindices}
use Rattle.lanes.specs.Lists.{at}
use Rattle.lanes.specs.Lanes.{put, cell as here, On, room}
use Rattle.lanes.specs.Region.{reg, Kept, Apart, before}
use Rattle.lanes.proofs.Regions.{places_le, places_lt, room_in, reg_at, other_cell, kept_none, kept_put, kept_apart, cell_put_same, get_d_put_other}
use Rattle.machine.specs.Machine.{Problem, State, in_factor, factor_entry, factor, cell}
use Rattle.machine.specs.Work.{problem_of}
use Rattle.plan_laws.specs.Factoring.{Given, Stands, Factored, state_in, entries}
use Rattle.plan_laws.proofs.Ranks.{lplace_lt, lplace_down, lplace_start}
use Rattle.plan_laws.proofs.Picks.{held_factor}
use Rattle.layout.specs.declared.Plan.{Plan}
use Rattle.layout.specs.Layout.{y_at, w_at, l_at}
use Rattle.layout.specs.Lists.{lindptr_in, lindices_in}
use Rattle.lists.proofs.Counts.{held_stored}
use Rattle.plan_laws.proofs.Turn.{entry_room}
use Rattle.plan_laws.proofs.Entry.{stored_is}
use Rattle.plan_laws.proofs.Loop.{turn, same_pair, stands, stands_in, row_start, row_end, row_end_in}

-- a part of a region
pub kept_part : {width : ℕ} (o a b : ℕ) {n : ℕ} {old new : List Float} → Kept width (o + a) b old new → a + b ≤ n → Kept width o n old new
kept_part {width} o a b {n} w h = record {
  size = w.size;
  outside = λ j p.
      w.outside j (⊎_elim (λ q. inl (omega (arith, places_le width {o = o} {k = o + a} (omega arith)))) (λ q. inr (omega (arith, places_le width {o = o + a + b} {k = o + n} (omega arith)))) p);
}

-- one more entry is put
pub kept_more : {width : ℕ} (k : ℕ) (v : List Float) {o n : ℕ} {old new new' : List Float} → Kept width o n old new → o ≤ k → k < o + n → new' ≡ put width new k v → Kept width o n old new'
kept_more k v w a b p = rw p (kept_put w k v a b)

-- the same entries, and the same numbers
pub filled_at : {width : ℕ} {A : Problem} {q : ℕ → State} {lo e e' : ℕ} {work : List Float} → e ≡ e' → Factored width A q lo e' work → Factored width A q lo e work
filled_at {width} {A} {q} {lo} {e} {e'} {work} z f = subst (λ (k : ℕ). Factored width A q lo k work) (sym z) f

pub filled_same : {width : ℕ} {A : Problem} {p q : ℕ → State} {lo e : ℕ} {work : List Float} → ((l : ℕ) → l < width → p l ≡ q l) → Factored width A p lo e work → Factored width A q lo e work
filled_same {width} {A} h f = record { within = λ l i j b r c t u. f.within l i j b r c t u ∙ ap (λ (q : State). cell (factor A q) i j) (h l b) }

-- a region elsewhere is written
pub filled_still : {width : ℕ} {A : Problem} {q : ℕ → State} {lo e o k : ℕ} {old new : List Float} → Kept width o k old new → Apart lo e o k → Factored width A q lo e old → Factored width A q lo e new
filled_still {width} {A} {q} {lo} {e} {o} {k} {old} W a f = record {
  within = λ l i j b r c t u.
      let p = lplace (shape A.off A.cols) i j in
      other_cell W a p u l b ∙ reg_at width old lo e l p u ∙ f.within l i j b r c t u;
}

module _ {width : ℕ} {off cols : List ℕ} {vals old : List Float} {p : Plan} {index : List ℕ} (G : Given width off cols vals p index old) where
  abbrev m : ℕ
  m = p.m

  abbrev lo : ℕ
  lo = l_at p.n p.m p.s

  abbrev lindptr : List ℕ
  lindptr = lindptr_in p index

  abbrev lindices : List ℕ
  lindices = lindices_in p index

  abbrev g : Shape
  g = shape off cols

  abbrev E : ℕ
  E = p.stored

  -- what is given of the memory is given of it later too
  pub given_still : (new : List Float) → room width new ≡ room width old → Given width off cols vals p index new
  given_still new k = record { prepared = G.prepared; indexed = G.indexed; wide = G.wide; fits = omega (arith, G.fits, k) }

  -- ---- which entry is which
  pub lindptr_room : {i : ℕ} → i < m → i + 1 < length lindptr
  lindptr_room {i} h = rw G.prepared.lindptr (row_end_in off cols m i h)

  pub lindptr_at : (i : ℕ) → i ≤ m → get_or lindptr i 0 ≡ lplace g i 0
  lindptr_at i h = rw G.prepared.lindptr (row_start off cols m i h)

  -- a row starts at its end or before, and ends within the factor
  pub lindptr_up : {i : ℕ} → i < m → get_or lindptr i 0 ≤ get_or lindptr (i + 1) 0
  lindptr_up {i} h = omega (arith, lindptr_at i (omega arith), lindptr_at (i + 1) (omega arith), lplace_down g i (i + 1) (omega arith))

  pub lindptr_within : {i : ℕ} → i ≤ m → get_or lindptr i 0 ≤ E
  lindptr_within {i} h = omega (arith, lindptr_at i h, lplace_down g i m h, stored_is G)

  next : {i : ℕ} → i < m → lplace g (suc i) 0 ≡ get_or lindptr (i + 1) 0
  next {i} h = rw G.prepared.lindptr (sym (row_end off cols m i h))

  -- entry e of row i, before the row's end: its column is on the list, and stands there
  pub lindices_next : {i e : ℕ} → i < m → get_or lindptr i 0 ≤ e → e < get_or lindptr (i + 1) 0 → e < length lindices
  lindices_next {i} {e} h a b = rw G.prepared.lindices (stands_in off cols m i h e (omega (arith, lindptr_at i (omega arith))) (omega (arith, next h)))

  pub stands_next : {i j e : ℕ} → i < m → get_or lindptr i 0 ≤ e → e < get_or lindptr (i + 1) 0 → j ≡ get_or lindices e 0 → Stands off cols m i j e
  stands_next {i} {j} {e} h a b c =
      let d : j ≡ get_or (list_of g Lindices m) e 0 = c ∙ ap (λ (t : List ℕ). get_or t e 0) G.prepared.lindices in
      subst (λ (t : ℕ). Stands off cols m i t e) (sym d) (stands off cols m i h e (omega (arith, lindptr_at i (omega arith))) (omega (arith, next h)))

  pub put_room : {i j e : ℕ} → Stands off cols m i j e → lo + e < room width old
  put_room {i} {j} {e} st = omega (arith, entry_room m p.n p.s off cols vals G.prepared.ok i j e st, G.fits, stored_is G)

  -- ---- the loop: the factor's first e entries are the machine's, on the memory's own numbers
  abbrev A : Problem
  A = problem_of m p.n p.s off cols vals

  abbrev Filled : ℕ → List Float → Type 0
  Filled e work = Factored width A (λ l. state_in width p work l) lo e work

  pub filled_none : Filled (get_or lindptr 0 0) old
  filled_none = record { within = λ l i j b h c t u. absurd (omega (arith, lindptr_at 0 (omega arith), lplace_start g 0)) }

  -- what the factor is worked out of stays
  pub state_kept : {new : List Float} → Kept width lo E old new → (l : ℕ) → l < width → state_in width p new l ≡ state_in width p old l
  state_kept W l b = rw (kept_apart W x_apart l b, kept_apart W z_apart l b, kept_apart W y_apart l b, kept_apart W w_apart l b) refl
    where
      x_apart : Apart 0 p.n lo E
      x_apart = before (omega arith)

      z_apart : Apart p.n p.n lo E
      z_apart = before (omega arith)

      y_apart : Apart (y_at p.n) p.m lo E
      y_apart = before (omega arith)

      w_apart : Apart (w_at p.n p.m) p.s lo E
      w_apart = before (omega arith)

  -- THE TURN: entry e is put
  pub filled_more : {i j e : ℕ} {v new : List Float} → Filled e old → Stands off cols m i j e
      → On width v (λ l. factor_entry A (state_in width p old l) (λ a b. here width old (lo + lplace g a b) l) i j)
      → new ≡ put width old (lo + e) v
      → Filled (e + 1) new
  filled_more {i} {j} {e} {v} {new} f st ev en = record {
    within = λ l a b c h d t u.
        entry l c a b h d (sym (held_factor off cols a b d) ∙ (unfold in_factor in t)) t u (ℕ_discrete (lplace g a b) e)
        ∙ ap (λ (q : State). cell (factor A q) a b) (sym (state_kept W l c));
  }
    where
      W : Kept width lo E old new
      W = rw en (kept_put (kept_none width lo E old) (lo + e) v (omega arith) (omega (arith, entry_room m p.n p.s off cols vals G.prepared.ok i j e st, stored_is G)))

      is : On width v (λ l. cell (factor A (state_in width p old l)) i j)
      is = turn m p.n p.s off cols vals width (λ l. state_in width p old l) old lo i j e st f v ev

      entry : (l : ℕ) → l < width → (a b : ℕ) → a < m → b ≤ a → g.held a b ≡ true → in_factor A a b ≡ true → lplace g a b < e + 1 → Dec (lplace g a b ≡ e)
          → here width new (lo + lplace g a b) l ≡ cell (factor A (state_in width p old l)) a b
      entry l c a b h d k t u (yes r) =
          let p = same_pair g m a b i j h d k st.row st.low st.held (r ∙ st.at) in
          rw (r, en, p.0, p.1) (cell_put_same width old (lo + e) v (room_in width old (lo + e) (put_room st)) l c ∙ is.lane l c)
      entry l c a b h d k t u (no r) =
          rw en (get_d_put_other width old (lo + e) v (width * (lo + lplace g a b) + l) (inl (omega (arith, places_lt width {k = lo + lplace g a b} {m = lo + e} (omega arith)))) ∙ f.within l a b c h d t (omega arith))

-- ---- what the factor's region holds, by the plan's rows: place k of row i is the entry of the column that the list names there
pub factor_held : {width : ℕ} {off cols : List ℕ} {vals work : List Float} {m n s lo : ℕ} {q : ℕ → State} → Factored width (problem_of m n s off cols vals) q lo (entries off cols m) work
    → (l : ℕ) → l < width → (i : ℕ) → i < m → (k : ℕ)
    → get_or (list_of (shape off cols) Lindptr m) i 0 ≤ k
    → k < get_or (list_of (shape off cols) Lindptr m) (i + 1) 0
    → at (reg width work lo (entries off cols m) l) k ≡ cell (factor (problem_of m n s off cols vals) (q l)) i (get_or (list_of (shape off cols) Lindices m) k 0)
factor_held {width} {off} {cols} {vals} {work} {m} {n} {s} {lo} {q} F l b i h k from to =
    reg_at width work lo (entries off cols m) l k (omega (arith, st.at, below))
    ∙ ap (λ (e : ℕ). here width work (lo + e) l) st.at
    ∙ F.within l i j b h st.low (unfold in_factor in held_factor off cols i j st.low ∙ st.held) below
  where
    g : Shape
    g = shape off cols

    j : ℕ
    j = get_or (list_of (shape off cols) Lindices m) k 0

    st : Stands off cols m i j k
    st = stands off cols m i h k (subst (λ (a : ℕ). a ≤ k) (row_start off cols m i (omega arith)) from) (subst (λ (a : ℕ). k < a) (row_end off cols m i h) to)

    below : lplace g i j < entries off cols m
    below = lplace_lt g i j m h st.low st.held

-- the factor has E entries
pub entries_count : (off cols : List ℕ) (m : ℕ) → entries off cols m ≡ count_e off cols m
unfolding lplace upto sum count_e is_stored
entries_count off cols m =
    let e = sum_ext m (λ i. sum (suc i) (λ j. one ((shape off cols).held i j))) (λ i. sum (suc i) (λ j. one (is_stored off cols i j)))
    (λ i h. sum_ext (suc i) (λ j. one ((shape off cols).held i j)) (λ j. one (is_stored off cols i j))
    (λ j b. ap one (held_stored off cols i j (omega arith)))) in
    omega (arith, e)
