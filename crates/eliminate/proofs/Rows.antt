-- The loop over the rows: the factor's row, then the entry of the forward substitution. Assumes nothing.
use mathlib.Core.Path.{◌≡◌, refl, sym, ap, ap₂, ◌∙◌, subst}
use mathlib.Core.Logic.{◌⊎◌, inl, inr}
use mathlib.Core.List.{List, [], ◌∷◌, ◌++◌}
use Prim.Native.Nat.{ℕ, zero, suc, ◌+◌, ◌-◌, ◌*◌, ◌/◌, ◌≤◌, ◌<◌}
use native.Mathlib.Omega.{arith}
use native.Mathlib.Numerals.{add-one}
use lib.ListN.{length, get_or}
use lib.Ieee.{Float}
use Rattle.lanes.specs.Lists.{at, grow}
use Rattle.lanes.specs.Arithmetic.{◌⊖◌, ◌⊗◌, ◌⊘◌}
use Rattle.lanes.specs.Lanes.{put, On, room}
use Rattle.lanes.specs.Region.{reg, Kept, Fills, Grows, Apart, before, after}
use Rattle.lanes.proofs.Regions.{places_le, places_lt, kept_room, reg_at, reg_none, reg_same, kept_none, kept_wider, kept_apart, apart_front}
use Rattle.lanes.proofs.Quads.{grows_turn, ◌▹◌}
use Rattle.machine.specs.Machine.{Problem}
use Rattle.lanes.proofs.Lists.{fold_same}
use Rattle.base.specs.Numbers.{cut}
use Rattle.base.proofs.Numbers.{cut_length}
use Rattle.sparse.specs.Sparse.{less_each, front_at, front, Low, High}
use Rattle.layout.specs.declared.Plan.{Plan}
use Rattle.layout.specs.Layout.{y_at, dy_at, rhs_at, w_at, l_in}
use Rattle.layout.specs.Lists.{lindptr_in, lindices_in, ltindptr_in, ltindices_in, ltmap_in}
use Rattle.plan_laws.specs.Factoring.{Given, Factored, state_in}
use Rattle.plan_laws.proofs.Entry.{count, stored_is}
use Rattle.plan_laws.proofs.Fill.{given_still, kept_part, filled_none, filled_at, filled_same, filled_still, lindptr_at, lindptr_up, lindptr_within}
use Rattle.plan_laws.proofs.Follows.{low_for, high_for}
use Rattle.memory.specs.Planned.{problem_in}
use Rattle.factor.specs.Row.{FilledTo, factor_in, side_in, solved_in, RowDue}
use Rattle.eliminate.specs.Elimination.{KeptTwo, BackIn, back_all, Forwarded, Solves}

-- ---- two regions

apart_other : {p m o n : ℕ} → Apart p m o n → Apart o n p m
apart_other (before h) = after h
apart_other (after h) = before h

outside : {width p k o n : ℕ} → Apart p k o n → (e l : ℕ) → e < k → l < width → (width * (p + e) + l < width * o) ⊎ (width * (o + n) ≤ width * (p + e) + l)
outside {width} {p} {k} {o} {n} (before h) e l a b = inl (omega (arith, places_lt width {k = p + e} {m = o} (omega arith)))
outside {width} {p} {k} {o} {n} (after h) e l a b = inr (omega (arith, places_le width {o = o + n} {k = p + e} (omega arith)))

-- a region that lies elsewhere is as it was
pub two_apart : {width o n p k : ℕ} {old new : List Float} → KeptTwo width o n p k old new → {r e : ℕ} → Apart r e o n → Apart r e p k → (l : ℕ) → l < width → reg width new r e l ≡ reg width old r e l
two_apart {width} {o} {n} {p} {k} {old} {new} w {r} {e} a b l h =
    reg_same width new old r e l (λ i c. w.outside (width * (r + i) + l) (outside a i l c h) (outside b i l c h))

pub two_room : {width o n p k : ℕ} {old new : List Float} → KeptTwo width o n p k old new → room width new ≡ room width old
unfolding room
two_room {width} w = ap (λ (n : ℕ). n / width) w.size

two_none : {width o n p k : ℕ} {ws : List Float} → KeptTwo width o n p k ws ws
two_none = record { size = refl; outside = λ j a b. refl }

two_first : {width o n p k : ℕ} {a b c : List Float} → KeptTwo width o n p k a b → Kept width o n b c → KeptTwo width o n p k a c
two_first u w = record { size = w.size ∙ u.size; outside = λ j h g. w.outside j h ∙ u.outside j h g }

two_second : {width o n p k : ℕ} {a b c : List Float} → KeptTwo width o n p k a b → Kept width p k b c → KeptTwo width o n p k a c
two_second u w = record { size = w.size ∙ u.size; outside = λ j h g. w.outside j g ∙ u.outside j h g }

-- ---- an entry of the forward substitution reads its own row of the factor alone
module _ {m : ℕ} (ptr ind : List ℕ) (L : Low m ptr ind) (u v f : List Float) where
  entry_same : (i : ℕ) → i < m → ((k : ℕ) → k < get_or ptr (i + 1) 0 → at u k ≡ at v k) → (d : List Float) → front_at ptr ind u f d i ≡ front_at ptr ind v f d i
  unfolding front_at less_each
  entry_same i h e d =
      let r = L.rises i h in
      let z = L.ends i h in
      let a = get_or ptr i 0 in
      let b = get_or ptr (i + 1) 0 - 1 in
      let n = cut_length a b ind (omega arith) in
      ap₂ (λ (p q : Float). p ⊘ q)
      (fold_same (length (cut a b ind)) (λ k r. r ⊖ at d (get_or (cut a b ind) k 0) ⊗ at u (a + k)) (λ k r. r ⊖ at d (get_or (cut a b ind) k 0) ⊗ at v (a + k)) (at f i)
      (λ k c r. ap (λ (t : Float). r ⊖ at d (get_or (cut a b ind) k 0) ⊗ t) (e (a + k) (omega (arith, n)))))
      (e b (omega arith))

  entries_same : (i : ℕ) → i ≤ m → ((k : ℕ) → k < get_or ptr i 0 → at u k ≡ at v k) → grow i (front_at ptr ind u f) ≡ grow i (front_at ptr ind v f)
  unfolding grow
  entries_same zero h e = refl
  entries_same (suc i) h e =
      let r = L.rises i (omega arith) in
      let e' : (k : ℕ) → k < get_or ptr (i + 1) 0 → at u k ≡ at v k = rw (add-one i) e in
      ap₂ (λ (p : List Float) (q : Float). p ++ (q ∷ [])) (entries_same i (omega arith) (λ k b. e' k (omega arith)))
      (ap (λ (p : List Float). front_at ptr ind u f p i) (entries_same i (omega arith) (λ k b. e' k (omega arith))) ∙ entry_same i (omega arith) e' (grow i (front_at ptr ind v f)))

-- ---- the loop

-- i rows are done: their entries of the factor are the machine's on the memory's own numbers, and their entries of the forward substitution stand
pub record Done (width : ℕ) (off cols : List ℕ) (vals : List Float) (p : Plan) (index : List ℕ) (old : List Float) (i : ℕ) (work : List Float) : Type 0 where
  pub kept : KeptTwo width (l_in p) p.stored (dy_at p.n p.m) p.m old work
  pub filled : FilledTo width off cols vals p work (get_or (lindptr_in p index) i 0)
  pub solved : (l : ℕ) → l < width → solved_in width p work i l ≡ grow i (front_at (lindptr_in p index) (lindices_in p index) (factor_in width p work l) (side_in width p old l))

module _ {width : ℕ} {off cols : List ℕ} {vals old : List Float} {p : Plan} {index : List ℕ} (G : Given width off cols vals p index old) where
  abbrev A : Problem
  A = problem_in p off cols vals

  abbrev m : ℕ
  m = p.m

  abbrev E : ℕ
  E = p.stored

  abbrev lo : ℕ
  lo = l_in p

  abbrev d : ℕ
  d = dy_at p.n p.m

  abbrev f : ℕ
  f = rhs_at p.n p.m

  abbrev lindptr : List ℕ
  lindptr = lindptr_in p index

  abbrev lindices : List ℕ
  lindices = lindices_in p index

  abbrev Loop : ℕ → List Float → Type 0
  Loop i work = Done width off cols vals p index old i work

  -- the regions lie apart
  x_apart : Apart 0 p.n d m
  x_apart = before (omega arith)

  z_apart : Apart p.n p.n d m
  z_apart = before (omega arith)

  y_apart : Apart (y_at p.n) m d m
  y_apart = before (omega arith)

  w_apart : Apart (w_at p.n m) p.s d m
  w_apart = after (omega arith)

  f_apart : Apart f m d m
  f_apart = after (omega arith)

  l_apart : Apart lo E d m
  l_apart = after (omega arith)

  f_factor : Apart f m lo E
  f_factor = before (omega arith)

  -- the numbers stay where nothing but the solution's entries is written, and where the factor's are written too
  state_still : {k : ℕ} {a b : List Float} → k ≤ m → Kept width d k a b → (l : ℕ) → l < width → state_in width p b l ≡ state_in width p a l
  state_still h W l b =
      rw (kept_apart W (apart_front x_apart h) l b, kept_apart W (apart_front z_apart h) l b, kept_apart W (apart_front y_apart h) l b, kept_apart W (apart_front w_apart h) l b)
      refl

  state_two : {new : List Float} → KeptTwo width lo E d m old new → (l : ℕ) → l < width → state_in width p new l ≡ state_in width p old l
  state_two W l b = rw (two_apart W x_factor x_apart l b, two_apart W z_factor z_apart l b, two_apart W y_factor y_apart l b, two_apart W w_factor w_apart l b) refl
    where
      x_factor : Apart 0 p.n lo E
      x_factor = before (omega arith)

      z_factor : Apart p.n p.n lo E
      z_factor = before (omega arith)

      y_factor : Apart (y_at p.n) m lo E
      y_factor = before (omega arith)

      w_factor : Apart (w_at p.n m) p.s lo E
      w_factor = before (omega arith)

  pub done_none : Loop 0 old
  unfolding grow
  done_none = record { kept = two_none; filled = filled_none G; solved = λ l h. reg_none width old d l }

  -- THE TURN: row i of the factor, then entry i of the forward substitution
  pub done_more : {i : ℕ} {a b c v : List Float} → Loop i a → i < m
      → Kept width (lo + get_or lindptr i 0) (get_or lindptr (i + 1) 0 - get_or lindptr i 0) a b
      → Factored width A (λ l. state_in width p b l) lo (get_or lindptr (i + 1) 0) b
      → On width v (λ l. front_at lindptr lindices (reg width b lo E l) (reg width b f m l) (reg width b d i l) i)
      → c ≡ put width b (d + i) v
      → Loop (i + 1) c
  done_more {i} {a} {b} {c} {v} R h K F ev ep = record {
    kept = two_second (two_first R.kept wide) (kept_wider turn.kept (omega arith));
    filled = filled_same (λ l z. sym (state_still (omega arith) turn.kept l z)) (filled_still turn.kept (apart_front (front_of l_apart) (omega arith)) F);
    solved = λ l z. turn.within l z ∙ ap₂ (λ (p q : List Float). grow (i + 1) (front_at lindptr lindices p q)) (sym (kept_apart turn.kept (apart_front l_apart (omega arith)) l z)) (side l z);
  }
    where
      ends : get_or lindptr (i + 1) 0 ≤ E
      ends = lindptr_within G {i = i + 1} (omega arith)

      up : get_or lindptr i 0 ≤ get_or lindptr (i + 1) 0
      up = lindptr_up G h

      front_of : Apart lo E d m → Apart lo (get_or lindptr (i + 1) 0) d m
      front_of p = apart_other (apart_front (apart_other p) ends)

      wide : Kept width lo E a b
      wide = kept_part lo (get_or lindptr i 0) (get_or lindptr (i + 1) 0 - get_or lindptr i 0) K (omega (arith, ends, up))

      -- the right-hand side is as it was, and so is the factor before row i
      side : (l : ℕ) → l < width → reg width b f m l ≡ reg width old f m l
      side l z = kept_apart wide f_factor l z ∙ two_apart R.kept f_factor f_apart l z

      same : (l : ℕ) → l < width → (k : ℕ) → k < get_or lindptr i 0 → at (reg width a lo E l) k ≡ at (reg width b lo E l) k
      same l z k b' =
          reg_at width a lo E l k (omega (arith, ends, up)) ∙ sym (K.outside (width * (lo + k) + l) (inl (omega (arith, places_lt width {k = lo + k} {m = lo + get_or lindptr i 0} (omega arith))))) ∙ sym (reg_at width b lo E l k (omega (arith, ends, up)))

      sofar : Grows width d i (λ l. front_at lindptr lindices (reg width b lo E l) (reg width b f m l)) b b
      sofar = record {
        kept = kept_none width d i b;
        within = λ l z.
            kept_apart wide (apart_other (apart_front l_apart (omega arith))) l z
            ∙ R.solved l z
            ∙ entries_same lindptr lindices (low_for G.prepared).ranges (reg width a lo E l) (reg width b lo E l) (reg width old f m l) i (omega arith) (same l z)
            ∙ ap (λ (p : List Float). grow i (front_at lindptr lindices (reg width b lo E l) p)) (sym (side l z));
      }

      turn : Grows width d (i + 1) (λ l. front_at lindptr lindices (reg width b lo E l) (reg width b f m l)) b c
      turn =
          grows_turn sofar (omega (arith, G.fits, two_room R.kept, kept_room K))
          (ev ▹
          (λ l z. ap (λ (p : List Float). front_at lindptr lindices (reg width b lo E l) (reg width b f m l) p i) (sofar.within l z)))
          ep

  -- THE END: all rows are done
  pub done_all : {i : ℕ} {new : List Float} → Loop i new → i ≡ m → Forwarded width off cols vals p index old new
  unfolding front
  done_all {i} {new} R e =
      let R' : Loop m new = subst (λ (k : ℕ). Loop k new) e R in
      record {
        kept = R'.kept;
        factored = filled_at (stored_is G ∙ sym (lindptr_at G m (omega arith))) (filled_same (state_two R'.kept) R'.filled);
        within = R'.solved;
      }

  -- then the backward substitution
  pub solved_all : {a b : List Float} → Forwarded width off cols vals p index old a → Fills width d m (λ l. back_all width p index a l (solved_in width p a m l)) a b → Solves width off cols vals p index old b
  solved_all {a} {b} F B = record {
    kept = two_second F.kept B.kept;
    factored = filled_still B.kept l_apart F.factored;
    within = λ l z. B.within l z ∙ rw (F.within l z, kept_apart B.kept l_apart l z) refl;
  }

  -- row i is due where i rows are done
  pub due : {i : ℕ} {work : List Float} → Loop i work → i < m → RowDue width off cols vals p index work i
  due {i} {work} R h = record { given = given_still G work (two_room R.kept); row = h; filled = R.filled }

  -- what the backward substitution reads, in a memory of the same size
  pub back_in : {new : List Float} → room width new ≡ room width old → BackIn width p index new
  back_in k = record {
    columns = subst (λ (e : ℕ). High m e (ltindptr_in p index) (ltindices_in p index) (ltmap_in p index)) (count G) (high_for G.prepared).ranges;
    ends = λ i h. let a = (low_for G.prepared).ranges.rises i h in let b = (low_for G.prepared).ranges.ends i h in (omega arith, omega (arith, count G));
    indexed = G.indexed;
    fits = omega (arith, G.fits, k);
    wide = G.wide;
  }
