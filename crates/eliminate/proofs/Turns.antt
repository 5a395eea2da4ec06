-- An entry of the backward substitution; what its loop keeps, and a turn of it. Assumes nothing.
use mathlib.Core.Path.{◌≡◌, refl, sym, ap, ap₂, ◌∙◌}
use mathlib.Core.List.{List}
use Prim.Native.Nat.{ℕ, suc, ◌+◌, ◌-◌, ◌≤◌, ◌<◌}
use native.Mathlib.Omega.{arith}
use lib.ListN.{length, get_or, set}
use lib.Ieee.{Float, binary64, div}
use Rattle.lanes.specs.Lists.{at, fold}
use Rattle.lanes.specs.Arithmetic.{◌⊖◌, ◌⊗◌}
use Rattle.lanes.specs.Lanes.{each2, cell, put, On, Width, room}
use Rattle.lanes.specs.Region.{reg, Kept, Fills, Apart, after}
use Rattle.lanes.proofs.Regions.{room_all, kept_room, reg_put, kept_apart, kept_put, kept_none}
use Rattle.lanes.proofs.Lists.{fold_same}
use Rattle.lanes.proofs.Quads.{each_on, reg_cell, ◌▹◌}
use Rattle.base.specs.Numbers.{cut}
use Rattle.base.proofs.Numbers.{cut_length, cut_at}
use Rattle.sparse.specs.Sparse.{less_each, back_at, back, Names}
use Rattle.layout.specs.declared.Plan.{Plan}
use Rattle.layout.specs.Layout.{dy_at, l_in}
use Rattle.layout.specs.Lists.{ltindptr_in, ltindices_in, ltmap_in}
use Rattle.eliminate.specs.Elimination.{BackIn}

-- ---- backward

-- what an entry reads: as many places as rows, each in its region
pub record Reads (es ps : List ℕ) (m count : ℕ) : Type 0 where
  pub sizes : length ps ≡ length es
  pub rows : Names m es
  pub places : Names count ps

pub back_value : (width : ℕ) → Width width → (ptr tptr tind tmap : List ℕ) (work : List Float) (d lo m count i : ℕ) → i < m → get_or ptr (i + 1) 0 - 1 < count
    → Reads (cut (get_or tptr i 0 + 1) (get_or tptr (i + 1) 0) tind) (cut (get_or tptr i 0 + 1) (get_or tptr (i + 1) 0) tmap) m count → {b v p r : List Float}
    → On width b (cell width work (d + i))
    → On width v (λ l. less_each (cut (get_or tptr i 0 + 1) (get_or tptr (i + 1) 0) tind) (λ k. cell width work (lo + get_or (cut (get_or tptr i 0 + 1) (get_or tptr (i + 1) 0) tmap) k 0) l) (λ j. cell width work (d + j) l) (at b l))
    → On width p (cell width work (lo + (get_or ptr (i + 1) 0 - 1))) → r ≡ each2 (div binary64) v p
    → On width r (λ l. back_at ptr tptr tind tmap (reg width work lo count l) (reg width work d m l) i)
unfolding back_at less_each
back_value width W ptr tptr tind tmap work d lo m count i h g R {b} eb ev ep er =
    let es = cut (get_or tptr i 0 + 1) (get_or tptr (i + 1) 0) tind in
    let ps = cut (get_or tptr i 0 + 1) (get_or tptr (i + 1) 0) tmap in
    each_on W (div binary64) er
    (ev ▹ (λ l z.
    fold_same (length es) (λ k r. r ⊖ cell width work (d + get_or es k 0) l ⊗ cell width work (lo + get_or ps k 0) l) (λ k r. r ⊖ at (reg width work d m l) (get_or es k 0) ⊗ at (reg width work lo count l) (get_or ps k 0)) (at b l)
    (λ k c r. ap₂ (λ (u v : Float). r ⊖ u ⊗ v) (reg_cell width work d m (get_or es k 0) (R.rows k c) l z) (reg_cell width work lo count (get_or ps k 0) (R.places k (omega (arith, R.sizes))) l z))
    ∙ ap (fold (length es) (λ k r. r ⊖ at (reg width work d m l) (get_or es k 0) ⊗ at (reg width work lo count l) (get_or ps k 0))) (eb.lane l z ∙ reg_cell width work d m i h l z)))
    (ep ▹ reg_cell width work lo count (get_or ptr (i + 1) 0 - 1) g)

-- what is left to do from i down makes of the memory what all of it makes of the memory at the start
pub record Falls (width : ℕ) (ptr tptr tind tmap : List ℕ) (d lo m count : ℕ) (old new : List Float) (i : ℕ) : Type 0 where
  pub kept : Kept width d m old new
  pub reduced : (l : ℕ) → l < width → back ptr tptr tind tmap (reg width old lo count l) i (reg width new d m l) ≡ back ptr tptr tind tmap (reg width old lo count l) m (reg width old d m l)

pub falls_start : (width : ℕ) (ptr tptr tind tmap : List ℕ) (d lo m count : ℕ) (old : List Float) → Falls width ptr tptr tind tmap d lo m count old old m
falls_start width ptr tptr tind tmap d lo m count old = record { kept = kept_none width d m old; reduced = λ l h. refl }

back_one : (ptr tptr tind tmap : List ℕ) (lv : List Float) (i : ℕ) (d : List Float)
    → back ptr tptr tind tmap lv (suc i) d ≡ back ptr tptr tind tmap lv i (set d i (back_at ptr tptr tind tmap lv d i))
unfolding back
back_one ptr tptr tind tmap lv i d = refl

pub falls_turn : {width : ℕ} {ptr tptr tind tmap : List ℕ} {d lo m count : ℕ} {old new new' v : List Float} {j : ℕ} → Falls width ptr tptr tind tmap d lo m count old new j
    → 0 < j → j ≤ m → Apart lo count d m → d + m ≤ room width old
    → On width v (λ l. back_at ptr tptr tind tmap (reg width new lo count l) (reg width new d m l) (j - 1)) → new' ≡ put width new (d + (j - 1)) v
    → Falls width ptr tptr tind tmap d lo m count old new' (j - 1)
falls_turn {width} {ptr} {tptr} {tind} {tmap} {d} {lo} {m} {count} {old} {new} {new'} {v} {j} w h low a fits ev ep =
    let e : suc (j - 1) ≡ j = omega arith in
    rw ep
    (record {
      kept = kept_put w.kept (d + (j - 1)) v (omega arith) (omega arith);
      reduced = λ l z.
          ap (back ptr tptr tind tmap (reg width old lo count l) (j - 1))
          (reg_put width new d m (j - 1) v (omega arith) (room_all width new (d + m) (omega (arith, kept_room w.kept))) l z
          ∙ ap (set (reg width new d m l) (j - 1))
          (ev.lane l z
          ∙ ap (λ (lv : List Float). back_at ptr tptr tind tmap lv (reg width new d m l) (j - 1)) (kept_apart w.kept a l z)))
          ∙ sym (back_one ptr tptr tind tmap (reg width old lo count l) (j - 1) (reg width new d m l))
          ∙ ap (λ (k : ℕ). back ptr tptr tind tmap (reg width old lo count l) k (reg width new d m l)) e
          ∙ w.reduced l z;
    })

back_none : (ptr tptr tind tmap : List ℕ) (lv d : List Float) → back ptr tptr tind tmap lv 0 d ≡ d
unfolding back
back_none ptr tptr tind tmap lv d = refl

pub falls_end : {width : ℕ} {ptr tptr tind tmap : List ℕ} {d lo m count : ℕ} {old new : List Float} {i : ℕ} → Falls width ptr tptr tind tmap d lo m count old new i → i ≤ 0
    → Fills width d m (λ l. back ptr tptr tind tmap (reg width old lo count l) m (reg width old d m l)) old new
falls_end {width} {ptr} {tptr} {tind} {tmap} {d} {lo} {m} {count} {old} {new} {i} w h =
    let e : i ≡ 0 = omega arith in
    record {
      kept = w.kept;
      within = λ l z.
          sym (ap (λ (k : ℕ). back ptr tptr tind tmap (reg width old lo count l) k (reg width new d m l)) e ∙ back_none ptr tptr tind tmap (reg width old lo count l) (reg width new d m l))
          ∙ w.reduced l z;
    }

-- ---- by the plan: what an entry of the backward substitution reads

-- the solution lies apart from the factor
pub factor_apart : (p : Plan) → Apart (l_in p) p.stored (dy_at p.n p.m) p.m
factor_apart p = after (omega arith)

-- what is read is there later too
pub back_still : {width : ℕ} {p : Plan} {index : List ℕ} {old new : List Float} → BackIn width p index old → room width new ≡ room width old → BackIn width p index new
back_still B k = record { columns = B.columns; ends = B.ends; indexed = B.indexed; fits = omega (arith, B.fits, k); wide = B.wide }

-- column i of the factor stands in the lists
pub record Column (p : Plan) (index : List ℕ) (i : ℕ) : Type 0 where
  pub rows : get_or (ltindptr_in p index) (i + 1) 0 ≤ length (ltindices_in p index)
  pub places : get_or (ltindptr_in p index) (i + 1) 0 ≤ length (ltmap_in p index)

module _ {width : ℕ} {p : Plan} {index : List ℕ} {work : List Float} (B : BackIn width p index work) {i : ℕ} (h : i < p.m) where
  pub column : Column p index i
  column = let e = B.columns.ends i h in record { rows = e; places = omega (arith, B.columns.sizes) }

  abbrev from : ℕ
  from = get_or (ltindptr_in p index) i 0 + 1

  abbrev to : ℕ
  to = get_or (ltindptr_in p index) (i + 1) 0

  rows_long : length (cut from to (ltindices_in p index)) ≡ to - from
  rows_long = cut_length from to (ltindices_in p index) column.rows

  places_long : length (cut from to (ltmap_in p index)) ≡ to - from
  places_long = cut_length from to (ltmap_in p index) column.places

  pub column_reads : Reads (cut from to (ltindices_in p index)) (cut from to (ltmap_in p index)) p.m p.stored
  column_reads = record {
    sizes = places_long ∙ sym rows_long;
    rows = λ k b. let c : k < to - from = omega (arith, rows_long) in rw (cut_at from to (ltindices_in p index) k 0 c) (B.columns.below (from + k) (omega (arith, column.rows)));
    places = λ k b. let c : k < to - from = omega (arith, places_long) in rw (cut_at from to (ltmap_in p index) k 0 c) (B.columns.places (from + k) (omega (arith, column.places)));
  }
