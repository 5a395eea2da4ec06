-- A turn of a loop that fills one, two or three regions, that sums products, or that finds the largest ratio. Assumes nothing.
use mathlib.Core.Path.{◌≡◌, refl, sym, ap, ◌∙◌}
use mathlib.Core.Logic.{◌⊎◌, inl, inr, ⊎_elim}
use mathlib.Core.List.{List}
use Prim.Native.Nat.{ℕ, ◌+◌, ◌*◌, ◌/◌, ◌≤◌, ◌<◌}
use native.Mathlib.Omega.{arith}
use lib.ListN.{length}
use lib.Ieee.{Float, neg}
use Rattle.lanes.specs.Lists.{at, vec, fold}
use Rattle.lanes.specs.Arithmetic.{◌⊕◌, ◌⊗◌, ◌⊘◌, null, one, larger, Σ}
use Rattle.lanes.proofs.Lists.{vec_at}
use Rattle.lanes.specs.Lanes.{cell, put, On, room}
use Rattle.lanes.specs.Region.{reg, Kept, Fills, Grows, Apart, before, after}
use Rattle.lanes.proofs.Regions.{places_le, places_lt, reg_at, grows_none, grown, kept_none, kept_put, kept_room, kept_apart, apart_front, own_cell, other_cell}
use Rattle.lanes.proofs.Quads.{reg_cell, grows_turn, fold_turn, ◌▹◌}
use Rattle.machine.specs.Machine.{largest_ratio}
use Rattle.kernels.specs.Kernels.{FillsThree}

-- a loop's region, filled by an index
pub filled : {width o i n : ℕ} (F : ℕ → ℕ → Float) {old new : List Float} → Grows width o i (λ l _. F l) old new → i ≡ n → Fills width o n (λ l. vec n (F l)) old new
unfolding vec
filled F w e = grown w e

-- ---- three regions, one after the other, filled by one loop

-- the first i entries from entry o are written
pub record Front (width o i : ℕ) (F : ℕ → ℕ → Float) (ws : List Float) : Type 0 where
  pub within : (l : ℕ) → l < width → reg width ws o i l ≡ vec i (F l)

front_none : (width o : ℕ) (F : ℕ → ℕ → Float) (ws : List Float) → Front width o 0 F ws
unfolding vec
front_none width o F ws = record { within = (grows_none width o (λ l _. F l) ws).within }

front_own : {width o i : ℕ} {F : ℕ → ℕ → Float} {ws ws' v : List Float} → Front width o i F ws → o + i < room width ws → On width v (λ l. F l i) → ws' ≡ put width ws (o + i) v → Front width o (i + 1) F ws'
unfolding vec
front_own {width} {o} {i} {F} {ws} f h ev ew =
    let w : Grows width o i (λ l _. F l) ws ws = record { kept = kept_none width o i ws; within = f.within } in
    record { within = (grows_turn w h ev ew).within }

stored : {width : ℕ} (k : ℕ) (v : List Float) (ws : List Float) {ws' : List Float} → ws' ≡ put width ws k v → Kept width k 1 ws ws'
stored {width} k v ws e = rw e (kept_put (kept_none width k 1 ws) k v (omega arith) (omega arith))

front_other : {width p i k : ℕ} {F : ℕ → ℕ → Float} {ws ws' : List Float} → Front width p i F ws → Kept width k 1 ws ws' → Apart p i k 1 → Front width p i F ws'
front_other f w a = record { within = λ l b. kept_apart w a l b ∙ f.within l b }

-- the first i entries of each are written
pub record Three (width o p q i n : ℕ) (A B C : ℕ → ℕ → Float) (old new : List Float) : Type 0 where
  pub kept : Kept width o (3 * n) old new
  pub first : Front width o i A new
  pub second : Front width p i B new
  pub third : Front width q i C new

pub three_none : (width o p q n : ℕ) (A B C : ℕ → ℕ → Float) (ws : List Float) → Three width o p q 0 n A B C ws ws
three_none width o p q n A B C ws = record { kept = kept_none width o (3 * n) ws; first = front_none width o A ws; second = front_none width p B ws; third = front_none width q C ws }

pub three_turn : {width o p q i n : ℕ} (A B C : ℕ → ℕ → Float) {old new w1 w2 w3 a b c : List Float} → Three width o p q i n A B C old new → p ≡ o + n → q ≡ p + n → i < n → o + 3 * n ≤ room width old
    → On width a (λ l. A l i) → On width b (λ l. B l i) → On width c (λ l. C l i) → w1 ≡ put width new (o + i) a → w2 ≡ put width w1 (p + i) b → w3 ≡ put width w2 (q + i) c
    → Three width o p q (i + 1) n A B C old w3
three_turn {width} {o} {p} {q} {i} {n} A B C {old} {new} {w1} {w2} {w3} {a} {b} {c} w ep eq h fits ea eb ec e1 e2 e3 =
    record {
      kept = k3;
      first = front_other (front_other (front_own w.first (omega (arith, kept_room w.kept)) ea e1) s2 (before (omega (arith, ep)))) s3 (before (omega (arith, ep, eq)));
      second = front_other (front_own (front_other w.second s1 (after (omega (arith, ep)))) (omega (arith, ep, kept_room k1)) eb e2) s3 (before (omega (arith, eq)));
      third = front_own (front_other (front_other w.third s1 (after (omega (arith, ep, eq)))) s2 (after (omega (arith, eq)))) (omega (arith, ep, eq, kept_room k2)) ec e3;
    }
  where
    s1 : Kept width (o + i) 1 new w1
    s1 = stored (o + i) a new e1

    s2 : Kept width (p + i) 1 w1 w2
    s2 = stored (p + i) b w1 e2

    s3 : Kept width (q + i) 1 w2 w3
    s3 = stored (q + i) c w2 e3

    k1 : Kept width o (3 * n) old w1
    k1 = rw e1 (kept_put w.kept (o + i) a (omega arith) (omega arith))

    k2 : Kept width o (3 * n) old w2
    k2 = rw e2 (kept_put k1 (p + i) b (omega (arith, ep)) (omega (arith, ep)))

    k3 : Kept width o (3 * n) old w3
    k3 = rw e3 (kept_put k2 (q + i) c (omega (arith, ep, eq)) (omega (arith, ep, eq)))

-- ---- the updates

abbrev pub moved_lane : ℕ → ℕ → ℕ → ℕ → List Float → List Float → ℕ → ℕ → Float
moved_lane width p dp k h ws l e = one ⊗ at (reg width ws p k l) e ⊕ at h l ⊗ at (reg width ws dp k l) e

pub moved_turn : {width : ℕ} {old new a b v : List Float} {p : ℕ} (dp : ℕ) {k : ℕ} (h : List Float) {e : ℕ} → Grows width p e (λ l _. moved_lane width p dp k h old l) old new
    → Apart dp k p k → e < k → On width a (cell width new (p + e)) → On width b (cell width new (dp + e)) → On width v (λ l. one ⊗ at a l ⊕ at h l ⊗ at b l)
    → On width v (λ l. moved_lane width p dp k h old l e)
moved_turn dp {k} h {e} w ad b ea eb ev = ev ▹ (λ l z. rw (ea.lane l z, own_cell w.kept k b l z, eb.lane l z, other_cell w.kept (apart_front ad (omega arith)) e b l z))

-- ---- sums of products

-- lane l of a region's entries
abbrev pub entry_lane : ℕ → List Float → ℕ → ℕ → ℕ → ℕ → Float
entry_lane width ws o k l e = at (reg width ws o k l) e

pub sum_turn : {width : ℕ} (A B : ℕ → ℕ → Float) {acc a b r : List Float} {e : ℕ} → On width acc (λ l. Σ e (λ k. A l k ⊗ B l k)) → On width a (λ l. A l e) → On width b (λ l. B l e)
    → On width r (λ l. at acc l ⊕ at a l ⊗ at b l) → On width r (λ l. Σ (e + 1) (λ k. A l k ⊗ B l k))
unfolding Σ
sum_turn A B {acc} {a} {b} {r} {e} i ea eb er = fold_turn (λ l k v. v ⊕ A l k ⊗ B l k) (λ l. null) e i (er ▹ (λ l h. rw (ea.lane l h, eb.lane l h)))

pub sum_none : {width : ℕ} (A B : ℕ → ℕ → Float) {acc : List Float} → On width acc (λ l. null) → On width acc (λ l. Σ 0 (λ k. A l k ⊗ B l k))
unfolding Σ fold
sum_none A B e = e

-- two regions of k entries: lane l's sum over the first e
module _ (width : ℕ) (ws : List Float) (p q k : ℕ) where
  abbrev pub products_to : ℕ → ℕ → Float
  products_to e l = Σ e (λ j. entry_lane width ws p k l j ⊗ entry_lane width ws q k l j)

  pub products_none : {acc : List Float} → On width acc (λ l. null) → On width acc (products_to 0)
  products_none i = sum_none (entry_lane width ws p k) (entry_lane width ws q k) i

  pub products_turn : (e : ℕ) {acc a b r : List Float} → On width acc (products_to e) → e < k → On width a (cell width ws (p + e)) → On width b (cell width ws (q + e))
      → On width r (λ l. at acc l ⊕ at a l ⊗ at b l) → On width r (products_to (e + 1))
  products_turn e i h ea eb er = sum_turn (entry_lane width ws p k) (entry_lane width ws q k) i (ea ▹ reg_cell width ws p k e h) (eb ▹ reg_cell width ws q k e h) er

-- ---- theta: the largest ratio so far

pub ratio_none : {width : ℕ} (a da b db : ℕ → List Float) {acc : List Float} → On width acc (λ l. null) → On width acc (λ l. largest_ratio 0 (a l) (da l) (b l) (db l))
unfolding largest_ratio fold
ratio_none a da b db e = e

pub ratio_turn : {width : ℕ} (a da b db : ℕ → List Float) {acc ae dae be dbe r : List Float} (e : ℕ) → On width acc (λ l. largest_ratio e (a l) (da l) (b l) (db l))
    → On width ae (λ l. at (a l) e) → On width dae (λ l. at (da l) e) → On width be (λ l. at (b l) e) → On width dbe (λ l. at (db l) e)
    → On width r (λ l. larger (larger (at acc l) (neg (at dae l) ⊘ at ae l)) (neg (at dbe l) ⊘ at be l))
    → On width r (λ l. largest_ratio (e + 1) (a l) (da l) (b l) (db l))
unfolding largest_ratio
ratio_turn a da b db e i ea eda eb edb er =
    fold_turn (λ l k v. larger (larger v (neg (at (da l) k) ⊘ at (a l) k)) (neg (at (db l) k) ⊘ at (b l) k)) (λ l. null) e i (er ▹ (λ l h. rw (ea.lane l h, eda.lane l h, eb.lane l h, edb.lane l h)))

-- read on lists that are the same
pub ratio_same : {width : ℕ} (k : ℕ) (a da b db a' da' b' db' : ℕ → List Float) {acc : List Float} → On width acc (λ l. largest_ratio k (a l) (da l) (b l) (db l))
    → ((l : ℕ) → l < width → a' l ≡ a l) → ((l : ℕ) → l < width → da' l ≡ da l) → ((l : ℕ) → l < width → b' l ≡ b l) → ((l : ℕ) → l < width → db' l ≡ db l)
    → On width acc (λ l. largest_ratio k (a' l) (da' l) (b' l) (db' l))
ratio_same k a da b db a' da' b' db' e ea eda eb edb =
    e ▹ (λ l h. rw (ea l h, eda l h, eb l h, edb l h))

-- an entry that a loop works out is that of the whole list
pub whole_lanes : {width : ℕ} (F : ℕ → ℕ → Float) {v : List Float} {n e : ℕ} → e < n → On width v (λ l. F l e) → On width v (λ l. at (vec n (F l)) e)
whole_lanes F {v} {n} {e} h ev = ev ▹ (λ l _. sym (vec_at n (F l) e h))

-- ---- two regions, one after the other, worked out in place

-- the first i entries from o and from p are written, and nothing else has changed
pub record Two (width o p i : ℕ) (A B : ℕ → ℕ → Float) (old new : List Float) : Type 0 where
  pub size : length new ≡ length old
  pub outside : (j : ℕ) → (j < width * o) ⊎ (width * (o + i) ≤ j) → (j < width * p) ⊎ (width * (p + i) ≤ j) → at new j ≡ at old j
  pub first : Front width o i A new
  pub second : Front width p i B new

pub two_none : (width o p : ℕ) (A B : ℕ → ℕ → Float) (ws : List Float) → Two width o p 0 A B ws ws
two_none width o p A B ws = record { size = refl; outside = λ j h g. refl; first = front_none width o A ws; second = front_none width p B ws }

pub two_room : {width o p i : ℕ} {A B : ℕ → ℕ → Float} {old new : List Float} → Two width o p i A B old new → room width new ≡ room width old
unfolding room
two_room {width} w = ap (λ (n : ℕ). n / width) w.size

pub two_turn : {width o p i n : ℕ} {A B : ℕ → ℕ → Float} {old new w1 w2 a b : List Float} → Two width o p i A B old new → p ≡ o + n → i < n → o + 2 * n ≤ room width old
    → On width a (λ l. A l i) → On width b (λ l. B l i) → w1 ≡ put width new (o + i) a → w2 ≡ put width w1 (p + i) b
    → Two width o p (i + 1) A B old w2
two_turn {width} {o} {p} {i} {n} {A} {B} {old} {new} {w1} {w2} {a} {b} w ep h fits ea eb e1 e2 =
    record {
      size = s2.size ∙ s1.size ∙ w.size;
      outside = λ j f g. s2.outside j (one_more p j g) ∙ s1.outside j (one_more o j f) ∙ w.outside j (narrower o j f) (narrower p j g);
      first = front_other (front_own w.first (omega (arith, now)) ea e1) s2 (before (omega (arith, ep)));
      second = front_own (front_other w.second s1 (after (omega (arith, ep)))) (omega (arith, ep, kept_room s1, now)) eb e2;
    }
  where
    s1 : Kept width (o + i) 1 new w1
    s1 = stored (o + i) a new e1

    s2 : Kept width (p + i) 1 w1 w2
    s2 = stored (p + i) b w1 e2

    now : room width new ≡ room width old
    now = two_room w

    one_more : (q j : ℕ) → (j < width * q) ⊎ (width * (q + (i + 1)) ≤ j) → (j < width * (q + i)) ⊎ (width * (q + i + 1) ≤ j)
    one_more q j f = ⊎_elim (λ a. inl (omega (arith, places_le width {o = q} {k = q + i} (omega arith)))) (λ a. inr (omega (arith, places_le width {o = q + i + 1} {k = q + (i + 1)} (omega arith)))) f

    narrower : (q j : ℕ) → (j < width * q) ⊎ (width * (q + (i + 1)) ≤ j) → (j < width * q) ⊎ (width * (q + i) ≤ j)
    narrower q j f = ⊎_elim (λ a. inl a) (λ a. inr (omega (arith, places_le width {o = q + i} {k = q + (i + 1)} (omega arith)))) f

-- both regions lie side by side
pub two_kept : {width o p i n : ℕ} {A B : ℕ → ℕ → Float} {old new : List Float} → Two width o p i A B old new → p ≡ o + n → i ≤ n → Kept width o (2 * n) old new
two_kept {width} {o} {p} {i} {n} w ep h = record {
  size = w.size;
  outside = λ j f.
      w.outside j (⊎_elim (λ a. inl a) (λ a. inr (omega (arith, places_le width {o = o + i} {k = o + 2 * n} (omega arith)))) f)
      (⊎_elim (λ a. inl (omega (arith, places_le width {o = o} {k = p} (omega (arith, ep))))) (λ a. inr (omega (arith, places_le width {o = p + i} {k = o + 2 * n} (omega (arith, ep))))) f);
}

-- the next entry of each is as it was
pub first_cell : {width o p i n : ℕ} {A B : ℕ → ℕ → Float} {old new : List Float} → Two width o p i A B old new → p ≡ o + n → i < n → (l : ℕ) → l < width → cell width new (o + i) l ≡ at (reg width old o n l) i
first_cell {width} {o} {p} {i} {n} {old = old} {new = new} w ep h l b =
    w.outside (width * (o + i) + l) (inr (omega arith)) (inl (omega (arith, places_lt width {k = o + i} {m = p} (omega (arith, ep))))) ∙ sym (reg_at width old o n l i h)

pub second_cell : {width o p i n : ℕ} {A B : ℕ → ℕ → Float} {old new : List Float} → Two width o p i A B old new → p ≡ o + n → i < n → (l : ℕ) → l < width → cell width new (p + i) l ≡ at (reg width old p n l) i
second_cell {width} {o} {p} {i} {n} {old = old} {new = new} w ep h l b =
    w.outside (width * (p + i) + l) (inr (omega (arith, places_le width {o = o + i} {k = p + i} (omega (arith, ep))))) (inr (omega arith)) ∙ sym (reg_at width old p n l i h)
