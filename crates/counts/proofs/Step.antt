-- One row met on a climb along parents. Assumes nothing.
use mathlib.Core.Path.{◌≡◌, refl, sym, ap, ap₂, ◌∙◌}
use mathlib.Core.Logic.{◌⊎◌, inl, inr}
use mathlib.Core.Bool.{Bool, true, false, ◌&&◌, cond}
use mathlib.Core.List.{List}
use Prim.Native.Nat.{ℕ, zero, suc, ◌+◌, ◌≤◌, ◌<◌}
use native.Mathlib.Omega.{arith}
use native.Mathlib.Decide.{ℕ_discrete}
use native.Mathlib.Numerals.{add-one}
use lib.Dec.{eqb, ltb}
use lib.ListN.{length, get_or, set, length-set}
use lib.Seq.{get_or-set_same, get_or-set_other}
use borrow.Author.Tests.{ne_eqb, eq-eqb}
use Rattle.base.specs.Sums.{one}
use Rattle.base.proofs.Sums.{sum_at, sum_times, count_le}
use Rattle.pattern.specs.Links.{or_else}
use Rattle.parents.specs.Parent.{parent_of}
use Rattle.counts.specs.Climb.{entries_in, met, Adopts, Turn, Climbing, Climbed}
use Rattle.parents.proofs.Lowest.{parent_is}

pub else_none : (x : ℕ) → or_else x 0 ≡ x
else_none zero = refl
else_none (suc x) = refl

pub entries_few : (st : ℕ → ℕ → Bool) (i k : ℕ) → entries_in st i k ≤ i
unfolding entries_in
entries_few st i k = count_le i (λ r. ltb k r && st r k)

weigh : (t : Bool) (x b : ℕ) → x ≤ b → cond t (x + 1) 0 ≤ b + 1
weigh true x b h = omega arith
weigh false x b h = omega arith

-- ---- the marks
module _ (mark : List ℕ) (i k : ℕ) (h : k < length mark) where
  met_same : met (set mark k (i + 1)) i k ≡ true
  met_same = eq-eqb (get_or (set mark k (i + 1)) k 0) (i + 1) (get_or-set_same mark k (i + 1) 0 h)

  met_other : (x : ℕ) → (x ≡ k → ⊥) → met (set mark k (i + 1)) i x ≡ met mark i x
  met_other x n = ap (λ (v : ℕ). eqb v (i + 1)) (get_or-set_other mark k x (i + 1) 0 n)

  met_at : (x : ℕ) → x ≡ k → met (set mark k (i + 1)) i x ≡ true
  met_at x z = ap (met (set mark k (i + 1)) i) z ∙ met_same

  met_keep : (x : ℕ) → met mark i x ≡ true → met (set mark k (i + 1)) i x ≡ true
  met_keep x e = go (ℕ_discrete x k)
    where
      go : Dec (x ≡ k) → met (set mark k (i + 1)) i x ≡ true
      go (yes z) = met_at x z
      go (no n) = met_other x n ∙ e

pub next_is : (i x next : ℕ) → next + 1 ≡ or_else x (i + 1) → ((x ≡ 0) × (next ≡ i)) ⊎ (x ≡ suc next)
next_is i zero next e = inl (refl, omega arith)
next_is i (suc x) next e = inr (omega arith)

module _ {st : ℕ → ℕ → Bool} {i k : ℕ} {mark parent column : List ℕ} {E D e d : ℕ} (t : Turn st i k mark parent column E D e d) where
  pub small_e_lem : e ≤ 65792
  small_e_lem = omega (arith, t.entries, count_le i (met mark i), t.small_e, t.few)

  pub small_d_lem : d ≤ 16843008
  small_d_lem =
      omega (
        arith,
        t.products,
        sum_times i 257 (λ x. cond (met mark i x) (entries_in st i x + 1) 0) (λ x b. omega (arith, weigh (met mark i x) (entries_in st i x) 256 (omega (arith, entries_few st i x, t.few)))),
        t.small_d,
        t.few,
      )

  -- the climb stands at another row
  pub stand : (to : ℕ) → to ≤ i → (to < i → st i to ≡ true) → ((x p : ℕ) → met mark i x ≡ true → parent_of st i x ≡ suc p → (met mark i p ≡ true) ⊎ (p ≡ to))
      → Turn st i to mark parent column E D e d
  stand to l h closed = record {
    few = t.few;
    room = t.room;
    parents = t.parents;
    columns = t.columns;
    small_e = t.small_e;
    small_d = t.small_d;
    joins = t.joins;
    up_to = l;
    here = h;
    old = t.old;
    sound = t.sound;
    closed = closed;
    parent_at = t.parent_at;
    column_at = t.column_at;
    entries = t.entries;
    products = t.products;
  }

  -- the climb ends at row i, or at a row that is marked
  pub settle : (i ≤ k) ⊎ (met mark i k ≡ true) → Turn st i i mark parent column E D e d
  settle w = stand i (omega arith) (λ l. absurd (omega arith)) (λ x p h q. go p w (t.closed x p h q))
    where
      go : (p : ℕ) → (i ≤ k) ⊎ (met mark i k ≡ true) → (met mark i p ≡ true) ⊎ (p ≡ k) → (met mark i p ≡ true) ⊎ (p ≡ i)
      go p v (inl a) = inl a
      go p (inl b) (inr z) = inr (omega (arith, t.up_to))
      go p (inr b) (inr z) = inl (ap (met mark i) z ∙ b)

  module _ (l : k < i) (new : met mark i k ≡ false) where
    in_marks : k < length mark
    in_marks = omega (arith, t.room)

    own : get_or parent k 0 ≡ parent_of st i k
    own = t.parent_at k in_marks ∙ ap (λ (b : Bool). or_else (parent_of st i k) (cond b (suc i) 0)) new ∙ else_none (parent_of st i k)

    mine : get_or column k 0 ≡ entries_in st i k
    mine = t.column_at k in_marks ∙ ap (λ (b : Bool). entries_in st i k + one b) new ∙ omega arith

    pub bump_asks : (k < length column) × (get_or column k 0 ≤ 65536)
    bump_asks = (omega (arith, t.room, t.columns), omega (arith, mine, entries_few st i k, t.few))

    pub grown : get_or column k 0 + 1 ≤ 257
    grown = omega (arith, mine, entries_few st i k, t.few)

    module _ (parent' : List ℕ) (next : ℕ) (same : length parent' ≡ length parent) (adopts : Adopts parent parent' k (i + 1)) (is : next + 1 ≡ or_else (get_or parent k 0) (i + 1)) where
      cases : ((parent_of st i k ≡ 0) × (next ≡ i)) ⊎ (parent_of st i k ≡ suc next)
      cases = next_is i (parent_of st i k) next (is ∙ ap (λ (x : ℕ). or_else x (i + 1)) own)

      pub climbs : (k < next) × (next ≤ i)
      climbs = go cases
        where
          go : ((parent_of st i k ≡ 0) × (next ≡ i)) ⊎ (parent_of st i k ≡ suc next) → (k < next) × (next ≤ i)
          go (inl z) = (omega (arith, z.1), omega (arith, z.1))
          go (inr z) = let w = parent_is st i k next z in (w.0.later, omega (arith, w.1))

      stands : next < i → st i next ≡ true
      stands u = go cases
        where
          go : ((parent_of st i k ≡ 0) × (next ≡ i)) ⊎ (parent_of st i k ≡ suc next) → st i next ≡ true
          go (inl z) = absurd (omega (arith, z.1))
          go (inr z) = let w = parent_is st i k next z in t.joins next k u w.0.later (t.here l) w.0.entry

      pub step : Turn st i next (set mark k (i + 1)) parent' (set column k (get_or column k 0 + 1)) E D (e + 1) (d + (get_or column k 0 + 1))
      step = record {
        few = t.few;
        room = omega (arith, t.room, length-set mark k (i + 1));
        parents = same ∙ t.parents ∙ sym (length-set mark k (i + 1));
        columns = length-set column k (get_or column k 0 + 1) ∙ t.columns ∙ sym (length-set mark k (i + 1));
        small_e = t.small_e;
        small_d = t.small_d;
        joins = t.joins;
        up_to = climbs.1;
        here = stands;
        old = λ x. old_at x (ℕ_discrete x k);
        sound = λ x h. sound_at x h (ℕ_discrete x k);
        closed = λ x p h q. closed_at x p h q (ℕ_discrete x k);
        parent_at = λ x h. parent_at_lem x (omega (arith, h, length-set mark k (i + 1))) (ℕ_discrete x k);
        column_at = λ x h. column_at_lem x (omega (arith, h, length-set mark k (i + 1))) (ℕ_discrete x k);
        entries =
            omega (
              arith,
              t.entries,
              sum_at i (λ x. one (met mark i x)) (λ x. one (met (set mark k (i + 1)) i x)) k l (λ x n. ap one (sym (met_other mark i k in_marks x n))),
              ap one new,
              ap one (met_same mark i k in_marks),
            );
        products =
            omega (
              arith,
              t.products,
              sum_at i (λ x. cond (met mark i x) (entries_in st i x + 1) 0) (λ x. cond (met (set mark k (i + 1)) i x) (entries_in st i x + 1) 0) k l
                  (λ x n. ap (λ (b : Bool). cond b (entries_in st i x + 1) 0) (sym (met_other mark i k in_marks x n))),
              ap (λ (b : Bool). cond b (entries_in st i k + 1) 0) new,
              ap (λ (b : Bool). cond b (entries_in st i k + 1) 0) (met_same mark i k in_marks),
              mine,
            );
      }
        where
          old_at : (x : ℕ) → Dec (x ≡ k) → get_or (set mark k (i + 1)) x 0 ≤ i + 1
          old_at x (yes z) = omega (arith, ap (λ (y : ℕ). get_or (set mark k (i + 1)) y 0) z, get_or-set_same mark k (i + 1) 0 in_marks)
          old_at x (no n) = omega (arith, get_or-set_other mark k x (i + 1) 0 n, t.old x)

          sound_at : (x : ℕ) → met (set mark k (i + 1)) i x ≡ true → Dec (x ≡ k) → (x < i) × (st i x ≡ true)
          sound_at x h (yes z) = (omega arith, ap (st i) z ∙ t.here l)
          sound_at x h (no n) = t.sound x (sym (met_other mark i k in_marks x n) ∙ h)

          closed_at : (x p : ℕ) → met (set mark k (i + 1)) i x ≡ true → parent_of st i x ≡ suc p → Dec (x ≡ k) → (met (set mark k (i + 1)) i p ≡ true) ⊎ (p ≡ next)
          closed_at x p h q (yes z) = go cases
            where
              q' : parent_of st i k ≡ suc p
              q' = sym (ap (parent_of st i) z) ∙ q

              go : ((parent_of st i k ≡ 0) × (next ≡ i)) ⊎ (parent_of st i k ≡ suc next) → (met (set mark k (i + 1)) i p ≡ true) ⊎ (p ≡ next)
              go (inl w) = absurd (omega (arith, w.0, q'))
              go (inr w) = inr (omega (arith, w, q'))
          closed_at x p h q (no n) = go (t.closed x p (sym (met_other mark i k in_marks x n) ∙ h) q)
            where
              go : (met mark i p ≡ true) ⊎ (p ≡ k) → (met (set mark k (i + 1)) i p ≡ true) ⊎ (p ≡ next)
              go (inl a) = inl (met_keep mark i k in_marks p a)
              go (inr z) = inl (met_at mark i k in_marks p z)

          parent_at_lem : (x : ℕ) → x < length mark → Dec (x ≡ k) → get_or parent' x 0 ≡ or_else (parent_of st i x) (cond (met (set mark k (i + 1)) i x) (suc i) 0)
          parent_at_lem x h (yes z) =
              adopts x
              ∙ ap (λ (b : Bool). cond b (or_else (get_or parent k 0) (i + 1)) (get_or parent x 0)) (eq-eqb x k z)
              ∙ ap₂ or_else (own ∙ sym (ap (parent_of st i) z)) (add-one i)
              ∙ sym (ap (λ (b : Bool). or_else (parent_of st i x) (cond b (suc i) 0)) (met_at mark i k in_marks x z))
          parent_at_lem x h (no n) =
              adopts x
              ∙ ap (λ (b : Bool). cond b (or_else (get_or parent k 0) (i + 1)) (get_or parent x 0)) (ne_eqb x k n)
              ∙ t.parent_at x h
              ∙ sym (ap (λ (b : Bool). or_else (parent_of st i x) (cond b (suc i) 0)) (met_other mark i k in_marks x n))

          column_at_lem : (x : ℕ) → x < length mark → Dec (x ≡ k) → get_or (set column k (get_or column k 0 + 1)) x 0 ≡ entries_in st i x + one (met (set mark k (i + 1)) i x)
          column_at_lem x h (yes z) =
              ap (λ (y : ℕ). get_or (set column k (get_or column k 0 + 1)) y 0) z
              ∙ get_or-set_same column k (get_or column k 0 + 1) 0 bump_asks.0
              ∙ ap (λ (y : ℕ). y + 1) (mine ∙ sym (ap (entries_in st i) z))
              ∙ sym (ap (λ (b : Bool). entries_in st i x + one b) (met_at mark i k in_marks x z))
          column_at_lem x h (no n) =
              get_or-set_other column k x (get_or column k 0 + 1) 0 n
              ∙ t.column_at x h
              ∙ sym (ap (λ (b : Bool). entries_in st i x + one b) (met_other mark i k in_marks x n))

-- ---- the climb as a whole
module _ {i at k : ℕ} {mark₀ parent₀ column₀ mark parent column : List ℕ} {e₀ d₀ e d : ℕ} (v : Climbed i at k mark₀ parent₀ column₀ mark parent column e₀ d₀ e d) where
  pub climb_here : (w : Climbing i at mark₀ parent₀ column₀ e₀ d₀) → Turn w.st i k mark parent column w.E w.D e d
  climb_here w = v.turns w.st w.E w.D w.turn

  pub climb_turn : k < length mark → k < i → met mark i k ≡ false → (parent' column' : List ℕ) (next r : ℕ) → length parent' ≡ length parent → Adopts parent parent' k (i + 1) → next + 1 ≡ or_else (get_or parent k 0) (i + 1)
      → column' ≡ set column k (get_or column k 0 + 1) → r ≡ get_or column k 0 + 1
      → Climbed i at next mark₀ parent₀ column₀ (set mark k (i + 1)) parent' column' e₀ d₀ (e + 1) (d + r)
  climb_turn h l new parent' column' next r same adopts is grows adds = rw (grows, adds) (record {
    size = length-set mark k (i + 1) ∙ v.size;
    turns = λ st E D t. step (v.turns st E D t) l new parent' next same adopts is;
    keeps = λ x m. met_keep mark i k h x (v.keeps x m);
    reaches = λ a. go (v.reaches a);
  })
    where
      go : (met mark i at ≡ true) ⊎ (at ≡ k) → (met (set mark k (i + 1)) i at ≡ true) ⊎ (at ≡ next)
      go (inl m) = inl (met_keep mark i k h at m)
      go (inr z) = inl (met_at mark i k h at z)

  pub climb_end : (i ≤ k) ⊎ (met mark i k ≡ true) → Climbed i at i mark₀ parent₀ column₀ mark parent column e₀ d₀ e d
  climb_end w = record {
    size = v.size;
    turns = λ st E D t. settle (v.turns st E D t) w;
    keeps = v.keeps;
    reaches = λ a. go a w (v.reaches a);
  }
    where
      go : at < i → (i ≤ k) ⊎ (met mark i k ≡ true) → (met mark i at ≡ true) ⊎ (at ≡ k) → (met mark i at ≡ true) ⊎ (at ≡ i)
      go a b (inl m) = inl m
      go a (inl b) (inr z) = absurd (omega arith)
      go a (inr b) (inr z) = inl (ap (met mark i) z ∙ b)
