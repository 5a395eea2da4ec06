-- Where the numbers of a pair (i, j) stand in a list that is written pair by pair, and which pair an entry of the factor is. Assumes nothing.
use mathlib.Core.Path.{◌≡◌, refl, sym, ap, ap₂, ◌∙◌}
use mathlib.Core.Bool.{Bool, true, false}
use mathlib.Core.List.{List, ◌∷◌, ◌++◌}
use Prim.Native.Nat.{ℕ, zero, suc, ◌+◌, ◌-◌, ◌<◌, ◌≤◌}
use native.Mathlib.Omega.{arith}
use native.Mathlib.Decide.{ℕ_discrete, dec_lt}
use lib.Dec.{eqb}
use lib.ListN.{length, get_or, get_or-append}
use lib.Seq.{get_or-append-add}
use borrow.Author.Tests.{eq-eqb, ne_eqb}
use Rattle.base.specs.Sums.{sum, one}
use Rattle.base.proofs.Sums.{sum_ext, sum_more, sum_ones}
use Rattle.base.specs.Cat.{cat, pick, pairs}
use Rattle.lists.specs.Lists.{Shape, lplace, before}
use Rattle.base.proofs.Write.{length_cat, length_pick, cat_room, pairs_room}

pub cat_at : (n : ℕ) (f : ℕ → List ℕ) (i k : ℕ) → i < n → k < length (f i) → get_or (cat n f) (length (cat i f) + k) 0 ≡ get_or (f i) k 0
unfolding cat
cat_at zero f i k h l = absurd (omega arith)
cat_at (suc n) f i k h l = go (ℕ_discrete i n) (cat_at n f i k)
  where
    go : Dec (i ≡ n) → (i < n → k < length (f i) → get_or (cat n f) (length (cat i f) + k) 0 ≡ get_or (f i) k 0) → get_or (cat n f ++ f n) (length (cat i f) + k) 0 ≡ get_or (f i) k 0
    go (yes e) ih = rw e (get_or-append-add (cat n f) (f n) k 0)
    go (no e) ih = get_or-append (cat n f) (f n) 0 (length (cat i f) + k) (omega (arith, cat_room n i f (omega arith))) ∙ ih (omega arith) l

-- ---- what is counted before a pair
pub before_next : (w : ℕ → ℕ → ℕ) (i j : ℕ) → before w i (suc j) ≡ before w i j + w i j
unfolding before sum
before_next w i j = omega arith

pub before_row : (w : ℕ → ℕ → ℕ) (i : ℕ) → before w (suc i) 0 ≡ before w i (suc i)
unfolding before sum
before_row w i = omega arith

pub before_start : (w : ℕ → ℕ → ℕ) → before w 0 0 ≡ 0
unfolding before sum
before_start w = refl

-- THE PLACE OF A PAIR: where each pair (a, b) adds w a b numbers, number k of (i, j) stands k behind all that was counted before
module _ (f : ℕ → ℕ → List ℕ) (w : ℕ → ℕ → ℕ) (e : (a b : ℕ) → b ≤ a → length (f a b) ≡ w a b) where
  upto : (i j : ℕ) → j ≤ suc i → length (pairs i f) + length (cat j (f i)) ≡ before w i j
  unfolding pairs before
  upto i j h =
      ap₂ ◌+◌
      (length_cat i (λ a. cat (suc a) (λ b. f a b))
      ∙ sum_ext i (λ a. length (cat (suc a) (λ b. f a b))) (λ a. sum (suc a) (λ b. w a b))
      (λ a l. length_cat (suc a) (λ b. f a b) ∙ sum_ext (suc a) (λ b. length (f a b)) (λ b. w a b) (λ b q. e a b (omega arith))))
      (length_cat j (f i) ∙ sum_ext j (λ b. length (f i b)) (λ b. w i b) (λ b q. e i b (omega arith)))

  pub pairs_in : (m i j k : ℕ) → i < m → j ≤ i → k < w i j → before w i j + k < length (pairs m f)
  pairs_in m i j k h l q = omega (arith, pairs_room m i j f h l, upto i j (omega arith), e i j l)

  pub pairs_long : (m i j : ℕ) → i < m → j ≤ i → before w i (suc j) ≤ length (pairs m f)
  pairs_long m i j h l = omega (arith, pairs_room m i j f h l, upto i j (omega arith), e i j l, before_next w i j)

  pub pairs_at : (m i j k : ℕ) → i < m → j ≤ i → k < w i j → get_or (pairs m f) (before w i j + k) 0 ≡ get_or (f i j) k 0
  unfolding pairs
  pairs_at m i j k h l q =
      let z : before w i j + k ≡ length (pairs i f) + (length (cat j (f i)) + k) = omega (arith, upto i j (omega arith)) in
      ap (λ (x : ℕ). get_or (pairs m f) x 0) z
      ∙ cat_at m (λ a. cat (suc a) (λ b. f a b)) i (length (cat j (f i)) + k) h (omega (arith, cat_room (suc i) j (f i) (omega arith), e i j l))
      ∙ cat_at (suc i) (f i) j k (omega arith) (omega (arith, e i j l))

one_true : (t : Bool) → t ≡ true → one t ≡ 1
one_true t e = ap one e

-- ---- lists with a number for each stored pair
module _ (g : Shape) (m : ℕ) where
  abbrev pub by_entry : (ℕ → ℕ → ℕ) → List ℕ
  by_entry v = pairs m (λ a b. pick (g.held a b) (v a b))

  count : (v : ℕ → ℕ → ℕ) (a b : ℕ) → b ≤ a → length (pick (g.held a b) (v a b)) ≡ one (g.held a b)
  count v a b h = length_pick (g.held a b) (v a b)

  -- the number of a stored pair stands at its place
  pub ranked : (v : ℕ → ℕ → ℕ) (i j : ℕ) → i < m → j ≤ i → g.held i j ≡ true → get_or (by_entry v) (lplace g i j) 0 ≡ v i j
  unfolding lplace
  ranked v i j h l t =
      let z : before (λ a b. one (g.held a b)) i j ≡ before (λ a b. one (g.held a b)) i j + 0 = omega arith in
      ap (λ (x : ℕ). get_or (by_entry v) x 0) z
      ∙ pairs_at (λ a b. pick (g.held a b) (v a b)) (λ a b. one (g.held a b)) (count v) m i j 0 h l (omega (arith, one_true (g.held i j) t))
      ∙ ap (λ (x : Bool). get_or (pick x (v i j)) 0 0) t

  pub ranked_in : (v : ℕ → ℕ → ℕ) (i j : ℕ) → i < m → j ≤ i → g.held i j ≡ true → lplace g i j < length (by_entry v)
  unfolding lplace
  ranked_in v i j h l t =
      omega (arith, pairs_in (λ a b. pick (g.held a b) (v a b)) (λ a b. one (g.held a b)) (count v) m i j 0 h l (omega (arith, one_true (g.held i j) t)))

  pub lplace_next : (i j : ℕ) → g.held i j ≡ true → lplace g i (suc j) ≡ suc (lplace g i j)
  unfolding lplace
  lplace_next i j t = omega (arith, before_next (λ a b. one (g.held a b)) i j, one_true (g.held i j) t)

  pub lplace_skip : (i j : ℕ) → g.held i j ≡ false → lplace g i (suc j) ≡ lplace g i j
  unfolding lplace
  lplace_skip i j t = omega (arith, before_next (λ a b. one (g.held a b)) i j, ap one t)

  pub lplace_start : lplace g 0 0 ≡ 0
  unfolding lplace
  lplace_start = before_start (λ a b. one (g.held a b))

  pub lplace_row : (i : ℕ) → lplace g (suc i) 0 ≡ lplace g i (suc i)
  unfolding lplace
  lplace_row i = before_row (λ a b. one (g.held a b)) i

  -- THE ENDS: where pairs that are not stored count nothing, entry (i, j) of a list of ends is all that was counted before (i, j)
  module _ (w : ℕ → ℕ → ℕ) (none : (i j : ℕ) → i < m → j ≤ i → g.held i j ≡ false → w i j ≡ 0) where
    abbrev pub ends_of : List ℕ
    ends_of = 0 ∷ by_entry (λ a b. before w a (suc b))

    abbrev At : ℕ → ℕ → Type 0
    At i j = get_or ends_of (lplace g i j) 0 ≡ before w i j

    ends_step : (i j : ℕ) → i < m → j ≤ i → At i j → (t : Bool) → g.held i j ≡ t → At i (suc j)
    ends_step i j h l a true t = ap (λ (x : ℕ). get_or ends_of x 0) (lplace_next i j t) ∙ ranked (λ a b. before w a (suc b)) i j h l t
    ends_step i j h l a false t = ap (λ (x : ℕ). get_or ends_of x 0) (lplace_skip i j t) ∙ a ∙ omega (arith, before_next w i j, none i j h l t)

    ends_row : (i : ℕ) → i < m → At i 0 → (j : ℕ) → j ≤ suc i → At i j
    ends_row i h a zero l = a
    ends_row i h a (suc j) l = ends_step i j h (omega arith) (ends_row i h a j (omega arith)) (g.held i j) refl

    ends_rows : (i : ℕ) → i ≤ m → At i 0
    ends_rows zero h = ap (λ (x : ℕ). get_or ends_of x 0) lplace_start ∙ sym (before_start w)
    ends_rows (suc i) h =
        ap (λ (x : ℕ). get_or ends_of x 0) (lplace_row i) ∙ ends_row i (omega arith) (ends_rows i (omega arith)) (suc i) (omega arith) ∙ sym (before_row w i)

    pub ends_at : (i j : ℕ) → i < m → j ≤ suc i → get_or ends_of (lplace g i j) 0 ≡ before w i j
    ends_at i j h l = ends_row i h (ends_rows i (omega arith)) j l

-- ---- which pair an entry is

rank_of : (n : ℕ) (p : ℕ → Bool) (r : ℕ) → r < sum n (λ k. one (p k)) → (j : ℕ) × (j < n) × (p j ≡ true) × (sum j (λ k. one (p k)) ≡ r)
unfolding sum
rank_of zero p r h = absurd (omega arith)
rank_of (suc n) p r h = go (rank_of n p r) (dec_lt r (sum n (λ k. one (p k)))) (p n) refl
  where
    go : (r < sum n (λ k. one (p k)) → (j : ℕ) × (j < n) × (p j ≡ true) × (sum j (λ k. one (p k)) ≡ r)) → Dec (r < sum n (λ k. one (p k))) → (t : Bool) → p n ≡ t → (j : ℕ) × (j < suc n) × (p j ≡ true) × (sum j (λ k. one (p k)) ≡ r)
    go ih (yes l) t e = let q = ih l in (q.0, omega (arith, q.1), q.2, q.3)
    go ih (no l) true e = (n, omega arith, e, omega (arith, ap one e))
    go ih (no l) false e = absurd (omega (arith, ap one e))

-- entry e of row i: its column
pub record Entry (g : Shape) (i e : ℕ) : Type 0 where
  pub j : ℕ
  pub low : j ≤ i
  pub held : g.held i j ≡ true
  pub at : lplace g i j ≡ e

pub entry_of : (g : Shape) (i e : ℕ) → lplace g i 0 ≤ e → e < lplace g (suc i) 0 → Entry g i e
unfolding lplace before sum
entry_of g i e h l =
    let base = sum i (λ a. sum (suc a) (λ b. one (g.held a b))) in
    let q = rank_of (suc i) (λ b. g.held i b) (e - base) (omega arith) in
    record { j = q.0; low = omega (arith, q.1); held = q.2; at = omega (arith, q.3) }

-- ---- the order of the entries

module _ (g : Shape) where
  pub lplace_along : (i b j : ℕ) → b ≤ j → lplace g i b ≤ lplace g i j
  unfolding lplace before
  lplace_along i b j h = omega (arith, sum_more b j (λ k. one (g.held i k)) h)

  pub lplace_down : (i a : ℕ) → i ≤ a → lplace g i 0 ≤ lplace g a 0
  unfolding lplace before sum
  lplace_down i a h = omega (arith, sum_more i a (λ r. sum (suc r) (λ b. one (g.held r b))) h)

  -- a stored pair that stands before another has the lower place
  pub lplace_lt : (a b i : ℕ) → a < i → b ≤ a → g.held a b ≡ true → lplace g a b < lplace g i 0
  lplace_lt a b i h l t = omega (arith, lplace_next g 0 a b t, lplace_along a (suc b) (suc a) (omega arith), lplace_row g 0 a, lplace_down (suc a) i h)

  pub lplace_lt_row : (i b j : ℕ) → b < j → g.held i b ≡ true → lplace g i b < lplace g i j
  lplace_lt_row i b j h t = omega (arith, lplace_next g 0 i b t, lplace_along i (suc b) j h)

  pub by_entry_length : (m : ℕ) (v : ℕ → ℕ → ℕ) → length (by_entry g m v) ≡ lplace g m 0
  unfolding lplace cat
  by_entry_length m v = omega (arith, upto (λ a b. pick (g.held a b) (v a b)) (λ a b. one (g.held a b)) (λ a b _. length_pick (g.held a b) (v a b)) m 0 (omega arith))

-- ---- lists with a number for each row, at its diagonal

off_diag : (n a : ℕ) → n ≤ a → sum n (λ b. one (eqb b a)) ≡ 0
unfolding sum
off_diag zero a h = refl
off_diag (suc n) a h = omega (arith, off_diag n a (omega arith), ap one (ne_eqb n a (λ e. omega arith)))

on_diag : (a : ℕ) → sum (suc a) (λ b. one (eqb b a)) ≡ 1
unfolding sum
on_diag a = omega (arith, off_diag a a (omega arith), ap one (eq-eqb a a refl))

diag_before : (i : ℕ) → before (λ a b. one (eqb b a)) i i ≡ i
unfolding before
diag_before i =
    omega (arith, sum_ext i (λ a. sum (suc a) (λ b. one (eqb b a))) (λ _. 1) (λ a _. on_diag a), sum_ones i, off_diag i i (omega arith))

pub by_row_at : (m : ℕ) (v : ℕ → ℕ) (i : ℕ) → i < m → get_or (pairs m (λ a b. pick (eqb b a) (v a))) i 0 ≡ v i
by_row_at m v i h =
    let z : i ≡ before (λ a b. one (eqb b a)) i i + 0 = omega (arith, diag_before i) in
    let t : 0 < one (eqb i i) = omega (arith, ap one (eq-eqb i i refl)) in
    ap (λ (x : ℕ). get_or (pairs m (λ a b. pick (eqb b a) (v a))) x 0) z
    ∙ pairs_at (λ a b. pick (eqb b a) (v a)) (λ a b. one (eqb b a)) (λ a b _. length_pick (eqb b a) (v a)) m i i 0 h (omega arith) t
    ∙ ap (λ (x : Bool). get_or (pick x (v i)) 0 0) (eq-eqb i i refl)

pub by_row_in : (m : ℕ) (v : ℕ → ℕ) (i : ℕ) → i < m → i < length (pairs m (λ a b. pick (eqb b a) (v a)))
by_row_in m v i h =
    let t : 0 < one (eqb i i) = omega (arith, ap one (eq-eqb i i refl)) in
    omega (arith, diag_before i, pairs_in (λ a b. pick (eqb b a) (v a)) (λ a b. one (eqb b a)) (λ a b _. length_pick (eqb b a) (v a)) m i i 0 h (omega arith) t)
