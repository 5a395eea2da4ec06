-- A yes to questions 1 to 5 is an accepted matrix. Assumes nothing.
use mathlib.Core.Path.{◌≡◌, refl}
use mathlib.Core.List.{List, [], ◌∷◌}
use mathlib.Core.Bool.{Bool, true, false, not, ◌&&◌}
use Prim.Native.Nat.{ℕ, suc, ◌+◌, ◌-◌, ◌≤◌, ◌<◌}
use native.Mathlib.Omega.{arith}
use borrow.Author.Tests.{eqb-true, eqb-false, leb-true, leb-false, lt-ltb, not-true}
use lib.Dec.{eqb, leb, ltb}
use lib.ListN.{length, get_or}
use Rattle.csr.specs.Pattern.{row}
use Rattle.base.specs.Numbers.{Below, Under, Rising}
use Rattle.csr.specs.Csr.{Csr, Offsets, Accepted}
use Rattle.csr.specs.Verdict.{Verdict, passed, refused, ask}
use Rattle.csr.specs.Questions.{max_entries, first_from, falls, empty, bad_at, bad_row, offsets_right, rows_right, first_no}
use Rattle.csr.proofs.First.{none_below}
use Rattle.csr.proofs.Right.{right, within}
use Rattle.base.proofs.Bools.{and_left, and_right, and_second, or_none}

-- a question before a pass got a yes
pub asked : (t : Bool) (next : Verdict) (q p l : ℕ) → ask t next (refused q p l) ≡ passed → (t ≡ true) × (next ≡ passed)
asked true next q p l e = (refl, e)
asked false next q p l e = let z : ◌≡◌ {A = ℕ} 0 1 = cc in absurd (omega arith)

-- question 3 asks for as many values as there are columns listed
pub values_of : (m n : ℕ) (off cols : List ℕ) (values : ℕ) → first_no m n off cols values ≡ passed → values ≡ length cols
unfolding first_no offsets_right
values_of m n off cols values h =
    let h1 = asked (rows_right m) _ 1 0 0 h in
    let h2 = asked (leb 1 n && leb n 1024) _ 2 0 0 h1.1 in
    let h3 = asked (offsets_right m off (length cols) values) _ 3 0 0 h2.1 in
    let others =
    eqb (length off) (m + 1) && eqb (get_or off 0 0) 0 && not (ltb (first_from (falls off) 0 m) m) && eqb (get_or off m 0) (length cols) && not (ltb max_entries (length cols)) in
    eqb-true values (length cols) (and_right others (eqb values (length cols)) h3.0)

-- each number of a list is below n
Small : ℕ → List ℕ → Type 0
Small n r = (k : ℕ) → k < length r → get_or r k 0 < n

-- and below the next
Steps : List ℕ → Type 0
Steps r = (k : ℕ) → suc k < length r → get_or r k 0 < get_or r (suc k) 0

small_tail : (n x : ℕ) (r : List ℕ) → Small n (x ∷ r) → Small n r
unfolding Small
small_tail n x r h k l = h (suc k) (omega arith)

steps_tail : (x : ℕ) (r : List ℕ) → Steps (x ∷ r) → Steps r
unfolding Steps
steps_tail x r h k l = h (suc k) (omega arith)

below : (n : ℕ) (r : List ℕ) → Small n r → Below n r
unfolding Small
below n [] h = tt
below n (x ∷ r) h = (h 0 (omega arith), below n r (small_tail n x r h))

under : (x y : ℕ) (r : List ℕ) → x < y → Steps (y ∷ r) → Under x (y ∷ r)
unfolding Steps
under x y [] l h = (l, tt)
under x y (z ∷ r) l h = (l, under x z r (omega (arith, h 0 (omega arith))) (steps_tail y (z ∷ r) h))

rising : (r : List ℕ) → Steps r → Rising r
unfolding Steps
rising [] h = tt
rising (x ∷ []) h = (tt, tt)
rising (x ∷ y ∷ r) h = (under x y r (h 0 (omega arith)) (steps_tail x (y ∷ r) h), rising (y ∷ r) (steps_tail x (y ∷ r) h))

-- a row that is not bad
fine_at : (n : ℕ) (r : List ℕ) → bad_row n r ≡ false → (k : ℕ) → k < length r → bad_at n r k ≡ false
unfolding bad_row
fine_at n r h k l = none_below (bad_at n r) (length r) k h l

small : (n : ℕ) (r : List ℕ) → bad_row n r ≡ false → Small n r
unfolding Small
small n r h k l = leb-false n (get_or r k 0) (or_none (leb n (get_or r k 0)) _ (fine_at n r h k l)).0

steps : (n : ℕ) (r : List ℕ) → bad_row n r ≡ false → Steps r
unfolding Steps
steps n r h k l =
    let back : suc k - 1 ≡ k = omega arith in
    let up = leb (get_or r (suc k) 0) (get_or r (suc k - 1) 0) in
    rw back at (leb-false (get_or r (suc k) 0) (get_or r (suc k - 1) 0)
    (and_second (ltb 0 (suc k)) up (lt-ltb 0 (suc k) (omega arith)) (or_none (leb n (get_or r (suc k) 0)) (ltb 0 (suc k) && up) (fine_at n r h (suc k) l)).1))

module _ (m n : ℕ) (off cols : List ℕ) where
  -- no row is empty, none is bad
  pub record Rows (values : ℕ) : Type 0 where
    pub rows : (1 ≤ m) × (m ≤ 256)
    pub columns : (1 ≤ n) × (n ≤ 1024)
    pub offsets : Offsets m off (length cols)
    pub filled : (i : ℕ) → i < m → empty off i ≡ false
    pub good : (i : ℕ) → i < m → bad_row n (row off cols i) ≡ false

  sizes : (x low high : ℕ) → (leb low x && leb x high) ≡ true → (low ≤ x) × (x ≤ high)
  sizes x low high h = (leb-true low x (and_left (leb low x) (leb x high) h), leb-true x high (and_right (leb low x) (leb x high) h))

  rows_of : (values : ℕ) → first_no m n off cols values ≡ passed → Rows values
  unfolding first_no
  rows_of values h =
      let e = first_from (empty off) 0 m in
      let bad : ℕ → Bool = λ (i : ℕ). bad_row n (row off cols i) in
      let b = first_from bad 0 m in
      let h1 = asked (rows_right m) _ 1 0 0 h in
      let h2 = asked (leb 1 n && leb n 1024) _ 2 0 0 h1.1 in
      let h3 = asked (offsets_right m off (length cols) values) _ 3 0 0 h2.1 in
      let h4 = asked (not (ltb e m)) _ 4 e 0 h3.1 in
      let h5 = asked (not (ltb b m)) _ 5 b 0 h4.1 in
      record {
        rows = sizes m 1 256 h1.0;
        columns = sizes n 1 1024 h2.0;
        offsets = right m off (length cols) values h3.0;
        filled = λ i l. none_below (empty off) m i (not-true _ h4.0) l;
        good = λ i l. none_below bad m i (not-true _ h5.0) l;
      }

  inside : Offsets m off (length cols) → (i : ℕ) → i ≤ m → get_or off i 0 ≤ length cols
  inside o i l = within m off (length cols) o (m - i) i (omega arith)

  csr_of : (values : ℕ) → Rows values → Csr off cols m
  csr_of values r = record {
    offsets = omega (arith, r.offsets.count);
    few = r.rows.1;
    order = r.offsets.rises;
    ends = inside r.offsets;
    rising = λ i l. rising (row off cols i) (steps n (row off cols i) (r.good i l));
  }

  -- A YES TO QUESTIONS 1 TO 5 IS AN ACCEPTED MATRIX
  pub accepted_of : (values : ℕ) → first_no m n off cols values ≡ passed → Accepted off cols m n
  accepted_of values h =
      let r = rows_of values h in
      record {
        csr = csr_of values r;
        offsets = r.offsets;
        wide = r.columns.1;
        within = λ i l. below n (row off cols i) (small n (row off cols i) (r.good i l));
        filled = λ i l.
            let up = r.offsets.rises i l in
            let ne = eqb-false (get_or off (i + 1) 0) (get_or off i 0) (r.filled i l) in
            omega (arith, up, ne);
      }
