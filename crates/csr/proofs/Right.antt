-- What a yes at question 3 says of the offsets, and the search for a row with too few entries. Assumes nothing.
use mathlib.Core.Path.{◌≡◌, refl, sym, ap, ◌∙◌}
use mathlib.Core.List.{List}
use mathlib.Core.Bool.{Bool, true, false, not, ◌&&◌}
use Rattle.std.specs.Prelude.{Option, Some, None}
use Rattle.std.specs.Option.{is_some}
use Rattle.std.specs.Bool.{then_some}
use Prim.Native.Nat.{ℕ, zero, suc, ◌+◌, ◌-◌, ◌<◌, ◌≤◌}
use native.Mathlib.Omega.{arith}
use native.Mathlib.Decide.{ℕ_discrete}
use borrow.Author.Tests.{eqb-true, ltb-false, not-true, lt-ltb, le-ltb, eq-eqb, ne_eqb}
use lib.Dec.{ltb, eqb}
use lib.ListN.{length, get_or}
use Rattle.base.specs.Numbers.{Part, below}
use Rattle.csr.specs.Questions.{first_from, falls, empty, offsets_right}
use Rattle.csr.specs.Csr.{Offsets}
use Rattle.csr.proofs.First.{none_below, first_ext, below_some, below_none}
use Rattle.base.proofs.Bools.{and_left, and_right}

pub right : (m : ℕ) (offsets : List ℕ) (t values : ℕ) → offsets_right m offsets t values ≡ true → Offsets m offsets t
unfolding offsets_right
right m offsets t values h =
    let A = eqb (length offsets) (m + 1) in
    let B = eqb (get_or offsets 0 0) 0 in
    let C = not (ltb (first_from (falls offsets) 0 m) m) in
    let D = eqb (get_or offsets m 0) t in
    let E = not (ltb 16384 t) in
    let abcde = and_left (A && B && C && D && E) (eqb values t) h in
    let abcd = and_left (A && B && C && D) E abcde in
    let abc = and_left (A && B && C) D abcd in
    let ab = and_left (A && B) C abc in
    record {
      count = eqb-true (length offsets) (m + 1) (and_left A B ab);
      first = eqb-true (get_or offsets 0 0) 0 (and_right A B ab);
      rises = λ i l. ltb-false _ _ (none_below (falls offsets) m i (not-true _ (and_right (A && B) C abc)) l);
      last = eqb-true (get_or offsets m 0) t (and_right (A && B && C) D abcd);
      few = ltb-false 16384 t (not-true _ (and_right (A && B && C && D) E abcde));
    }

-- no offset is above the number of columns
pub within : (m : ℕ) (offsets : List ℕ) (t : ℕ) → Offsets m offsets t → (k : ℕ) (i : ℕ) → i + k ≡ m → get_or offsets i 0 ≤ t
within m offsets t r zero i e = let s : i ≡ m = omega arith in omega (arith, ap (λ (j : ℕ). get_or offsets j 0) s, r.last)
within m offsets t r (suc k) i e = omega (arith, r.rises i (omega arith), within m offsets t r k (i + 1) (omega arith))

-- a row is a part of the columns
pub part_of : {m : ℕ} {offsets : List ℕ} {t : ℕ} → Offsets m offsets t → (i : ℕ) → i < m → Part offsets i t
part_of {m} {offsets} {t} r i l = record { here = omega (arith, r.count); rises = r.rises i l; ends = within m offsets t r (m - (i + 1)) (i + 1) (omega arith) }

-- ---- rows with too few entries

-- with fewer than none: the offsets fall
pub short_falls : (offsets : List ℕ) (m : ℕ) → first_from (λ k. ltb (get_or offsets (k + 1) 0) (get_or offsets k 0 + 0)) 0 m ≡ first_from (falls offsets) 0 m
short_falls offsets m =
    first_ext (λ k. ltb (get_or offsets (k + 1) 0) (get_or offsets k 0 + 0)) (falls offsets) m
    (λ k l. let z : get_or offsets k 0 + 0 ≡ get_or offsets k 0 = omega arith in ap (ltb (get_or offsets (k + 1) 0)) z)

-- so none is found just where no offset falls
pub no_short : (offsets : List ℕ) (m : ℕ) (r : Option ℕ) (b : Bool) → r ≡ below m (first_from (λ k. ltb (get_or offsets (k + 1) 0) (get_or offsets k 0 + 0)) 0 m) → is_some r ≡ not b → b ≡ not (ltb (first_from (falls offsets) 0 m) m)
no_short offsets m r b h s = go b (ltb (first_from (falls offsets) 0 m) m) (sym s ∙ ap is_some (h ∙ ap (below m) (short_falls offsets m)))
  where
    go : (b t : Bool) → not b ≡ is_some (then_some t (first_from (falls offsets) 0 m)) → b ≡ not t
    go true true e = sym e
    go true false e = refl
    go false true e = refl
    go false false e = sym e

-- with fewer than one, where no offset falls: none
pub short_empty : (m : ℕ) (offsets : List ℕ) (t : ℕ) → Offsets m offsets t → first_from (λ k. ltb (get_or offsets (k + 1) 0) (get_or offsets k 0 + 1)) 0 m ≡ first_from (empty offsets) 0 m
short_empty m offsets t r = first_ext (λ k. ltb (get_or offsets (k + 1) 0) (get_or offsets k 0 + 1)) (empty offsets) m (λ k l. same (get_or offsets (k + 1) 0) (get_or offsets k 0) (r.rises k l))
  where
    same : (b a : ℕ) → a ≤ b → ltb b (a + 1) ≡ eqb b a
    same b a h = go (ℕ_discrete b a)
      where
        go : Dec (b ≡ a) → ltb b (a + 1) ≡ eqb b a
        go (yes e) = lt-ltb b (a + 1) (omega arith) ∙ sym (eq-eqb b a e)
        go (no e) = le-ltb b (a + 1) (omega arith) ∙ sym (ne_eqb b a e)

-- after a yes at question 3, what a search for such a row says of the rows that have none
module _ (m : ℕ) (offsets : List ℕ) (t : ℕ) (r : Offsets m offsets t) where
  pub short_some : (i : ℕ) → Some i ≡ below m (first_from (λ k. ltb (get_or offsets (k + 1) 0) (get_or offsets k 0 + 1)) 0 m) → (first_from (empty offsets) 0 m ≡ i) × (ltb i m ≡ true)
  short_some i h = below_some m (first_from (empty offsets) 0 m) i (h ∙ ap (below m) (short_empty m offsets t r))

  pub short_none : None ≡ below m (first_from (λ k. ltb (get_or offsets (k + 1) 0) (get_or offsets k 0 + 1)) 0 m) → ltb (first_from (empty offsets) 0 m) m ≡ false
  short_none h = below_none m (first_from (empty offsets) 0 m) (h ∙ ap (below m) (short_empty m offsets t r))
