-- The lowest number at which a test holds, and so the parent of a row. Assumes nothing.
use mathlib.Core.Path.{◌≡◌, refl, sym, ap, ◌∙◌}
use mathlib.Core.Bool.{Bool, true, false, ◌&&◌, cond, false≢true}
use Prim.Native.Nat.{ℕ, zero, suc, ◌<◌, ◌≤◌}
use native.Mathlib.Omega.{arith}
use native.Mathlib.Decide.{ℕ_discrete, dec_lt}
use borrow.Author.Tests.{lt-ltb, ltb-true}
use lib.Dec.{ltb}
use Rattle.base.proofs.Bools.{and_in, and_out, and_second}
use Rattle.pattern.specs.Links.{or_else}
use Rattle.parents.specs.Parent.{lowest, later_entry, parent_of, Parent, ParentOf}

-- what a value of `lowest` says
pub record Low (p : ℕ → Bool) (b r : ℕ) : Type 0 where
  pub inside : r < b
  pub holds : p r ≡ true
  pub before : (q : ℕ) → q < r → p q ≡ false

abbrev Found : (ℕ → Bool) → ℕ → ℕ → Type 0
Found p b zero = (q : ℕ) → q < b → p q ≡ false
Found p b (suc r) = Low p b r

found_step : (p : ℕ → Bool) (b x : ℕ) → Found p b x → (t : Bool) → p b ≡ t → Found p (suc b) (or_else x (cond t (suc b) 0))
found_step p b zero h true e = record { inside = omega arith; holds = e; before = h }
found_step p b zero h false e = λ q l. go q l (ℕ_discrete q b)
  where
    go : (q : ℕ) → q < suc b → Dec (q ≡ b) → p q ≡ false
    go q l (yes z) = ap p z ∙ e
    go q l (no z) = h q (omega arith)
found_step p b (suc r) h t e = record { inside = omega (arith, h.inside); holds = h.holds; before = h.before }

found : (p : ℕ → Bool) (b : ℕ) → Found p b (lowest p b)
unfolding lowest
found p zero = λ q l. absurd (omega arith)
found p (suc b) = found_step p b (lowest p b) (found p b) (p b) refl

found_is : (p : ℕ → Bool) (b x : ℕ) → Found p b x → (r : ℕ) → p r ≡ true → r < b → (f : ℕ) × (x ≡ suc f) × (f ≤ r)
found_is p b zero h r e l = absurd (false≢true (sym (h r l) ∙ e))
found_is p b (suc f) h r e l = go (dec_lt r f)
  where
    go : Dec (r < f) → (g : ℕ) × (suc f ≡ suc g) × (g ≤ r)
    go (yes z) = absurd (false≢true (sym (h.before r z) ∙ e))
    go (no z) = (f, refl, omega arith)

found_low : (p : ℕ → Bool) (b x r : ℕ) → Found p b x → x ≡ suc r → Low p b r
found_low p b zero r h e = absurd (omega arith)
found_low p b (suc x) r h e = let z : x ≡ r = omega arith in rw z at h

lowest_low : (p : ℕ → Bool) (b r : ℕ) → lowest p b ≡ suc r → Low p b r
lowest_low p b r e = found_low p b (lowest p b) r (found p b) e

lowest_some : (p : ℕ → Bool) (b r : ℕ) → p r ≡ true → r < b → (f : ℕ) × (lowest p b ≡ suc f) × (f ≤ r)
lowest_some p b r e l = found_is p b (lowest p b) (found p b) r e l

-- ---- parents
module _ (st : ℕ → ℕ → Bool) where
  -- a parent that is found is the parent, and below the bound
  pub parent_is : (b k r : ℕ) → parent_of st b k ≡ suc r → Parent st k r × (r < b)
  unfolding parent_of
  parent_is b k r e =
      let w = lowest_low (later_entry st k) b r e in
      let s = and_out (ltb k r) (st r k) w.holds in (
        record {
          later = ltb-true k r s.0;
          entry = s.1;
          lowest_one = λ q l u. and_second (ltb k q) (st q k) (lt-ltb k q l) (w.before q u);
        },
        w.inside,
      )

  -- a row below the bound with an entry in column k: there is a parent, and it is no later
  pub parent_some : (b k r : ℕ) → k < r → st r k ≡ true → r < b → (f : ℕ) × (parent_of st b k ≡ suc f) × (f ≤ r)
  unfolding parent_of
  parent_some b k r l e u = lowest_some (later_entry st k) b r (and_in (ltb k r) (st r k) (lt-ltb k r l) e) u

  -- the parent below the bound is found
  pub parent_found : (b k r : ℕ) → Parent st k r → r < b → parent_of st b k ≡ suc r
  parent_found b k r p u = go (parent_some b k r p.later p.entry u)
    where
      go : (f : ℕ) × (parent_of st b k ≡ suc f) × (f ≤ r) → parent_of st b k ≡ suc r
      go w = turn (dec_lt w.0 r)
        where
          o : Parent st k w.0 × (w.0 < b)
          o = parent_is b k w.0 w.1

          turn : Dec (w.0 < r) → parent_of st b k ≡ suc r
          turn (yes l) = absurd (false≢true (sym (p.lowest_one w.0 o.0.later l) ∙ o.0.entry))
          turn (no l) = let z : w.0 ≡ r = omega (arith, w.2) in w.1 ∙ ap suc z

  pub parent_of_lem : ParentOf st
  parent_of_lem b k r = (parent_is b k r, λ p. parent_found b k r p.0 p.1)

  pub parent_next : (i k : ℕ) → parent_of st (suc i) k ≡ or_else (parent_of st i k) (cond (ltb k i && st i k) (suc i) 0)
  unfolding parent_of lowest
  parent_next i k = refl

  pub parent_zero : (k : ℕ) → parent_of st 0 k ≡ 0
  unfolding parent_of lowest
  parent_zero k = refl
