-- What a test reads: tolerances, divisors, and what mu is divided by. Assumes nothing.
use mathlib.Core.Path.{◌≡◌, refl, sym, ap, ap₂, ◌∙◌}
use mathlib.Core.Logic.{inl, inr}
use mathlib.Core.Bool.{Bool, true, false, cond, ◌&&◌, false≢true}
use mathlib.Core.List.{List, ◌++◌}
use Prim.Native.Nat.{ℕ, ◌+◌, ◌*◌}
use native.Mathlib.Nat.{le_refl}
use native.Mathlib.Omega.{arith}
use borrow.Author.Tests.{le-ltb}
use lib.ListN.{length, get_or-append}
use lib.Seq.{get_or-append-add}
use lib.Ieee.{Float, nan, inf, fin, lt, is_nan, up, down}
use Rattle.lanes.specs.Arithmetic.{◌⊕◌, ◌⊗◌, ◌⊘◌, whole, Σ}
use Rattle.lanes.specs.Lists.{at}
use Rattle.lanes.proofs.Lists.{lane_at}
use Rattle.machine.specs.Machine.{Problem, LaneData, Settings, State, spoilt, done, steps, status, R, Q, G, g, mu}
use Rattle.machine.specs.Outcome.{Call, is_done}
use Rattle.machine.specs.Theorems as theorems

-- no number is below itself
lt_self : (x : Float) → lt x x ≡ false
unfolding lt
lt_self nan = refl
lt_self (inf false) = refl
lt_self (inf true) = refl
lt_self (fin false m e) = le-ltb (m * up e * down e) (m * up e * down e) (le_refl _)
lt_self (fin true m e) = le-ltb (m * up e * down e) (m * up e * down e) (le_refl _)

not_below : (x y : Float) → x ≡ y → lt x y ≡ true → ⊥
not_below x y e t = false≢true (sym (lt_self x) ∙ ap (lt x) e ∙ t)

-- a test that says done passed all three
passed : (s a b c : Bool) (t : Float) → cond s spoilt (cond (a && b && c) done (steps t)) ≡ done → (a ≡ true) × (b ≡ true) × (c ≡ true)
passed true a b c t e = absurd (false≢true (ap is_done e))
passed false true true true t e = (refl, refl, refl)
passed false true true false t e = absurd (false≢true (ap is_done e))
passed false true false c t e = absurd (false≢true (ap is_done e))
passed false false b c t e = absurd (false≢true (ap is_done e))

module _ (A : Problem) (H : Settings) (d : LaneData) where
  done_passed : (q : State) → status A H d q ≡ done → (lt (R A H d q) d.primal ≡ true) × (lt (Q A H d q) d.dual ≡ true) × (lt (G A H d q) d.gap ≡ true)
  unfolding status
  done_passed q e = passed (is_nan (G A H d q)) (lt (R A H d q) d.primal) (lt (Q A H d q) d.dual) (lt (G A H d q) d.gap) (mu A H d q) e

  pub strictly_below : theorems.StrictlyBelow A H d
  strictly_below q (inl e) t = not_below (R A H d q) d.primal e (done_passed q t).0
  strictly_below q (inr (inl e)) t = not_below (Q A H d q) d.dual e (done_passed q t).1
  strictly_below q (inr (inr e)) t = not_below (G A H d q) d.gap e (done_passed q t).2

  pub divisors_alone : theorems.DivisorsAlone A H d
  divisors_alone p r d' q = (refl, refl)

  pub mu_alone : theorems.MuAlone A H d
  unfolding mu g
  mu_alone A' q n s =
      ap₂
      (λ (a b : ℕ). H.centring ⊗ (Σ a (λ e. at q.z e ⊗ at q.x e) ⊕ Σ b (λ i. at q.w i ⊗ at q.y i)) ⊘ whole (a + b))
      n
      s

module _ (C : Call) where
  pub lanes_in_order : theorems.LanesInOrder C
  lanes_in_order l k = (lane_at C.K C.problem.m l C.b k, lane_at C.K C.problem.n l C.c k)

  pub tolerances_in_order : theorems.TolerancesInOrder C
  tolerances_in_order primal dual gap p u e l h = (
    ap (λ (v : List Float). at v l) e ∙ get_or-append primal (dual ++ gap) nan l (omega (arith, p)),
    ap₂ (λ (v : List Float) (k : ℕ). at v (k + l)) e (sym p) ∙ get_or-append-add primal (dual ++ gap) l nan ∙ get_or-append dual gap nan l (omega (arith, u)),
    ap₂ (λ (v : List Float) (k : ℕ). at v k) e z ∙ get_or-append-add primal (dual ++ gap) (length dual + l) nan ∙ get_or-append-add dual gap l nan,
  )
    where
      z : 2 * C.K + l ≡ length primal + (length dual + l)
      z = omega (arith, p, u)
