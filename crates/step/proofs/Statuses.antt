-- The start, and the step that the statuses ask for. Assumes nothing.
use mathlib.Core.Path.{◌≡◌, refl, ap, ◌∙◌}
use mathlib.Core.Logic.{◌≢◌, inr}
use mathlib.Core.Bool.{Bool, true, false, cond, ◌&&◌}
use mathlib.Core.List.{List}
use Prim.Native.Nat.{ℕ, ◌+◌, ◌*◌, ◌<◌, ◌≤◌}
use native.Mathlib.Omega.{arith}
use lib.ListN.{get_or}
use lib.Ieee.{Float, lt, is_nan}
use Rattle.lanes.specs.Lists.{at, vec}
use Rattle.lanes.specs.Arithmetic.{null}
use Rattle.lanes.specs.Constants.{start_value}
use Rattle.lanes.specs.Lanes.{lanes, On, Width}
use Rattle.lanes.specs.Region.{reg, Kept, Fills, Apart, before}
use Rattle.lanes.proofs.Regions.{kept_apart, places_le}
use Rattle.lanes.proofs.Quads.{on}
use Rattle.machine.specs.Machine.{Problem, LaneData, Settings, State, R, Q, G, mu, status, direction, step_length, stepped}
use Rattle.machine.specs.declared.Status.{Status}
use Rattle.machine.specs.declared.Status.TheVariants.{Spoilt, Done, Step}
use Rattle.machine.specs.Outcome.{is_done}
use Rattle.machine.specs.Work.{step_of, step_by}
use Rattle.layout.specs.Layout.{y_at, w_at, l_at}
use Rattle.memory.specs.Numbers.{numbers_at}
use Rattle.step.specs.Steps.{Untouched, Fresh, Told, LanesStep}
use Rattle.step.proofs.Steps.{Took}

-- ---- the start
pub starts : {width : ℕ} {v : Float} {r : List Float} → Width width → r ≡ lanes (λ t. v) → v ≡ start_value → On width r (λ t. start_value)
starts W e s = on W (e ∙ ap (λ (u : Float). lanes (λ t. u)) s)

pub fresh : (width m n s : ℕ) {x z y w w0 w1 w2 w3 w4 : List Float}
    → On width x (λ t. start_value) → On width z (λ t. start_value) → On width y (λ t. start_value) → On width w (λ t. start_value)
    → Fills width 0 n (λ t. vec n (λ e. at x t)) w0 w1 → Fills width n n (λ t. vec n (λ e. at z t)) w1 w2
    → Fills width (y_at n) m (λ t. vec m (λ e. at y t)) w2 w3 → Fills width (w_at n m) s (λ t. vec s (λ e. at w t)) w3 w4 → Fresh width m n s w0 w4
fresh width m n s {x} {z} {y} {w} {w0} {w1} {w2} {w3} {w4} sx sz sy sw F1 F2 F3 F4 =
    record {
      size = F4.kept.size ∙ F3.kept.size ∙ F2.kept.size ∙ F1.kept.size;
      outside =
          λ j a b c.
          F4.kept.outside j c ∙ F3.kept.outside j b ∙ F2.kept.outside j (inr a)
          ∙ F1.kept.outside j (inr (omega (arith, places_le width {o = n} {k = n + n} (omega arith))));
      all = λ t b i. record { x = ex t b i; z = ez t b i; y = ey t b i; w = ew t b i };
    }
  where
    still : (p j : ℕ) {o k : ℕ} {old new : List Float} → Kept width o k old new → Apart p j o k → (t : ℕ) → t < width → reg width new p j t ≡ reg width old p j t
    still p j K a t b = kept_apart K a t b

    ex : (t : ℕ) → t < width → reg width w4 0 n t ≡ vec n (λ _. start_value)
    ex t b = still 0 n F4.kept (before (omega arith)) t b ∙ still 0 n F3.kept (before (omega arith)) t b ∙ still 0 n F2.kept (before (omega arith)) t b ∙ F1.within t b ∙ ap (λ (u : Float). vec n (λ _. u)) (sx.lane t b)

    ez : (t : ℕ) → t < width → reg width w4 n n t ≡ vec n (λ _. start_value)
    ez t b = still n n F4.kept (before (omega arith)) t b ∙ still n n F3.kept (before (omega arith)) t b ∙ F2.within t b ∙ ap (λ (u : Float). vec n (λ _. u)) (sz.lane t b)

    ey : (t : ℕ) → t < width → reg width w4 (y_at n) m t ≡ vec m (λ _. start_value)
    ey t b = still (y_at n) m F4.kept (before (omega arith)) t b ∙ F3.within t b ∙ ap (λ (u : Float). vec m (λ _. u)) (sy.lane t b)

    ew : (t : ℕ) → t < width → reg width w4 (w_at n m) s t ≡ vec s (λ _. start_value)
    ew t b = F4.within t b ∙ ap (λ (u : Float). vec s (λ _. u)) (sw.lane t b)

-- nothing behind the numbers' regions has changed
pub fresh_frame : {width m n s : ℕ} {old new : List Float} → Fresh width m n s old new → Untouched width (l_at n m s) old new
fresh_frame {width} {m} {n} {s} F = record {
  size = F.size;
  beyond = λ j a. F.outside j (past j (n + n) (omega arith) a) (inr (past j (y_at n + m) (omega arith) a)) (inr (past j (w_at n m + s) (omega arith) a));
}
  where
    past : (j k : ℕ) → k ≤ l_at n m s → width * l_at n m s ≤ j → width * k ≤ j
    past j k h a = omega (arith, places_le width {o = k} {k = l_at n m s} h)

-- ---- the step that the statuses ask for

steps_mu : (a b : Bool) (u t : Float) → cond a Spoilt (cond b Done (Step u)) ≡ Step t → u ≡ t
steps_mu true b u t e = let z : ◌≡◌ {A = ℕ} 0 1 = cc in absurd (omega arith)
steps_mu false true u t e = let z : ◌≡◌ {A = ℕ} 0 1 = cc in absurd (omega arith)
steps_mu false false u t e = cc

module _ (A : Problem) (H : Settings) (d : LaneData) (q : State) where
  status_mu : (t : Float) → status A H d q ≡ Step t → mu A H d q ≡ t
  unfolding status
  status_mu t e = steps_mu (is_nan (G A H d q)) (lt (R A H d q) d.primal && lt (Q A H d q) d.dual && lt (G A H d q) d.gap) (mu A H d q) t e

  pub by_status : (k : Status) → status A H d q ≡ k → k ≢ Spoilt
      → step_by A q (cond (is_done k) null (step_length A H d q (direction A H d q (mu A H d q)))) (direction A H d q (mu A H d q)) ≡ step_of A H d q k
  unfolding stepped
  by_status Spoilt e n = absurd (n refl)
  by_status Done e n = refl
  by_status (Step t) e n = rw (status_mu t e)

pub by_statuses : (width : ℕ) (A : Problem) (H : Settings) (d : ℕ → LaneData) {top : ℕ} {m : List Float} {done : List Bool} {old new : List Float} (statuses : List Status)
    → Took width A H d top m done old new
    → Told width A H d statuses m old
    → ((t : ℕ) → t < width → get_or done t false ≡ is_done (get_or statuses t Spoilt))
    → LanesStep width A H d top old new
by_statuses width A H d {top} {m} {done} {old} {new} statuses T K ed =
    record {
      frame = T.frame;
      taken = λ t b.
          T.taken t b
          ∙ rw (K.centred t b, ed t b, K.says t b)
          (by_status A H (d t) (numbers_at width A.m A.n A.s old t) (status A H (d t) (numbers_at width A.m A.n A.s old t)) refl (λ z. K.sound t b (K.says t b ∙ z)));
    }
