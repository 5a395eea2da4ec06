-- The calls of a test give in each lane what the machine's test yields. Assumes nothing.
use mathlib.Core.Path.{◌≡◌, refl, sym, ap, ◌∙◌}
use mathlib.Core.List.{List}
use Prim.Native.Nat.{ℕ, ◌+◌, ◌≤◌, ◌<◌}
use native.Mathlib.Omega.{arith}
use lib.Ieee.{Float}
use Rattle.lanes.specs.Lists.{at, vec}
use Rattle.machine.specs.Machine.{Problem, LaneData, Settings, State, primal_residual, dual_residual, R, Q, G, g, mu, status}
use Rattle.lanes.specs.Arithmetic.{◌⊕◌, ◌⊗◌, ◌⊘◌, √, Σ, norm, null, one, whole}
use Rattle.machine.specs.declared.Status.{Status}
use Rattle.lanes.proofs.Lists.{vec_at, fold_same}
use Rattle.lanes.specs.Lanes.{lanes, On, Width}
use Rattle.lanes.proofs.Quads.{on, ◌▹◌}
use Rattle.lanes.specs.Region.{reg}
use Rattle.lanes.proofs.Regions.{reg_at}
use Rattle.residuals.specs.Residuals.{q_at, r_at}
use Rattle.plan_laws.specs.Meaning.{RowsOf, ColsOf}
use Rattle.layout.specs.Layout.{y_at, w_at}
use Rattle.memory.specs.Numbers.{numbers_at}
use Rattle.lane_test.specs.Measures.{judged, Measured, Divided}
use Rattle.lane_test.proofs.ToMachine.{row_less, col_less}

-- the first of a region's entries
pub reg_front : (width : ℕ) (ws : List Float) (o k n t e : ℕ) → e < k → k ≤ n → at (reg width ws o k t) e ≡ at (reg width ws o n t) e
reg_front width ws o k n t e h l = reg_at width ws o k t e h ∙ sym (reg_at width ws o n t e (omega arith))

Σ-same : (n : ℕ) (f h : ℕ → Float) → ((k : ℕ) → k < n → f k ≡ h k) → Σ n f ≡ Σ n h
unfolding Σ
Σ-same n f h e = fold_same n (λ k v. v ⊕ f k) (λ k v. v ⊕ h k) null (λ k b r. ap (λ (x : Float). r ⊕ x) (e k b))

squares : (n : ℕ) (f h : ℕ → Float) → ((k : ℕ) → k < n → f k ≡ h k) → √ (Σ n (λ k. f k ⊗ f k)) ≡ norm n (vec n h)
unfolding norm
squares n f h e = ap √ (Σ-same n (λ k. f k ⊗ f k) (λ k. at (vec n h) k ⊗ at (vec n h) k) (λ k b. rw (vec_at n h k b, e k b)))

-- the roots of the lanes' sums over their divisors
pub roots_on : {w : ℕ} → Width w → (sums by : List Float) {r : List Float} {f : ℕ → Float} → r ≡ lanes (λ l. √ (at sums l) ⊘ at by l) → On w sums f → On w r (λ l. √ (f l) ⊘ at by l)
roots_on W sums by e s = on W {f = λ l. √ (at sums l) ⊘ at by l} e ▹ (λ l b. ap (λ (v : Float). √ v ⊘ at by l) (s.lane l b))

module _ (A : Problem) (H : Settings) (d : LaneData) (q : State) where
  r_machine : RowsOf A → √ (Σ A.m (λ i. r_at A.off A.cols A.vals A.s d.b q.x q.w i ⊗ r_at A.off A.cols A.vals A.s d.b q.x q.w i)) ⊘ H.divisor_r A d q ≡ R A H d q
  unfolding R
  r_machine rows =
      ap (λ (v : Float). v ⊘ H.divisor_r A d q)
      (squares A.m (r_at A.off A.cols A.vals A.s d.b q.x q.w) (primal_residual A H d q) (λ i h. unfold r_at primal_residual in row_less A rows i h q.x _))

  q_machine : (atindptr atindices atmap : List ℕ) → ColsOf A atindptr atindices atmap
      → √ (Σ A.n (λ e. q_at atindptr atindices atmap A.vals d.c q.z q.y e ⊗ q_at atindptr atindices atmap A.vals d.c q.z q.y e)) ⊘ H.divisor_q A d q ≡ Q A H d q
  unfolding Q
  q_machine atindptr atindices atmap C =
      ap (λ (v : Float). v ⊘ H.divisor_q A d q)
      (squares A.n (q_at atindptr atindices atmap A.vals d.c q.z q.y) (dual_residual A H d q) (λ e h. unfold q_at dual_residual in col_less A atindptr atindices atmap C e h q.y _))

-- ---- what the test and the step both read
module _ (width m n s : ℕ) (centring : Float) (work : List Float) (slack : s ≤ m) where
  abbrev xx_sum : ℕ → Float
  xx_sum t = Σ n (λ e. at (reg width work 0 n t) e ⊗ at (reg width work 0 n t) e)

  abbrev zx_sum : ℕ → Float
  zx_sum t = Σ n (λ e. at (reg width work n n t) e ⊗ at (reg width work 0 n t) e)

  abbrev wy_sum : ℕ → Float
  wy_sum t = Σ s (λ i. at (reg width work (w_at n m) s t) i ⊗ at (reg width work (y_at n) s t) i)

  pub measured : {xx zx nx ny gs ts : List Float} → On width xx xx_sum → On width zx zx_sum → On width nx (λ t. √ (at xx t)) → On width ny (λ t. norm m (reg width work (y_at n) m t))
      → On width gs (λ t. at zx t ⊕ wy_sum t) → On width ts (λ t. centring ⊗ at gs t ⊘ whole (n + s)) → Measured width m n s centring work nx ny gs ts
  measured {xx} {zx} {nx} {ny} {gs} {ts} ea eb ex ey eg et = record {
    x_norm = λ t b. ex.lane t b ∙ ap √ (ea.lane t b) ∙ (unfold norm in refl);
    y_norm = ey.lane;
    gap = λ t b.
        eg.lane t b
        ∙ ap (λ (v : Float). v ⊕ wy_sum t) (eb.lane t b)
        ∙ ap (λ (v : Float). zx_sum t ⊕ v)
        (Σ-same s (λ i. at (reg width work (w_at n m) s t) i ⊗ at (reg width work (y_at n) s t) i) (λ i. at (reg width work (w_at n m) s t) i ⊗ at (reg width work (y_at n) m t) i)
        (λ i h. ap (λ (v : Float). at (reg width work (w_at n m) s t) i ⊗ v) (reg_front width work (y_at n) s m t i h slack)));
    centred = et.lane;
  }

-- ---- the test
module _ (width : ℕ) (A : Problem) (H : Settings) (d : ℕ → LaneData) (work : List Float) {nx ny gs ts : List Float} (M : Measured width A.m A.n A.s H.centring work nx ny gs ts) where
  abbrev q : ℕ → State
  q t = numbers_at width A.m A.n A.s work t

  g_lane : (l : ℕ) → l < width → at gs l ≡ g A H (d l) (q l)
  unfolding g
  g_lane l b = M.gap l b

  pub mu_lane : (l : ℕ) → l < width → at ts l ≡ mu A H (d l) (q l)
  unfolding mu
  mu_lane l b = M.centred l b ∙ rw (g_lane l b)

  module _ (atindptr atindices atmap : List ℕ) (rs : RowsOf A) (C : ColsOf A atindptr atindices atmap) where
    abbrev r_sum : ℕ → Float
    r_sum t = Σ A.m (λ i. r_at A.off A.cols A.vals A.s (d t).b (q t).x (q t).w i ⊗ r_at A.off A.cols A.vals A.s (d t).b (q t).x (q t).w i)

    abbrev q_sum : ℕ → Float
    q_sum t = Σ A.n (λ e. q_at atindptr atindices atmap A.vals (d t).c (q t).z (q t).y e ⊗ q_at atindptr atindices atmap A.vals (d t).c (q t).z (q t).y e)

    pub tested : {br bq r qs gg : List Float} {k : Status} → Divided width A H d work br bq
        → On width r (λ t. √ (r_sum t) ⊘ at br t) → On width qs (λ t. √ (q_sum t) ⊘ at bq t) → On width gg (λ t. at gs t ⊘ (one ⊕ at nx t ⊕ at ny t))
        → (l : ℕ) → l < width → k ≡ judged (at r l) (at qs l) (at gg l) (at ts l) (d l).primal (d l).dual (d l).gap
        → k ≡ status A H (d l) (q l)
    tested {br} {bq} {r} {qs} {gg} {k} D er eq eh l b ek =
        ek ∙ rw (re, qe, he, mu_lane l b) (unfold status in refl)
      where
        re : at r l ≡ R A H (d l) (q l)
        re = er.lane l b ∙ rw (D.primal l b) (r_machine A H (d l) (q l) rs)

        qe : at qs l ≡ Q A H (d l) (q l)
        qe = eq.lane l b ∙ rw (D.dual l b) (q_machine A H (d l) (q l) atindptr atindices atmap C)

        he : at gg l ≡ G A H (d l) (q l)
        he = eh.lane l b ∙ rw (g_lane l b, M.x_norm l b, M.y_norm l b) (unfold G in refl)
