-- The calls of a step, one after the other, leave in each lane what the machine works out. Assumes nothing.
use mathlib.Core.Path.{◌≡◌, refl, sym, ap, ap₂, ◌∙◌}
use mathlib.Core.Logic.{inr}
use mathlib.Core.Bool.{Bool, cond, false}
use mathlib.Core.List.{List}
use Prim.Native.Nat.{ℕ, ◌+◌, ◌*◌, ◌/◌, ◌≤◌, ◌<◌}
use native.Mathlib.Omega.{arith}
use lib.ListN.{get_or}
use lib.Ieee.{Float, neg}
use Rattle.lanes.specs.Lists.{at, vec}
use Rattle.lanes.specs.Arithmetic.{◌⊖◌, ◌⊗◌, ◌⊘◌, null, one, larger, smaller}
use Rattle.lanes.specs.Region.{reg, Kept, Fills, Apart, before, after}
use Rattle.lanes.specs.Lanes.{On, room}
use Rattle.lanes.proofs.Lists.{vec_same, vec_at, fold_same}
use Rattle.lanes.proofs.Regions.{places_le, kept_apart}
use Rattle.machine.specs.Machine.{Problem, LaneData, Settings, State, Direction, cell, factor, forward, backward, column_product, u_of, v_of, f_of, dy_of, dx_of, direction, complement, largest_ratio, moved, theta, step_length, row_product}
use Rattle.machine.specs.Work.{step_by}
use Rattle.sparse.specs.Sparse.{front, back}
use Rattle.kernels.specs.Kernels.{FillsTwo, FillsThree}
use Rattle.right_hand_side.specs.RightHandSide.{cost_at, u_at, f_at}
use Rattle.changes.specs.Changes.{dx_at}
use Rattle.kernels.proofs.Loops.{ratio_same}
use Rattle.eliminate.specs.Elimination.{KeptTwo, Eliminated}
use Rattle.eliminate.proofs.Rows.{two_apart}
use Rattle.plan_laws.specs.Meaning.{RowsOf, ColsOf, LowOf, HighOf, Holds}
use Rattle.layout.specs.Layout.{y_at, dy_at, rhs_at, w_at, dw_at, l_at}
use Rattle.lane_test.proofs.ToMachine.{row_plus, col_plus, front_machine, back_machine}
use Rattle.lane_test.proofs.Tests.{reg_front}
use Rattle.step.specs.Steps.{numbers_in, direction_in, reduced_costs, mu_over_x, changes, Untouched, Still, Ready, RightSide, Changed, Directed, Advanced}

-- a shorter region of the same start
other_front : (width : ℕ) (ws : List Float) (k n t : ℕ) (mu : Float) (p : List Float) (r dr : ℕ) → k ≤ n → complement k mu p (reg width ws r k t) (reg width ws dr k t) ≡ complement k mu p (reg width ws r n t) (reg width ws dr n t)
unfolding complement
other_front width ws k n t mu p r dr l =
    vec_same k (λ e. (mu ⊖ at p e ⊗ at (reg width ws dr k t) e) ⊘ at (reg width ws r k t) e ⊖ at p e) (λ e. (mu ⊖ at p e ⊗ at (reg width ws dr n t) e) ⊘ at (reg width ws r n t) e ⊖ at p e)
    (λ e h. rw (reg_front width ws dr k n t e h l, reg_front width ws r k n t e h l))

largest_ratio_front : (width : ℕ) (ws : List Float) (k n t : ℕ) (w dw : List Float) (r dr : ℕ) → k ≤ n → largest_ratio k w dw (reg width ws r k t) (reg width ws dr k t) ≡ largest_ratio k w dw (reg width ws r n t) (reg width ws dr n t)
unfolding largest_ratio
largest_ratio_front width ws k n t w dw r dr l =
    fold_same k (λ e v. larger (larger v (neg (at dw e) ⊘ at w e)) (neg (at (reg width ws dr k t) e) ⊘ at (reg width ws r k t) e)) (λ e v. larger (larger v (neg (at dw e) ⊘ at w e)) (neg (at (reg width ws dr n t) e) ⊘ at (reg width ws r n t) e)) null
    (λ e h v. rw (reg_front width ws dr k n t e h l, reg_front width ws r k n t e h l))

module _ (width : ℕ) (A : Problem) (H : Settings) (d : LaneData) (q : State) where
  module _ (atindptr atindices atmap : List ℕ) (C : ColsOf A atindptr atindices atmap) where
    costs_machine : vec A.n (cost_at atindptr atindices atmap A.vals d.c q.y) ≡ reduced_costs width A d q
    unfolding cost_at
    costs_machine = vec_same A.n _ _ (λ e h. rw (col_plus A atindptr atindices atmap C e h q.y))

    u_machine : (mu : Float) → vec A.n (u_at atindptr atindices atmap A.vals d.c mu q.x q.z q.y) ≡ u_of A H d q mu
    unfolding u_at cost_at u_of
    u_machine mu = vec_same A.n _ _ (λ e h. rw (col_plus A atindptr atindices atmap C e h q.y))

    dx_machine : (mu : Float) (dy : List Float) → vec A.n (dx_at atindptr atindices atmap A.vals (reduced_costs width A d q) (mu_over_x width A mu q) q.x q.z dy) ≡ dx_of A H d q mu dy
    unfolding dx_at dx_of
    dx_machine mu dy =
        vec_same A.n _ _
        (λ e h. rw (vec_at A.n (λ e. at d.c e ⊖ column_product A q.y e) e h, vec_at A.n (λ e. mu ⊘ at q.x e) e h, col_plus A atindptr atindices atmap C e h dy))

  f_machine : RowsOf A → (mu : Float) → vec A.m (f_at A.off A.cols A.vals A.s d.b mu q.x q.y (u_of A H d q mu)) ≡ f_of A H d q mu
  unfolding f_at f_of v_of row_product
  f_machine R mu = vec_same A.m _ _ (λ i h. rw (row_plus A R i h q.x, row_plus A R i h (u_of A H d q mu)))

-- a region apart from the one that a call writes
same : {width : ℕ} (p j : ℕ) {o k : ℕ} {old new : List Float} → Kept width o k old new → Apart p j o k → (t : ℕ) → t < width → reg width new p j t ≡ reg width old p j t
same p j K a t b = kept_apart K a t b

-- a call that writes a region below `top`
pub untouched : {width top o k : ℕ} {old new : List Float} → Kept width o k old new → o + k ≤ top → Untouched width top old new
untouched {width} {top} {o} {k} K h = record { size = K.size; beyond = λ j l. K.outside j (inr (omega (arith, places_le width {o = o + k} {k = top} h))) }

pub untouched_room : {width top : ℕ} {old new : List Float} → Untouched width top old new → room width new ≡ room width old
unfolding room
untouched_room {width} P = ap (λ (n : ℕ). n / width) P.size

pub untouched_on : {width top : ℕ} {a b c : List Float} → Untouched width top a b → Untouched width top b c → Untouched width top a c
untouched_on P Q = record { size = Q.size ∙ P.size; beyond = λ j l. Q.beyond j l ∙ P.beyond j l }

pub untouched_wider : {width top top' : ℕ} {a b : List Float} → Untouched width top a b → top ≤ top' → Untouched width top' a b
untouched_wider {width} P h = record { size = P.size; beyond = λ j l. P.beyond j (omega (arith, places_le width h)) }

module _ (width : ℕ) (A : Problem) where
  abbrev n : ℕ
  n = A.n

  abbrev m : ℕ
  m = A.m

  abbrev s : ℕ
  s = A.s

  nums_kept : (top : ℕ) {o k : ℕ} {old new : List Float} → Kept width o k old new → o + k ≤ top → Apart 0 n o k → Apart n n o k → Apart (y_at n) m o k → Apart (w_at n m) s o k
      → Still width A top old new
  nums_kept top K h ax az ay aw = record {
    frame = untouched K h;
    kept = λ t b i. record { x = kept_apart K ax t b i; z = kept_apart K az t b i; y = kept_apart K ay t b i; w = kept_apart K aw t b i };
  }

  still_on : {top : ℕ} {a b c : List Float} → Still width A top a b → Still width A top b c → Still width A top a c
  still_on P Q = record { frame = untouched_on P.frame Q.frame; kept = λ t b. Q.kept t b ∙ P.kept t b }

  still_wider : {top top' : ℕ} {a b : List Float} → Still width A top a b → top ≤ top' → Still width A top' a b
  still_wider P h = record { frame = untouched_wider P.frame h; kept = P.kept }

  -- ---- the factor and the substitutions: the numbers stay, and what dx needs
  solve_still : {E : ℕ} {a b : List Float} → KeptTwo width (l_at n m s) E (dy_at n m) m a b → Still width A (l_at n m s + E) a b
  solve_still {E} K = record {
    frame = record { size = K.size; beyond = λ j h. K.outside j (inr (omega arith)) (inr (omega (arith, places_le width {o = dy_at n m + m} {k = l_at n m s + E} (omega arith)))) };
    kept = λ t b i. record {
      x = two_apart K {r = 0} {e = n} (before (omega arith)) (before (omega arith)) t b i;
      z = two_apart K {r = n} {e = n} (before (omega arith)) (before (omega arith)) t b i;
      y = two_apart K {r = y_at n} {e = m} (before (omega arith)) (before (omega arith)) t b i;
      w = two_apart K {r = w_at n m} {e = s} (before (omega arith)) (after (omega arith)) t b i;
    };
  }

  pub readied : (d : ℕ → LaneData) (mu : List Float) {E : ℕ} {a b : List Float} → Ready width A d mu a → KeptTwo width (l_at n m s) E (dy_at n m) m a b → Ready width A d mu b
  readied d mu {E} {a} {b} R K = record {
    costs = λ t h. region (2 * n) (omega arith) t h ∙ R.costs t h ∙ ap (reduced_costs width A (d t)) (sym ((solve_still K).kept t h));
    quotients = λ t h. region (3 * n) (omega arith) t h ∙ R.quotients t h ∙ ap (mu_over_x width A (at mu t)) (sym ((solve_still K).kept t h));
  }
    where
      region : (o : ℕ) → o + n ≤ 4 * n → (t : ℕ) → t < width → reg width b o n t ≡ reg width a o n t
      region o l t h = two_apart K {r = o} {e = n} (before (omega arith)) (before (omega arith)) t h

  module _ (H : Settings) (d : ℕ → LaneData) (mu : List Float) where
    -- ---- the right-hand side: u, then f
    module _ (atindptr atindices atmap : List ℕ) (R : RowsOf A) (C : ColsOf A atindptr atindices atmap) where
      pub right_side : {w0 w1 w2 : List Float}
          → FillsThree width (2 * n) (3 * n) (4 * n) n (λ t. vec n (cost_at atindptr atindices atmap A.vals (d t).c (reg width w0 (y_at n) m t))) (λ t. mu_over_x width A (at mu t) (numbers_in width A w0 t))
          (λ t. vec n (u_at atindptr atindices atmap A.vals (d t).c (at mu t) (reg width w0 0 n t) (reg width w0 n n t) (reg width w0 (y_at n) m t))) w0 w1
          → Fills width (rhs_at n m) m (λ t. vec m (f_at A.off A.cols A.vals s (d t).b (at mu t) (reg width w1 0 n t) (reg width w1 (y_at n) m t) (reg width w1 (4 * n) n t))) w1 w2
          → RightSide width A H d mu w0 w2
      right_side {w0} {w1} {w2} F1 F2 = record { still = still_on s1 s2; rhs = f; ready = record { costs = costs; quotients = quotients } }
        where
          s1 : Still width A (l_at n m s) w0 w1
          s1 = nums_kept (l_at n m s) F1.kept (omega arith) (before (omega arith)) (before (omega arith)) (after (omega arith)) (after (omega arith))

          s2 : Still width A (l_at n m s) w1 w2
          s2 = nums_kept (l_at n m s) F2.kept (omega arith) (before (omega arith)) (before (omega arith)) (before (omega arith)) (after (omega arith))

          u : (t : ℕ) → t < width → reg width w1 (4 * n) n t ≡ u_of A H (d t) (numbers_in width A w0 t) (at mu t)
          u t b = F1.third t b ∙ u_machine width A H (d t) (numbers_in width A w0 t) atindptr atindices atmap C (at mu t)

          f : (t : ℕ) → t < width → reg width w2 (rhs_at n m) m t ≡ f_of A H (d t) (numbers_in width A w0 t) (at mu t)
          f t b =
              F2.within t b
              ∙ ap (λ (q : State). vec m (f_at A.off A.cols A.vals s (d t).b (at mu t) q.x q.y (reg width w1 (4 * n) n t))) (s1.kept t b)
              ∙ ap (λ (v : List Float). vec m (f_at A.off A.cols A.vals s (d t).b (at mu t) (reg width w0 0 n t) (reg width w0 (y_at n) m t) v)) (u t b)
              ∙ f_machine width A H (d t) (numbers_in width A w0 t) R (at mu t)

          costs : (t : ℕ) → t < width → reg width w2 (2 * n) n t ≡ reduced_costs width A (d t) (numbers_in width A w2 t)
          costs t b =
              same (2 * n) n F2.kept (before (omega arith)) t b
              ∙ F1.first t b
              ∙ costs_machine width A H (d t) (numbers_in width A w0 t) atindptr atindices atmap C
              ∙ ap (reduced_costs width A (d t)) (sym ((still_on s1 s2).kept t b))

          quotients : (t : ℕ) → t < width → reg width w2 (3 * n) n t ≡ mu_over_x width A (at mu t) (numbers_in width A w2 t)
          quotients t b = same (3 * n) n F2.kept (before (omega arith)) t b ∙ F1.second t b ∙ ap (mu_over_x width A (at mu t)) (sym ((still_on s1 s2).kept t b))

    -- ---- dx, dz and dw of dy, and theta
    module _ (atindptr atindices atmap : List ℕ) (C : ColsOf A atindptr atindices atmap) (slack : s ≤ m) where
      pub changed : {w0 w1 w2 r1 r2 r : List Float}
          → Ready width A d mu w0
          → FillsTwo width (2 * n) (3 * n) n (λ t. vec n (dx_at atindptr atindices atmap A.vals (reg width w0 (2 * n) n t) (reg width w0 (3 * n) n t) (reg width w0 0 n t) (reg width w0 n n t) (reg width w0 (dy_at n m) m t)))
          (λ t. complement n (at mu t) (reg width w0 n n t) (reg width w0 0 n t) (reg width w1 (2 * n) n t)) w0 w1
          → On width r1 (λ t. largest_ratio n (reg width w1 0 n t) (reg width w1 (2 * n) n t) (reg width w1 n n t) (reg width w1 (3 * n) n t))
          → Fills width (dw_at n m s) s (λ t. complement s (at mu t) (reg width w1 (w_at n m) s t) (reg width w1 (y_at n) s t) (reg width w1 (dy_at n m) s t)) w1 w2
          → On width r2 (λ t. largest_ratio s (reg width w2 (w_at n m) s t) (reg width w2 (dw_at n m s) s t) (reg width w2 (y_at n) s t) (reg width w2 (dy_at n m) s t))
          → On width r (λ t. larger (at r1 t) (at r2 t)) → Changed width A H d mu w0 w2 r
      changed {w0} {w1} {w2} {r1} {r2} {r} R F1 e1 F2 e2 e = record {
        still = still_on s1 s2;
        worked = λ t b i. record { dx = dx t b i; dz = dz t b i; dy = dy2 t b i; dw = dw t b i };
        largest = ratio;
      }
        where
          s1 : Still width A (l_at n m s) w0 w1
          s1 = nums_kept (l_at n m s) F1.kept (omega arith) (before (omega arith)) (before (omega arith)) (after (omega arith)) (after (omega arith))

          s2 : Still width A (l_at n m s) w1 w2
          s2 = nums_kept (l_at n m s) F2.kept (omega arith) (before (omega arith)) (before (omega arith)) (before (omega arith)) (before (omega arith))

          dy1 : (t : ℕ) → t < width → reg width w1 (dy_at n m) m t ≡ reg width w0 (dy_at n m) m t
          dy1 t b = same (dy_at n m) m F1.kept (after (omega arith)) t b

          dy2 : (t : ℕ) → t < width → reg width w2 (dy_at n m) m t ≡ reg width w0 (dy_at n m) m t
          dy2 t b = same (dy_at n m) m F2.kept (before (omega arith)) t b ∙ dy1 t b

          -- the slack rows leave the columns alone
          column : (o : ℕ) → o + n ≤ 4 * n → (t : ℕ) → t < width → reg width w2 o n t ≡ reg width w1 o n t
          column o h t b = same o n F2.kept (before (omega arith)) t b

          dx1 : (t : ℕ) → t < width → reg width w1 (2 * n) n t ≡ dx_of A H (d t) (numbers_in width A w0 t) (at mu t) (reg width w0 (dy_at n m) m t)
          dx1 t b = F1.first t b ∙ rw (R.costs t b, R.quotients t b) (dx_machine width A H (d t) (numbers_in width A w0 t) atindptr atindices atmap C (at mu t) (reg width w0 (dy_at n m) m t))

          dx : (t : ℕ) → t < width → reg width w2 (2 * n) n t ≡ dx_of A H (d t) (numbers_in width A w0 t) (at mu t) (reg width w0 (dy_at n m) m t)
          dx t b = column (2 * n) (omega arith) t b ∙ dx1 t b

          dz : (t : ℕ) → t < width → reg width w2 (3 * n) n t ≡ complement n (at mu t) (reg width w0 n n t) (reg width w0 0 n t) (dx_of A H (d t) (numbers_in width A w0 t) (at mu t) (reg width w0 (dy_at n m) m t))
          dz t b = column (3 * n) (omega arith) t b ∙ F1.second t b ∙ ap (complement n (at mu t) (reg width w0 n n t) (reg width w0 0 n t)) (dx1 t b)

          dw : (t : ℕ) → t < width → reg width w2 (dw_at n m s) s t ≡ complement s (at mu t) (reg width w0 (w_at n m) s t) (reg width w0 (y_at n) m t) (reg width w0 (dy_at n m) m t)
          dw t b =
              F2.within t b
              ∙ other_front width w1 s m t (at mu t) (reg width w1 (w_at n m) s t) (y_at n) (dy_at n m) slack
              ∙ ap (λ (q : State). complement s (at mu t) q.w q.y (reg width w1 (dy_at n m) m t)) (s1.kept t b)
              ∙ ap (complement s (at mu t) (reg width w0 (w_at n m) s t) (reg width w0 (y_at n) m t)) (dy1 t b)

          columns : On width r1 (λ t. largest_ratio n (reg width w2 0 n t) (reg width w2 (2 * n) n t) (reg width w2 n n t) (reg width w2 (3 * n) n t))
          columns =
              ratio_same n (λ t. reg width w1 0 n t) (λ t. reg width w1 (2 * n) n t) (λ t. reg width w1 n n t) (λ t. reg width w1 (3 * n) n t) (λ t. reg width w2 0 n t) (λ t. reg width w2 (2 * n) n t) (λ t. reg width w2 n n t) (λ t. reg width w2 (3 * n) n t) e1
              (column 0 (omega arith)) (column (2 * n) (omega arith)) (column n (omega arith)) (column (3 * n) (omega arith))

          ratio : (t : ℕ) → t < width → at r t ≡ theta A H (d t) (numbers_in width A w2 t) (direction_in width A w2 t)
          ratio t b =
              e.lane t b
              ∙ rw (
                columns.lane t b,
                e2.lane t b,
                largest_ratio_front width w2 s m t (reg width w2 (w_at n m) s t) (reg width w2 (dw_at n m s) s t) (y_at n) (dy_at n m) slack,
              ) (unfold theta in refl)

    -- ---- the step worked out: the right-hand side, the factor, the two substitutions, the changes
    module _ (ptr ind tptr tind tmap : List ℕ) (E : ℕ) (P : LowOf A ptr ind) (T : HighOf A ptr ind tptr tind tmap) where
      pub directed : {w0 w1 w2 w3 r : List Float}
          → RightSide width A H d mu w0 w1
          → Eliminated width A (numbers_in width A w1) (l_at n m s) E (dy_at n m) (λ t. back ptr tptr tind tmap (reg width w2 (l_at n m s) E t) m (front ptr ind m (reg width w2 (l_at n m s) E t) (reg width w1 (rhs_at n m) m t))) w1 w2
          → ((t : ℕ) → t < width → Holds A ptr ind (reg width w2 (l_at n m s) E t) (cell (factor A (numbers_in width A w1 t))))
          → Changed width A H d mu w2 w3 r
          → Directed width A H d (l_at n m s + E) mu w0 w3 r
      directed {w0} {w1} {w2} {w3} {r} F S L X = record {
        still = still_on (still_on (still_wider F.still (omega arith)) s2) (still_wider X.still (omega arith));
        worked = λ t b. X.worked t b ∙ along t b;
        largest = X.largest;
      }
        where
          s2 : Still width A (l_at n m s + E) w1 w2
          s2 = solve_still S.kept

          dy : (t : ℕ) → t < width → reg width w2 (dy_at n m) m t ≡ dy_of A H (d t) (numbers_in width A w0 t) (at mu t)
          dy t b =
              S.within t b
              ∙ back_machine A ptr ind P (reg width w2 (l_at n m s) E t) (cell (factor A (numbers_in width A w1 t))) (L t b) tptr tind tmap T m (omega arith) (front ptr ind m (reg width w2 (l_at n m s) E t) (reg width w1 (rhs_at n m) m t))
              ∙ ap (backward A (cell (factor A (numbers_in width A w1 t))) m) (front_machine A ptr ind P (reg width w2 (l_at n m s) E t) (cell (factor A (numbers_in width A w1 t))) (L t b) (reg width w1 (rhs_at n m) m t))
              ∙ ap (λ (q : State). backward A (cell (factor A q)) m (forward A (cell (factor A q)) (reg width w1 (rhs_at n m) m t))) (F.still.kept t b)
              ∙ ap (λ (v : List Float). backward A (cell (factor A (numbers_in width A w0 t))) m (forward A (cell (factor A (numbers_in width A w0 t))) v)) (F.rhs t b)
              ∙ (unfold dy_of in refl)

          along : (t : ℕ) → t < width → changes width A H d t (numbers_in width A w2 t) (at mu t) (reg width w2 (dy_at n m) m t) ≡ direction A H (d t) (numbers_in width A w0 t) (at mu t)
          along t b =
              ap (λ (q : State). changes width A H d t q (at mu t) (reg width w2 (dy_at n m) m t)) (s2.kept t b ∙ F.still.kept t b)
              ∙ ap (changes width A H d t (numbers_in width A w0 t) (at mu t)) (dy t b)
              ∙ (unfold direction in refl)

-- ---- the numbers moved
module _ (width m n s : ℕ) (damping : Float) (done : List Bool) where
  pub advanced : {w0 w1 w2 w3 w4 r g h : List Float}
      → On width g (λ t. smaller (damping ⊘ at r t) one) → On width h (λ t. cond (get_or done t false) null (at g t))
      → Fills width 0 n (λ t. moved n (at h t) (reg width w0 0 n t) (reg width w0 (2 * n) n t)) w0 w1
      → Fills width n n (λ t. moved n (at h t) (reg width w1 n n t) (reg width w1 (3 * n) n t)) w1 w2
      → Fills width (y_at n) m (λ t. moved m (at h t) (reg width w2 (y_at n) m t) (reg width w2 (dy_at n m) m t)) w2 w3
      → Fills width (w_at n m) s (λ t. moved s (at h t) (reg width w3 (w_at n m) s t) (reg width w3 (dw_at n m s) s t)) w3 w4
      → Advanced width m n s damping r done w0 w4
  advanced {w0} {w1} {w2} {w3} {w4} {r} {g} {h} eg eh U1 U2 U3 U4 = record {
    frame =
        untouched_on (untouched U1.kept (omega arith))
        (untouched_on (untouched U2.kept (omega arith)) (untouched_on (untouched U3.kept (omega arith)) (untouched U4.kept (omega arith))));
    taken = λ t b. (λ i. record { x = ex t b i; z = ez t b i; y = ey t b i; w = ew t b i }) ∙ ap (by t) (hs t b);
  }
    where
      by : ℕ → Float → State
      by t v = record { x = moved n v (reg width w0 0 n t) (reg width w0 (2 * n) n t); z = moved n v (reg width w0 n n t) (reg width w0 (3 * n) n t); y = moved m v (reg width w0 (y_at n) m t) (reg width w0 (dy_at n m) m t); w = moved s v (reg width w0 (w_at n m) s t) (reg width w0 (dw_at n m s) s t) }

      hs : (t : ℕ) → t < width → at h t ≡ cond (get_or done t false) null (smaller (damping ⊘ at r t) one)
      hs t b = eh.lane t b ∙ rw (eg.lane t b)

      ex : (t : ℕ) → t < width → reg width w4 0 n t ≡ moved n (at h t) (reg width w0 0 n t) (reg width w0 (2 * n) n t)
      ex t b = same 0 n U4.kept (before (omega arith)) t b ∙ same 0 n U3.kept (before (omega arith)) t b ∙ same 0 n U2.kept (before (omega arith)) t b ∙ U1.within t b

      ez : (t : ℕ) → t < width → reg width w4 n n t ≡ moved n (at h t) (reg width w0 n n t) (reg width w0 (3 * n) n t)
      ez t b =
          same n n U4.kept (before (omega arith)) t b ∙ same n n U3.kept (before (omega arith)) t b ∙ U2.within t b
          ∙ rw (same n n U1.kept (after (omega arith)) t b, same (3 * n) n U1.kept (after (omega arith)) t b)

      ey : (t : ℕ) → t < width → reg width w4 (y_at n) m t ≡ moved m (at h t) (reg width w0 (y_at n) m t) (reg width w0 (dy_at n m) m t)
      ey t b =
          same (y_at n) m U4.kept (before (omega arith)) t b ∙ U3.within t b
          ∙ rw (
            same (y_at n) m U2.kept (after (omega arith)) t b ∙ same (y_at n) m U1.kept (after (omega arith)) t b,
            same (dy_at n m) m U2.kept (after (omega arith)) t b ∙ same (dy_at n m) m U1.kept (after (omega arith)) t b,
          )

      ew : (t : ℕ) → t < width → reg width w4 (w_at n m) s t ≡ moved s (at h t) (reg width w0 (w_at n m) s t) (reg width w0 (dw_at n m s) s t)
      ew t b =
          U4.within t b
          ∙ rw (
            same (w_at n m) s U3.kept (after (omega arith)) t b ∙ same (w_at n m) s U2.kept (after (omega arith)) t b ∙ same (w_at n m) s U1.kept (after (omega arith)) t b,
            same (dw_at n m s) s U3.kept (after (omega arith)) t b ∙ same (dw_at n m s) s U2.kept (after (omega arith)) t b ∙ same (dw_at n m s) s U1.kept (after (omega arith)) t b,
          )

-- ---- the step: worked out, and taken

module _ (width : ℕ) (A : Problem) (H : Settings) (d : ℕ → LaneData) where
  -- the step is taken, by the lane's step length or, where the lane is done, by 0
  pub record Took (top : ℕ) (mu : List Float) (done : List Bool) (old new : List Float) : Type 0 where
    pub frame : Untouched width top old new
    pub taken :
        (l : ℕ)
        → l < width
        → let q = numbers_in width A old l in
        let r = direction A H (d l) q (at mu l) in
        numbers_in width A new l ≡ step_by A q (cond (get_or done l false) null (step_length A H (d l) q r)) r

module _ (width : ℕ) (A : Problem) (H : Settings) (d : ℕ → LaneData) (mu : List Float) (done : List Bool) where
  pub took : {damping : Float} {top : ℕ} {a b c r : List Float} → H.damping ≡ damping → Directed width A H d top mu a b r → Advanced width A.m A.n A.s damping r done b c → l_at A.n A.m A.s ≤ top → Took width A H d top mu done a c
  took {damping} {top} {a} {b} {c} {r} e D N u = record { frame = untouched_on D.still.frame (untouched_wider N.frame u); taken = λ t z. N.taken t z ∙ ap (by t) (length_is t z) ∙ to t z }
    where
      by : ℕ → Float → State
      by t v = step_by A (numbers_in width A b t) (cond (get_or done t false) null v) (direction_in width A b t)

      length_is : (t : ℕ) → t < width → smaller (damping ⊘ at r t) one ≡ step_length A H (d t) (numbers_in width A b t) (direction_in width A b t)
      length_is t z = ap₂ (λ (u v : Float). smaller (u ⊘ v) one) (sym e) (D.largest t z) ∙ (unfold step_length in refl)

      to : (t : ℕ) → t < width → by t (step_length A H (d t) (numbers_in width A b t) (direction_in width A b t))
          ≡ step_by A (numbers_in width A a t) (cond (get_or done t false) null (step_length A H (d t) (numbers_in width A a t) (direction A H (d t) (numbers_in width A a t) (at mu t)))) (direction A H (d t) (numbers_in width A a t) (at mu t))
      to t z =
          ap (λ (q : State). step_by A q (cond (get_or done t false) null (step_length A H (d t) q (direction_in width A b t))) (direction_in width A b t)) (D.still.kept t z)
          ∙ ap (λ (r : Direction). step_by A (numbers_in width A a t) (cond (get_or done t false) null (step_length A H (d t) (numbers_in width A a t) r)) r) (D.worked t z)
