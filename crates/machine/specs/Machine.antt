-- Document 01's one-lane machine, sentence by sentence in its order: a test, a step, the wait, and what test k reads. Definitions only.
-- 'In what follows a is a stored value, i a row and e a column; sums, differences, products and quotients go left to right, sums inside a row by rising index.'
-- The operators associate to the left, products and quotients before sums and differences; `each` and `fold` go through their index rising.
use Rattle.std.specs.Prelude.{Bool, true, ◌&&◌, List, [], ◌∷◌, ◌++◌, eqb, get_or, set, Float}
use Rattle.std.proofs.Math.Bool.{cond}
use Prim.Native.Nat.{ℕ, zero, suc, ◌+◌, ◌-◌}
use Rattle.std.proofs.Math.Dec.{ltb}
use Rattle.std.specs.Float.Ieee.{lt, neg, is_nan}
use Rattle.std.specs.Float.Ieee.Scale.{finite}
pub use Rattle.machine.specs.declared.Status.{Status}
pub use Rattle.machine.specs.declared.Status.TheVariants.{Spoilt as spoilt, Done as done, Step as steps}
use Rattle.csr.specs.Pattern.{has, row}
use Rattle.csr.specs.Factor.{factor_has}
use Rattle.root.specs.Root.{root}
use Rattle.lanes.specs.Lists.{at, grow, vec, fold, each}
use Rattle.lanes.specs.Constants.{start_value, centring_value, damping_value}
use Rattle.lanes.specs.Arithmetic.{◌⊕◌, ◌⊖◌, ◌⊗◌, ◌⊘◌, √, whole, null, one, larger, smaller, magnitude, Σ, norm}
use Rattle.base.specs.Numbers.{find}

-- ---- 'The machine is fed the matrix, s and its own lane's b, c and three tolerances, and nothing of another lane.'

-- the matrix, by its lists, and s: the same for every lane
pub record Problem : Type 0 where
  pub m : ℕ
  pub n : ℕ
  pub s : ℕ
  pub off : List ℕ
  pub cols : List ℕ
  pub vals : List Float

-- its own lane's b, c and three tolerances
pub record LaneData : Type 0 where
  pub b : List Float
  pub c : List Float
  pub primal : Float
  pub dual : Float
  pub gap : Float

-- 'State: x and z (n each), y (m), w (s) .. These are its numbers.'
pub record State : Type 0 where
  pub x : List Float
  pub z : List Float
  pub y : List Float
  pub w : List Float

-- what a solve fixes besides: centring and damping, and the divisors of R and Q
pub record Settings : Type 0 where
  pub centring : Float
  pub damping : Float
  pub divisor_r : Problem → LaneData → State → Float
  pub divisor_q : Problem → LaneData → State → Float

-- 'The machine of document 01 has the two as given', with 'R = root(Σr²)/(1 + root(Σx²))' and 'Q = root(Σq²)/(1 + root(Σy²))'
abbrev pub as_given : Float → Float → Settings
as_given centring damping = record {
  centring = centring;
  damping = damping;
  divisor_r = λ A d q. one ⊕ norm A.n q.x;
  divisor_q = λ A d q. one ⊕ norm A.m q.y;
}

-- 'mu = 0.1·g/(n + s)', 'h = smaller(0.9995/theta, 1)'
abbrev pub standard : Settings
standard = as_given centring_value damping_value

-- what a step works out: 'all its dx, dz, dy, dw'
pub record Direction : Type 0 where
  pub dx : List Float
  pub dz : List Float
  pub dy : List Float
  pub dw : List Float

-- ---- what a step does list by list

-- 'dz = (mu − z·dx)/x − z', of z, x, dx; 'dw = (mu − w·dy)/y − w', of w, y, dy
unfoldable pub complement : ℕ → Float → List Float → List Float → List Float → List Float
unfolding vec
complement k t p r dr = vec k (λ e. (t ⊖ at p e ⊗ at dr e) ⊘ at r e ⊖ at p e)

-- 'from +0.0 the larger in turn with −dx/x and −dz/z, column by column'
unfoldable pub largest_ratio : ℕ → List Float → List Float → List Float → List Float → Float
unfolding fold larger neg
largest_ratio k a da b db = fold k (λ e v. larger (larger v (neg (at da e) ⊘ at a e)) (neg (at db e) ⊘ at b e)) null

-- 'Each number p becomes 1·p + h·dp.'
unfoldable pub moved : ℕ → Float → List Float → List Float → List Float
unfolding vec
moved k h p dp = vec k (λ e. one ⊗ at p e ⊕ h ⊗ at dp e)

-- all of the first k are finite
unfoldable pub finite_to : ℕ → List Float → Bool
finite_to zero v = true
finite_to (suc k) v = finite_to k v && finite (at v k)

-- (i, j) of a list of rows
abbrev pub cell : List (List Float) → ℕ → ℕ → Float
cell rows i j = at (get_or rows i []) j

module _ (A : Problem) where
  -- is (i, e) a stored entry of the matrix, and its value
  unfoldable pub holds : ℕ → ℕ → Bool
  unfolding has row
  holds i e = has (row A.off A.cols i) e

  unfoldable pub entry : ℕ → ℕ → Float
  unfolding row find
  entry i e = at A.vals (get_or A.off i 0 + find e (row A.off A.cols i))

  -- 'The machine's factor has (i, j), j ≤ i, exactly when i = j or there is a chain from i to j.'
  unfoldable pub in_factor : ℕ → ℕ → Bool
  unfolding factor_has
  in_factor i j = factor_has A.off A.cols i j

  -- '(Au)_i is Σa·u_e over the entries of row i'
  unfoldable pub row_product : List Float → ℕ → Float
  unfolding each holds entry
  row_product u i = each A.n (holds i) (λ e v. v ⊕ entry i e ⊗ at u e) null

  -- '(Aᵀy)_e is Σa·y_i over the entries of column e, (Aᵀdy)_e the same with dy'
  unfoldable pub column_product : List Float → ℕ → Float
  unfolding each holds entry
  column_product y e = each A.m (λ i. holds i e) (λ i v. v ⊕ entry i e ⊗ at y i) null

  -- ---- the factor: a list of rows, of which row i has i + 1 places; what is not in the factor is never read

  -- 'start w_i/y_i if i = j < s, else 0; add a_ie·a_je·x_e/z_e for each shared e; subtract l_ik·l_jk for each k counted in D'
  unfoldable pub reduced : State → (ℕ → ℕ → Float) → ℕ → ℕ → Float
  unfolding each holds entry in_factor
  reduced q l i j =
      let start = cond (eqb i j && ltb i A.s) (at q.w i ⊘ at q.y i) null in
      let shared = each A.n (λ e. holds i e && holds j e) (λ e v. v ⊕ entry i e ⊗ entry j e ⊗ at q.x e ⊘ at q.z e) start in
      each j (λ k. in_factor i k && in_factor j k) (λ k v. v ⊖ l i k ⊗ l j k) shared

  -- 'then the root of the absolute value if i = j, else divide by l_jj'
  unfoldable pub factor_entry : State → (ℕ → ℕ → Float) → ℕ → ℕ → Float
  unfolding reduced magnitude root
  factor_entry q l i j = cond (eqb i j) (√ (magnitude (reduced q l i j))) (reduced q l i j ⊘ l j j)

  -- 'Factor l, rows then columns rising': row i is made from the rows before it, and in it (i, j) from what stands before
  unfoldable pub factor : State → List (List Float)
  unfolding grow factor_entry in_factor
  factor q = grow A.m (λ rows i. grow (suc i) (λ r j. cond (in_factor i j) (factor_entry q (cell (rows ++ (r ∷ []))) i j) null))

  -- 'Forward, i rising: dy_i = f_i less dy_j·l_ij for stored j < i, over l_ii.'
  unfoldable pub forward : (ℕ → ℕ → Float) → List Float → List Float
  unfolding grow each in_factor
  forward l f = grow A.m (λ d i. each i (λ j. in_factor i j) (λ j v. v ⊖ at d j ⊗ l i j) (at f i) ⊘ l i i)

  -- 'Backward, i falling: less dy_j·l_ji for stored j > i rising, over l_ii': rows i - 1, .., 0 of the list
  unfoldable pub backward : (ℕ → ℕ → Float) → ℕ → List Float → List Float
  unfolding each in_factor
  backward l zero d = d
  backward l (suc i) d =
      backward l i
      (set d i (each A.m (λ j. ltb i j && in_factor j i) (λ j v. v ⊖ at d j ⊗ l j i) (at d i) ⊘ l i i))

  -- 'all its dx, dz, dy, dw are finite'
  unfoldable pub all_finite : Direction → Bool
  unfolding finite_to
  all_finite r = finite_to A.n r.dx && finite_to A.n r.dz && finite_to A.m r.dy && finite_to A.s r.dw

  module _ (H : Settings) (d : LaneData) where
    -- ---- 'Test.'

    -- 'r_i = b_i, less w_i if i < s, less each a·x_e in turn'
    unfoldable pub primal_residual : State → ℕ → Float
    unfolding each holds entry
    primal_residual q i =
        each A.n (holds i) (λ e v. v ⊖ entry i e ⊗ at q.x e)
        (cond (ltb i A.s) (at d.b i ⊖ at q.w i) (at d.b i))

    -- 'q_e = z_e + c_e, less each a·y_i'
    unfoldable pub dual_residual : State → ℕ → Float
    unfolding each holds entry
    dual_residual q e = each A.m (λ i. holds i e) (λ i v. v ⊖ entry i e ⊗ at q.y i) (at q.z e ⊕ at d.c e)

    -- 'R = root(Σr²)/(1 + root(Σx²))'
    unfoldable pub R : State → Float
    unfolding primal_residual norm vec
    R q = norm A.m (vec A.m (primal_residual q)) ⊘ H.divisor_r A d q

    -- 'Q = root(Σq²)/(1 + root(Σy²))'
    unfoldable pub Q : State → Float
    unfolding dual_residual norm vec
    Q q = norm A.n (vec A.n (dual_residual q)) ⊘ H.divisor_q A d q

    -- 'g = Σz·x + Σw·y over the s slack rows'
    unfoldable pub g : State → Float
    unfolding Σ
    g q = Σ A.n (λ e. at q.z e ⊗ at q.x e) ⊕ Σ A.s (λ i. at q.w i ⊗ at q.y i)

    -- 'mu = 0.1·g/(n + s)', with the centring given for 0.1
    unfoldable pub mu : State → Float
    unfolding g
    mu q = H.centring ⊗ g q ⊘ whole (A.n + A.s)

    -- 'G = g/(1 + root(Σx²) + root(Σy²))'
    unfoldable pub G : State → Float
    unfolding g norm
    G q = g q ⊘ (one ⊕ norm A.n q.x ⊕ norm A.m q.y)

    -- 'Spoilt if G is NaN ..; else done if R, Q and G are each strictly below their tolerance; else it steps.'
    unfoldable pub status : State → Status
    unfolding R Q G mu lt is_nan
    status q = cond (is_nan (G q)) spoilt (cond (lt (R q) d.primal && lt (Q q) d.dual && lt (G q) d.gap) done (steps (mu q)))

    -- ---- 'Step.'

    -- 'u_e = x_e·(c_e − (Aᵀy)_e + mu/x_e)/z_e'
    unfoldable pub u_of : State → Float → List Float
    unfolding vec column_product
    u_of q t = vec A.n (λ e. at q.x e ⊗ (at d.c e ⊖ column_product q.y e ⊕ t ⊘ at q.x e) ⊘ at q.z e)

    -- 'v_i = mu/y_i if i < s, else 0, plus each a·x_e'
    unfoldable pub v_of : State → Float → ℕ → Float
    unfolding each holds entry
    v_of q t i = each A.n (holds i) (λ e v. v ⊕ entry i e ⊗ at q.x e) (cond (ltb i A.s) (t ⊘ at q.y i) null)

    -- 'f_i = −((b_i − v_i) − (Au)_i)'
    unfoldable pub f_of : State → Float → List Float
    unfolding vec v_of u_of row_product
    f_of q t = let u = u_of q t in vec A.m (λ i. neg ((at d.b i ⊖ v_of q t i) ⊖ row_product u i))

    -- the factor, then forward and backward
    unfoldable pub dy_of : State → Float → List Float
    unfolding factor forward backward f_of
    dy_of q t = let l = factor q in backward (cell l) A.m (forward (cell l) (f_of q t))

    -- 'dx_e = (c_e − (Aᵀy)_e − (Aᵀdy)_e + mu/x_e)·x_e/z_e'
    unfoldable pub dx_of : State → Float → List Float → List Float
    unfolding vec column_product
    dx_of q t dy =
        vec A.n (λ e. (at d.c e ⊖ column_product q.y e ⊖ column_product dy e ⊕ t ⊘ at q.x e) ⊗ at q.x e ⊘ at q.z e)

    -- dy, then dx of dy, then 'dz ..', and 'For i < s, dw ..'
    unfoldable pub direction : State → Float → Direction
    unfolding dy_of dx_of complement
    direction q t =
        let dy = dy_of q t in
        let dx = dx_of q t dy in
        record { dx = dx; dz = complement A.n t q.z q.x dx; dy = dy; dw = complement A.s t q.w q.y dy }

    -- 'Theta: .. with −dx/x and −dz/z, column by column; separately from +0.0 with −dw/w and −dy/y over slack rows; then the larger of both.'
    unfoldable pub theta : State → Direction → Float
    unfolding largest_ratio larger
    theta q r = larger (largest_ratio A.n q.x r.dx q.z r.dz) (largest_ratio A.s q.w r.dw q.y r.dy)

    -- 'h = smaller(0.9995/theta, 1)', with the damping given for 0.9995
    unfoldable pub step_length : State → Direction → Float
    unfolding theta smaller
    step_length q r = smaller (H.damping ⊘ theta q r) one

    -- 'Each number p becomes 1·p + h·dp.'
    unfoldable pub stepped : State → Float → State
    unfolding direction step_length moved
    stepped q t =
        let r = direction q t in
        let h = step_length q r in
        record {
          x = moved A.n h q.x r.dx;
          z = moved A.n h q.z r.dz;
          y = moved A.m h q.y r.dy;
          w = moved A.s h q.w r.dw;
        }

-- a machine has its numbers, or 'it is spoilt at every later test, and its numbers there are free'
pub data Machine : Type 0 where
  live : State → Machine
  lost : Machine

-- 'all 1000.0'
abbrev pub fresh : Problem → State
fresh A =
    record {
      x = vec A.n (λ _. start_value);
      z = vec A.n (λ _. start_value);
      y = vec A.m (λ _. start_value);
      w = vec A.s (λ _. start_value);
    }

module _ (A : Problem) (H : Settings) (d : LaneData) where
  unfoldable pub start : Machine
  unfolding vec
  start = live (fresh A)

  -- the step or the wait after a test: 'Spoilt .. and then at every later test too'; 'A done machine works out its step too. If all its dx, dz, dy, dw are finite
  -- it keeps its numbers, bit for bit; otherwise it is spoilt at every later test'
  unfoldable pub after : State → Status → Machine
  unfolding direction all_finite stepped mu
  after q spoilt = lost
  after q done = cond (all_finite A (direction A H d q (mu A H d q))) (live q) lost
  after q (steps t) = live (stepped A H d q t)

  unfoldable pub next : Machine → Machine
  unfolding after status
  next lost = lost
  next (live q) = after q (status A H d q)

  -- what j steps or waits leave
  unfoldable pub left : ℕ → Machine
  unfolding start next
  left zero = start
  left (suc j) = next (left j)

  -- 'Test 1 reads them so; each later test reads what the step or the wait before it left.'
  unfoldable pub machine : ℕ → Machine
  unfolding left
  machine k = left (k - 1)

  -- what a machine's test yields
  unfoldable pub yields : Machine → Status
  unfolding status
  yields lost = spoilt
  yields (live q) = status A H d q
