-- The wait, where a program adds 0 * dp to every number of a done lane, as the Rust does: a finite step leaves the numbers as they are, and any other leaves a NaN,
-- of which the next test's G is a NaN. Assumes nothing.
use mathlib.Core.Path.{◌≡◌, refl, sym, ap, ◌∙◌, subst}
use mathlib.Core.Logic.{◌⊎◌, inl, inr, ⊎_elim, ◌≢◌}
use mathlib.Core.Bool.{Bool, true, false, not, cond, ◌&&◌, true≢false}
use mathlib.Core.List.{List}
use Prim.Native.Nat.{ℕ, zero, suc, ◌<◌}
use native.Mathlib.Nat.{eq-or-lt_of_le}
use native.Mathlib.Omega.{arith}
use lib.Dec.{T}
use lib.IntN.{pos}
use lib.Seq.{ext_get_or}
use lib.Ieee.{Float, nan, inf, fin, binary64, add, mul, div, of_int, is_nan}
use lib.Ieee.Scale.{finite}
use Rattle.root.specs.Root.{root}
use Rattle.lanes.specs.Lists.{at, vec, fold}
use Rattle.machine.specs.Machine.{Problem, LaneData, Settings, State, Direction, Machine, live, lost, Status, spoilt, done, steps, g, G, mu, status, direction, step_length, moved, stepped, finite_to, all_finite, start, after, next, left, yields}
use Rattle.lanes.specs.Arithmetic.{null, one, Σ, norm}
use Rattle.lanes.specs.Constants.{start_value}
use Rattle.machine.specs.Demand3.{Has}
use Rattle.machine.specs.Work.{step_of, step_by}
use Rattle.machine.specs.Theorems.{Sound, SoundList, SoundState}
use Rattle.lanes.proofs.Lists.{vec_length, vec_at}
use Rattle.machine.proofs.Floats.{moved_sound, unmoved, unmoved_nan, add_nan}
use Rattle.base.proofs.Bools.{and_out}

-- ---- a NaN goes through

mul_nan : (p : Float) → mul binary64 p nan ≡ nan
unfolding mul
mul_nan nan = refl
mul_nan (inf s) = refl
mul_nan (fin s m e) = refl

nan_mul : (p : Float) → mul binary64 nan p ≡ nan
unfolding mul
nan_mul p = refl

nan_add : (p : Float) → add binary64 nan p ≡ nan
unfolding add
nan_add p = refl

nan_div : (p : Float) → div binary64 nan p ≡ nan
unfolding div
nan_div p = refl

div_nan : (p : Float) → div binary64 p nan ≡ nan
unfolding div
div_nan nan = refl
div_nan (inf s) = refl
div_nan (fin s m e) = refl

Σ-nan : (n : ℕ) (f : ℕ → Float) (k : ℕ) → k < n → f k ≡ nan → Σ n f ≡ nan
unfolding Σ fold
Σ-nan zero f k h e = absurd (omega arith)
Σ-nan (suc n) f k h e = go (Σ-nan n f k) (eq-or-lt_of_le h)
  where
    go : (k < n → f k ≡ nan → Σ n f ≡ nan) → (suc k ≡ suc n) ⊎ (suc k < suc n) → add binary64 (Σ n f) (f n) ≡ nan
    go ih (inl z) = let s : k ≡ n = omega arith in ap (add binary64 (Σ n f)) (ap f (sym s) ∙ e) ∙ add_nan (Σ n f)
    go ih (inr l) = ap (λ (v : Float). add binary64 v (f n)) (ih (omega arith) e) ∙ nan_add (f n)

norm_nan : (n : ℕ) (v : List Float) (k : ℕ) → k < n → at v k ≡ nan → norm n v ≡ nan
unfolding norm root
norm_nan n v k h e = ap (root binary64) (Σ-nan n (λ j. mul binary64 (at v j) (at v j)) k h (ap (mul binary64 (at v k)) e ∙ mul_nan (at v k)))

-- ---- the numbers of a machine

moved_list : (n : ℕ) (h : Float) (p dp : List Float) → SoundList n p → SoundList n (moved n h p dp)
unfolding moved
moved_list n h p dp s =
    record {
      size = vec_length n (λ e. add binary64 (mul binary64 one (at p e)) (mul binary64 h (at dp e)));
      each = λ k b.
          subst Sound (sym (vec_at n (λ e. add binary64 (mul binary64 one (at p e)) (mul binary64 h (at dp e))) k b)) (moved_sound (at p k) h (at dp k) (s.each k b));
    }

thousand : Sound (start_value)
thousand = record { held = lib.Ieee.Fits.of_int-fits binary64 (pos 1000); plus = unfold of_int in refl }

start_list : (n : ℕ) → SoundList n (vec n (λ _. start_value))
start_list n = record { size = vec_length n (λ _. start_value); each = λ k b. subst Sound (sym (vec_at n (λ _. start_value) k b)) thousand }

-- ---- finite lists

and_false : (a b : Bool) → a && b ≡ false → (a ≡ false) ⊎ (b ≡ false)
and_false true b e = inr e
and_false false b e = inl refl

finite_at : (n : ℕ) (v : List Float) → finite_to n v ≡ true → (k : ℕ) → k < n → finite (at v k) ≡ true
unfolding finite_to
finite_at zero v e k h = absurd (omega arith)
finite_at (suc n) v e k h = go (λ (p : finite_to n v ≡ true). finite_at n v p k) (and_out (finite_to n v) (finite (at v n)) e) (eq-or-lt_of_le h)
  where
    go : (finite_to n v ≡ true → k < n → finite (at v k) ≡ true) → (finite_to n v ≡ true) × (finite (at v n) ≡ true) → (suc k ≡ suc n) ⊎ (suc k < suc n) → finite (at v k) ≡ true
    go ih p (inl z) = let s : k ≡ n = omega arith in ap (λ (j : ℕ). finite (at v j)) s ∙ p.1
    go ih p (inr l) = ih p.0 (omega arith)

finite_not : (n : ℕ) (v : List Float) → finite_to n v ≡ false → (k : ℕ) × (k < n) × (finite (at v k) ≡ false)
unfolding finite_to
finite_not zero v e = absurd (true≢false e)
finite_not (suc n) v e = go (finite_not n v) (and_false (finite_to n v) (finite (at v n)) e)
  where
    go : (finite_to n v ≡ false → (k : ℕ) × (k < n) × (finite (at v k) ≡ false)) → (finite_to n v ≡ false) ⊎ (finite (at v n) ≡ false)
        → (k : ℕ) × (k < suc n) × (finite (at v k) ≡ false)
    go ih (inl p) = let r = ih p in (r.0, omega (arith, r.1), r.2)
    go ih (inr p) = (n, omega arith, p)

-- 1 * p + 0 * dp, all along a list
pub unmoved_list : (n : ℕ) (p dp : List Float) → SoundList n p → finite_to n dp ≡ true → moved n null p dp ≡ p
unfolding moved
unmoved_list n p dp s e =
    let f : ℕ → Float = (λ k. add binary64 (mul binary64 one (at p k)) (mul binary64 null (at dp k))) in
    ext_get_or nan (vec n f) p (vec_length n f ∙ sym s.size)
    (λ k b.
    let h : k < n = omega (arith, vec_length n f) in
    vec_at n f k h ∙ unmoved (at p k) (at dp k) (s.each k h) (subst T (sym (finite_at n dp e k h)) tt))

pub unmoved_list_nan : (n : ℕ) (p dp : List Float) → finite_to n dp ≡ false → (k : ℕ) × (k < n) × (at (moved n null p dp) k ≡ nan)
unfolding moved
unmoved_list_nan n p dp e =
    let r = finite_not n dp e in (
      r.0,
      r.1,
      vec_at n (λ k. add binary64 (mul binary64 one (at p k)) (mul binary64 null (at dp k))) r.0 r.1
          ∙ unmoved_nan (at p r.0) (at dp r.0) (subst (λ (b : Bool). T (not b)) (sym r.2) tt),
    )

module _ (A : Problem) (H : Settings) (d : LaneData) where
  -- A NaN IN ANY OF x, z, y, w MAKES G A NaN
  pub nan_x : (q : State) (k : ℕ) → k < A.n → at q.x k ≡ nan → G A H d q ≡ nan
  unfolding G g
  nan_x q k h e =
      let s : Σ A.n (λ e. mul binary64 (at q.z e) (at q.x e)) ≡ nan = Σ-nan A.n (λ e. mul binary64 (at q.z e) (at q.x e)) k h (ap (mul binary64 (at q.z k)) e ∙ mul_nan (at q.z k)) in
      rw s (rw nan_add (nan_div _))

  pub nan_z : (q : State) (k : ℕ) → k < A.n → at q.z k ≡ nan → G A H d q ≡ nan
  unfolding G g
  nan_z q k h e =
      let s : Σ A.n (λ e. mul binary64 (at q.z e) (at q.x e)) ≡ nan = Σ-nan A.n (λ e. mul binary64 (at q.z e) (at q.x e)) k h (ap (λ (v : Float). mul binary64 v (at q.x k)) e ∙ nan_mul (at q.x k)) in
      rw s (rw nan_add (nan_div _))

  pub nan_w : (q : State) (k : ℕ) → k < A.s → at q.w k ≡ nan → G A H d q ≡ nan
  unfolding G g
  nan_w q k h e =
      let s : Σ A.s (λ i. mul binary64 (at q.w i) (at q.y i)) ≡ nan = Σ-nan A.s (λ i. mul binary64 (at q.w i) (at q.y i)) k h (ap (λ (v : Float). mul binary64 v (at q.y k)) e ∙ nan_mul (at q.y k)) in
      rw s (rw add_nan (nan_div _))

  pub nan_y : (q : State) (k : ℕ) → k < A.m → at q.y k ≡ nan → G A H d q ≡ nan
  unfolding G
  nan_y q k h e = rw (norm_nan A.m q.y k h e) (rw add_nan (div_nan _))

  -- ---- every machine's numbers are sound

  abbrev pub SoundMachine : Machine → Type 0
  SoundMachine (live q) = SoundState A q
  SoundMachine lost = Unit {0}

  pub start_sound : SoundMachine (start A H d)
  unfolding start
  start_sound = record { x = start_list A.n; z = start_list A.n; y = start_list A.m; w = start_list A.s }

  pub stepped_sound : (q : State) (t : Float) → SoundState A q → SoundState A (stepped A H d q t)
  unfolding stepped
  stepped_sound q t s =
      let r = direction A H d q t in
      let h = step_length A H d q r in
      record {
        x = moved_list A.n h q.x r.dx s.x;
        z = moved_list A.n h q.z r.dz s.z;
        y = moved_list A.m h q.y r.dy s.y;
        w = moved_list A.s h q.w r.dw s.w;
      }

  after_sound : (q : State) (t : Status) → SoundState A q → SoundMachine (after A H d q t)
  unfolding after
  after_sound q spoilt s = tt
  after_sound q done s = go (all_finite A (direction A H d q (mu A H d q)))
    where
      go : (b : Bool) → SoundMachine (cond b (live q) lost)
      go true = s
      go false = tt
  after_sound q (steps t) s = stepped_sound q t s

  pub next_sound : (M : Machine) → SoundMachine M → SoundMachine (next A H d M)
  unfolding next
  next_sound (live q) s = after_sound q (status A H d q) s
  next_sound lost s = tt

  -- NO NUMBER OF A MACHINE IS EVER -0, at any test
  pub left_sound : (j : ℕ) → SoundMachine (left A H d j)
  unfolding left
  left_sound zero = start_sound
  left_sound (suc j) = next_sound (left A H d j) (left_sound j)

  -- ---- the Rust's wait

  abbrev pub waited : State → Direction → State
  waited q r = step_by A q null r

  pub waited_keeps : (q : State) (r : Direction) → SoundState A q → all_finite A r ≡ true → waited q r ≡ q
  unfolding all_finite
  waited_keeps q r s e =
      let a = and_out (finite_to A.n r.dx && finite_to A.n r.dz && finite_to A.m r.dy) (finite_to A.s r.dw) e in
      let b = and_out (finite_to A.n r.dx && finite_to A.n r.dz) (finite_to A.m r.dy) a.0 in
      let c = and_out (finite_to A.n r.dx) (finite_to A.n r.dz) b.0 in
      λ i. record {
        x = unmoved_list A.n q.x r.dx s.x c.0 i;
        z = unmoved_list A.n q.z r.dz s.z c.1 i;
        y = unmoved_list A.m q.y r.dy s.y b.1 i;
        w = unmoved_list A.s q.w r.dw s.w a.1 i;
      }

  pub waited_spoils : (q : State) (r : Direction) → all_finite A r ≡ false → G A H d (waited q r) ≡ nan
  unfolding all_finite
  waited_spoils q r e =
      ⊎_elim
      (λ (a : finite_to A.n r.dx && finite_to A.n r.dz && finite_to A.m r.dy ≡ false).
      ⊎_elim
      (λ (b : finite_to A.n r.dx && finite_to A.n r.dz ≡ false).
      ⊎_elim
      (λ (c : finite_to A.n r.dx ≡ false). let k = unmoved_list_nan A.n q.x r.dx c in nan_x (waited q r) k.0 k.1 k.2)
      (λ (c : finite_to A.n r.dz ≡ false). let k = unmoved_list_nan A.n q.z r.dz c in nan_z (waited q r) k.0 k.1 k.2)
      (and_false (finite_to A.n r.dx) (finite_to A.n r.dz) b))
      (λ (c : finite_to A.m r.dy ≡ false). let k = unmoved_list_nan A.m q.y r.dy c in nan_y (waited q r) k.0 k.1 k.2)
      (and_false (finite_to A.n r.dx && finite_to A.n r.dz) (finite_to A.m r.dy) a))
      (λ (c : finite_to A.s r.dw ≡ false). let k = unmoved_list_nan A.s q.w r.dw c in nan_w (waited q r) k.0 k.1 k.2)
      (and_false (finite_to A.n r.dx && finite_to A.n r.dz && finite_to A.m r.dy) (finite_to A.s r.dw) e)

  pub G-spoilt : (q : State) → G A H d q ≡ nan → status A H d q ≡ spoilt
  unfolding status is_nan
  G-spoilt q e = rw e refl

  -- THE RUST'S STEP IS THE MACHINE'S: the numbers are those of the machine after it, and the next test yields of them what it yields of the machine
  pub rust_next : (q : State) (t : Status) → status A H d q ≡ t → t ≢ spoilt → SoundState A q
      → Has (after A H d q t) (step_of A H d q t) × (status A H d (step_of A H d q t) ≡ yields A H d (after A H d q t))
  unfolding after yields
  rust_next q spoilt e n s = absurd (n refl)
  rust_next q (steps v) e n s = (refl, refl)
  rust_next q done e n s = go (all_finite A r) refl
    where
      r : Direction
      r = direction A H d q (mu A H d q)

      go : (b : Bool) → all_finite A r ≡ b
          → Has (cond b (live q) lost) (waited q r) × (status A H d (waited q r) ≡ yields A H d (cond b (live q) lost))
      go true z = (waited_keeps q r s z, ap (status A H d) (waited_keeps q r s z))
      go false z = (tt, G-spoilt (waited q r) (waited_spoils q r z))
