-- Laws of sums. Assumes nothing.
use mathlib.Core.Path.{◌≡◌, refl, sym, ap, ap₂, ◌∙◌}
use mathlib.Core.Bool.{Bool, true, false, ◌&&◌, cond}
use Prim.Native.Nat.{ℕ, zero, suc, ◌+◌, ◌-◌, ◌*◌, ◌<◌, ◌≤◌}
use native.Mathlib.Omega.{arith}
use native.Mathlib.Decide.{ℕ_discrete}
use native.Mathlib.Nat.{add-zero, add-suc, suc-mul, mul-add}
use native.Mathlib.Numerals.{add-one}
use lib.Dec.{eqb}
use borrow.Author.Tests.{eq-eqb, ne_eqb}
use Rattle.base.specs.Sums.{sum, one}

pub sum_ext : (n : ℕ) (f g : ℕ → ℕ) → ((k : ℕ) → k < n → f k ≡ g k) → sum n f ≡ sum n g
unfolding sum
sum_ext zero f g h = refl
sum_ext (suc n) f g h = ap₂ ◌+◌ (sum_ext n f g (λ k l. h k (omega arith))) (h n (omega arith))

pub sum_front : (n : ℕ) (f : ℕ → ℕ) → sum (suc n) f ≡ f 0 + sum n (λ k. f (suc k))
unfolding sum
sum_front zero f = omega arith
sum_front (suc n) f = omega (arith, sum_front n f)

pub sum_add : (a b : ℕ) (f : ℕ → ℕ) → sum (a + b) f ≡ sum a f + sum b (λ k. f (a + k))
unfolding sum
sum_add a zero f = rw (add-zero a) (omega arith)
sum_add a (suc b) f = rw (add-suc a b) (omega (arith, sum_add a b f))

pub sum_next : (n : ℕ) (f : ℕ → ℕ) → sum (n + 1) f ≡ sum n f + f n
unfolding sum
sum_next n f = ap (λ (k : ℕ). sum k f) (add-one n)

pub sum_zero : (n : ℕ) (f : ℕ → ℕ) → ((k : ℕ) → k < n → f k ≡ 0) → sum n f ≡ 0
unfolding sum
sum_zero zero f h = refl
sum_zero (suc n) f h = omega (arith, sum_zero n f (λ k l. h k (omega arith)), h n (omega arith))

pub sum_plus : (n : ℕ) (f g : ℕ → ℕ) → sum n (λ k. f k + g k) ≡ sum n f + sum n g
unfolding sum
sum_plus zero f g = refl
sum_plus (suc n) f g = omega (arith, sum_plus n f g)

-- a sum whose tail is 0
pub sum_cut : (n m : ℕ) (f g : ℕ → ℕ) → m ≤ n → ((k : ℕ) → k < m → f k ≡ g k) → ((k : ℕ) → m ≤ k → k < n → f k ≡ 0) → sum n f ≡ sum m g
sum_cut n m f g h same tail =
    let e : n ≡ m + (n - m) = omega arith in
    ap (λ (x : ℕ). sum x f) e
    ∙ sum_add m (n - m) f
    ∙ ap₂ ◌+◌ (sum_ext m f g same) (sum_zero (n - m) (λ k. f (m + k)) (λ k l. tail (m + k) (omega arith) (omega arith)))
    ∙ add-zero (sum m g)

-- two sums that differ in one term
pub sum_at : (n : ℕ) (f g : ℕ → ℕ) (k : ℕ) → k < n → ((x : ℕ) → (x ≡ k → ⊥) → f x ≡ g x) → sum n g + f k ≡ sum n f + g k
unfolding sum
sum_at zero f g k l h = absurd (omega arith)
sum_at (suc n) f g k l h = go (ℕ_discrete k n) (sum_at n f g k)
  where
    go : Dec (k ≡ n) → (k < n → ((x : ℕ) → (x ≡ k → ⊥) → f x ≡ g x) → sum n g + f k ≡ sum n f + g k) → sum n g + g n + f k ≡ sum n f + f n + g k
    go (yes z) ih = omega (arith, ap f z, ap g z, sum_ext n f g (λ x u. h x (λ y. omega arith)))
    go (no z) ih = omega (arith, ih (omega arith) h, h n (λ y. z (sym y)))

-- rows before columns, or columns before rows
pub sum_swap : (n m : ℕ) (f : ℕ → ℕ → ℕ) → sum n (λ e. sum m (λ i. f i e)) ≡ sum m (λ i. sum n (λ e. f i e))
unfolding sum
sum_swap zero m f = sym (sum_zero m (λ i. 0) (λ k l. refl))
sum_swap (suc n) m f = ap (λ (x : ℕ). x + sum m (λ i. f i n)) (sum_swap n m f) ∙ sym (sum_plus m (λ i. sum n (λ e. f i e)) (λ i. f i n))

-- ---- how large a sum is

pub sum_le : (n : ℕ) (f g : ℕ → ℕ) → ((k : ℕ) → k < n → f k ≤ g k) → sum n f ≤ sum n g
unfolding sum
sum_le zero f g h = omega arith
sum_le (suc n) f g h = omega (arith, sum_le n f g (λ k b. h k (omega arith)), h n (omega arith))

-- n numbers up to c
pub sum_times : (n c : ℕ) (f : ℕ → ℕ) → ((k : ℕ) → k < n → f k ≤ c) → sum n f ≤ n * c
unfolding sum
sum_times zero c f h = omega arith
sum_times (suc n) c f h = omega (arith, sum_times n c f (λ k b. h k (omega arith)), h n (omega arith), suc-mul n c)

pub sum_more : (a b : ℕ) (f : ℕ → ℕ) → a ≤ b → sum a f ≤ sum b f
sum_more a b f h =
    let z : a + (b - a) ≡ b = omega arith in
    omega (arith, sum_add a (b - a) f, ap (λ (k : ℕ). sum k f) z)

-- pairs of n rows, each with at most half of what its two rows have: a row is in n pairs, and twice in that with itself
pub sum_pairs : (n : ℕ) (w : ℕ → ℕ → ℕ) (f : ℕ → ℕ) → ((i j : ℕ) → i < n → j ≤ i → 2 * w i j ≤ f i + f j) → 2 * sum n (λ i. sum (suc i) (λ j. w i j)) ≤ suc n * sum n f
unfolding sum
sum_pairs zero w f h = omega arith
sum_pairs (suc n) w f h =
    omega (arith, sum_pairs n w f (λ i j b d. h i j (omega arith) d), last (suc n) (omega arith), mul-add (suc n) (sum n f) (f n), suc-mul (suc n) (sum n f + f n))
  where
    last : (k : ℕ) → k ≤ suc n → 2 * sum k (λ j. w n j) ≤ k * f n + sum k f
    last zero l = omega arith
    last (suc k) l = omega (arith, last k (omega arith), h n k (omega arith) (omega arith), suc-mul k (f n))

-- number i and all before it
pub sum_room : (n i : ℕ) (f : ℕ → ℕ) → i < n → sum i f + f i ≤ sum n f
sum_room n i f h = omega (arith, sum_next i f, sum_more (i + 1) n f (omega arith))

-- ---- tests counted

pub one_le : (t : Bool) → one t ≤ 1
one_le true = omega arith
one_le false = omega arith

pub sum_ones : (n : ℕ) → sum n (λ k. 1) ≡ n
unfolding sum
sum_ones zero = refl
sum_ones (suc n) = omega (arith, sum_ones n)

pub count_le : (n : ℕ) (p : ℕ → Bool) → sum n (λ k. one (p k)) ≤ n
count_le n p = omega (arith, sum_le n (λ k. one (p k)) (λ k. 1) (λ k l. one_le (p k)), sum_ones n)

-- 0 + 1 + .. + (n - 1)
pub triangle : (n : ℕ) → 2 * sum n (λ k. k) + n ≡ n * n
unfolding sum
triangle zero = refl
triangle (suc n) = omega (arith, triangle n)

pub sum_if : (b : Bool) (n : ℕ) (f : ℕ → Bool) → sum n (λ j. one (b && f j)) ≡ cond b (sum n (λ j. one (f j))) 0
sum_if true n f = refl
sum_if false n f = sum_zero n (λ j. 0) (λ k l. refl)

-- one of n numbers is x
pub sum_once : (n x : ℕ) → x < n → sum n (λ e. one (eqb e x)) ≡ 1
unfolding sum
sum_once zero x h = absurd (omega arith)
sum_once (suc n) x h = go (ℕ_discrete n x) (sum_once n x)
  where
    go : Dec (n ≡ x) → (x < n → sum n (λ e. one (eqb e x)) ≡ 1) → sum n (λ e. one (eqb e x)) + one (eqb n x) ≡ 1
    go (yes q) ih = omega (arith, sum_zero n (λ e. one (eqb e x)) (λ k l. ap one (ne_eqb k x (λ r. omega arith))), ap one (eq-eqb n x q))
    go (no q) ih = omega (arith, ih (omega arith), ap one (ne_eqb n x q))
