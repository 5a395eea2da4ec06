-- Lanes that are interleaved in a list. Assumes nothing.
use mathlib.Core.Path.{◌≡◌, sym, ap, ◌∙◌}
use mathlib.Core.List.{List}
use Prim.Native.Nat.{ℕ, ◌+◌, ◌*◌, ◌/◌, ◌%◌, ◌≤◌, ◌<◌}
use native.Mathlib.Nat.{add-zero, div-add-mod', div-eq_of_lt, div-lt_iff_lt-mul, mod-eq_of_lt, mod-lt, mul-add-div, mul-add-mod_self_left, mul_comm, mul-le-mul_left, mul-suc}
use native.Mathlib.Omega.{arith}
use lib.ListN.{length}
use lib.Seq.{ext_get_or}
use lib.Ieee.{Float, nan}
use Rattle.lanes.specs.Lists.{at}
use Rattle.lanes.proofs.Lists.{vec_length, vec_at, vec_same}
use Rattle.machine.specs.Outcome.{interleaved}

-- lane l of entry e is within the list
slot : (K n e l : ℕ) → l < K → e < n → K * e + l < K * n
slot K n e l h b = omega (arith, mul-suc K e, mul-le-mul_left K b)

-- each place of the list is an entry's lane
entry_of : (K n i : ℕ) → 1 ≤ K → i < K * n → (i % K < K) × (i / K < n)
entry_of K n i o b = (mod-lt i o, (div-lt_iff_lt-mul {k = K} {x = i} {y = n} o).1 (omega (arith, mul_comm K n)))

pub interleaved_same : (K n : ℕ) (f g : ℕ → ℕ → Float) → 1 ≤ K → ((l e : ℕ) → l < K → e < n → f l e ≡ g l e) → interleaved K n f ≡ interleaved K n g
unfolding interleaved
interleaved_same K n f g o h = vec_same (K * n) (λ p. f (p % K) (p / K)) (λ p. g (p % K) (p / K)) (λ p b. let s = entry_of K n p o b in h (p % K) (p / K) s.0 s.1)

module _ (K n : ℕ) (f : ℕ → ℕ → Float) where
  interleaved_length : length (interleaved K n f) ≡ K * n
  unfolding interleaved
  interleaved_length = vec_length (K * n) (λ p. f (p % K) (p / K))

  pub interleaved_at : (l e : ℕ) → l < K → e < n → at (interleaved K n f) (K * e + l) ≡ f l e
  unfolding interleaved
  interleaved_at l e h b =
      let r : (K * e + l) % K ≡ l = mul-add-mod_self_left K e l ∙ mod-eq_of_lt h in
      let q : (K * e + l) / K ≡ e = mul-add-div (omega arith) e l ∙ ap (λ (j : ℕ). e + j) (div-eq_of_lt h) ∙ add-zero e in
      vec_at (K * n) (λ p. f (p % K) (p / K)) (K * e + l) (slot K n e l h b) ∙ ap (λ (j : ℕ). f j ((K * e + l) / K)) r ∙ ap (f l) q

  -- a list of n entries that has each lane's entry in its place is the lanes interleaved
  pub interleaved_is : (v : List Float) → 1 ≤ K → length v ≡ K * n → ((l e : ℕ) → l < K → e < n → at v (K * e + l) ≡ f l e) → v ≡ interleaved K n f
  unfolding interleaved
  interleaved_is v o s h =
      ext_get_or nan v (interleaved K n f) (s ∙ sym interleaved_length)
      (λ i b.
      let p = entry_of K n i o (omega arith) in
      let g : K * (i / K) + i % K ≡ i = omega (arith, div-add-mod' i K, mul_comm K (i / K)) in
      ap (at v) (sym g) ∙ h (i % K) (i / K) p.0 p.1 ∙ sym (vec_at (K * n) (λ p. f (p % K) (p / K)) i (omega arith)))
