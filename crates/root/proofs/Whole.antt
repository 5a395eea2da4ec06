-- `whole_root n` is the largest number whose square is no more than n. Assumes nothing.
use mathlib.Core.Path.{◌≡◌}
use Prim.Native.Nat.{ℕ, zero, suc, ◌*◌, ◌/◌, ◌^◌, ◌≤◌, ◌<◌}
use native.Mathlib.Nat.{lt_of_lt_of_le, pow-suc}
use native.Mathlib.Omega.{arith}
use mathlib.Core.Bool.{Bool, true, false, not, cond}
use lib.Dec.{T, leb, leb→le, nleb→lt}
use lib.Ieee.{size}
use lib.Ieee.Digits.{size-lt}
use Rattle.root.specs.Root.{more, root_in, whole_root}
use Rattle.root.proofs.Squares.{sq_suc, sq_twice}

-- q is the whole root of n
abbrev pub Is : ℕ → ℕ → Type 0
Is n q = (q * q ≤ n) × (n < suc q * suc q)

step : (n r : ℕ) → Is (n / 4) r → Is n (more n (2 * r))
step n r h = go (leb (suc (2 * r) * suc (2 * r)) n) (leb→le (suc (2 * r) * suc (2 * r)) n) (nleb→lt (suc (2 * r) * suc (2 * r)) n)
  where
    go : (b : Bool) → (T b → suc (2 * r) * suc (2 * r) ≤ n) → (T (not b) → n < suc (2 * r) * suc (2 * r)) → Is n (cond b (suc (2 * r)) (2 * r))
    go true p q = (p tt, omega (arith, h.1, sq_suc (suc (2 * r)), sq_suc (2 * r), sq_suc r, sq_two r))
      where
        sq_two : (r : ℕ) → 2 * r * (2 * r) ≡ 4 * (r * r)
        sq_two r = omega (arith, sq_twice r)
    go false p q = (omega (arith, h.0, sq_twice r), q tt)

root_in_lem : (d n : ℕ) → n < 4 ^ d → Is n (root_in d n)
unfolding root_in
root_in_lem zero n h = (omega arith, omega arith)
root_in_lem (suc d) n h = step n (root_in d (n / 4)) (root_in_lem d (n / 4) (omega (arith, pow-suc 4 d)))

two_four : (d : ℕ) → 2 ^ d ≤ 4 ^ d
two_four zero = omega arith
two_four (suc d) = omega (arith, pow-suc 2 d, pow-suc 4 d, two_four d)

pub whole_root_lem : (n : ℕ) → Is n (whole_root n)
unfolding whole_root
whole_root_lem n = root_in_lem (size n) n (lt_of_lt_of_le (size-lt n) (two_four (size n)))
