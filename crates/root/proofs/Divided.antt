-- The other 26 digits of the root by one division (Zimmermann, Karatsuba Square Root): from w * w + r = d to the root of d * 2 ^ 52. Assumes nothing.
use mathlib.Core.Path.{◌≡◌, sym, subst}
use Prim.Native.Nat.{ℕ, ◌+◌, ◌-◌, ◌*◌, ◌/◌, ◌%◌, ◌^◌, ◌≤◌, ◌<◌}
use native.Mathlib.Nat.{mul-add, add-mul, mul-le-mul, div-add-mod', div-le_of_le-mul, mod-lt}
use native.Mathlib.Omega.{arith}
use Rattle.root.specs.Steps.{Digits}
use Rattle.root.proofs.Squares.{sq_next, sq_lt_back}

-- t is the quotient and u the remainder
pub record Divided (d w r t u : ℕ) : Type 0 where
  pub is : w * w + r ≡ d
  pub rest : r ≤ 2 * w
  pub least : 2 ^ 26 ≤ w
  pub most : w < 2 ^ 27
  pub quotient : t ≤ 2 ^ 26
  pub squared : t * t ≤ 2 ^ 52
  pub left : u < w * 2
  pub split : t * (w * 2) + u ≡ r * 2 ^ 26

pub divided : (d w r : ℕ) → Digits d w r → 2 ^ 52 ≤ d → d < 2 ^ 54 → Divided d w r (r * 2 ^ 26 / (w * 2)) (r * 2 ^ 26 % (w * 2))
divided d w r h lo hi =
    let least : 2 ^ 26 ≤ w =
    (let z : 2 ^ 26 < w + 1 = sq_lt_back (2 ^ 26) (w + 1) (omega (arith, sq_next w, h.is, h.rest)) in
    omega arith) in
    let q : r * 2 ^ 26 / (w * 2) ≤ 2 ^ 26 = div-le_of_le-mul (w * 2) (omega (arith, h.rest)) in
    record {
      is = h.is;
      rest = h.rest;
      least = least;
      most = sq_lt_back w (2 ^ 27) (omega (arith, h.is));
      quotient = q;
      squared = mul-le-mul q q;
      left = mod-lt (r * 2 ^ 26) (omega arith);
      split = div-add-mod' (r * 2 ^ 26) (w * 2);
    }

square : (w t : ℕ) → (w * 2 ^ 26 + t) * (w * 2 ^ 26 + t) ≡ w * w * 2 ^ 52 + t * (w * 2) * 2 ^ 26 + t * t
square w t = omega (arith, mul-add (w * 2 ^ 26 + t) (w * 2 ^ 26) t, add-mul (w * 2 ^ 26) t (w * 2 ^ 26), add-mul (w * 2 ^ 26) t t)

pub kept : {d w r t u : ℕ} → Divided d w r t u → t * t ≤ u * 2 ^ 26 → Digits (d * 2 ^ 52) (w * 2 ^ 26 + t) (u * 2 ^ 26 - t * t)
kept {d} {w} {r} {t} {u} v h = record {
  is = omega (arith, square w t, v.is, v.split);
  rest = omega (arith, v.left);
}

pub room : {d w r t u : ℕ} → Divided d w r t u → t * t ≤ u * 2 ^ 26 + (w * 2 ^ 26 + t) * 2 - 1
room v = omega (arith, v.squared, v.least)

less_one : (q : ℕ) → 1 ≤ q → (q - 1) * (q - 1) + 2 * q ≡ q * q + 1
less_one q h =
    let z : q ≡ (q - 1) + 1 = omega arith in
    let s : q * q ≡ (q - 1) * (q - 1) + 2 * (q - 1) + 1 = subst (λ (x : ℕ). x * x ≡ (q - 1) * (q - 1) + 2 * (q - 1) + 1) (sym z) (sq_next (q - 1)) in
    omega arith

pub lowered : {d w r t u : ℕ} → Divided d w r t u → u * 2 ^ 26 < t * t
    → Digits (d * 2 ^ 52) (w * 2 ^ 26 + t - 1) (u * 2 ^ 26 + (w * 2 ^ 26 + t) * 2 - 1 - t * t)
lowered {d} {w} {r} {t} {u} v h = record {
  is = omega (arith, less_one (w * 2 ^ 26 + t) (omega (arith, v.least)), square w t, v.is, v.split, room v, v.least);
  rest = omega (arith, v.least);
}
