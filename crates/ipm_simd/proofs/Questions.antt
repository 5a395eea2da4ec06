-- What a yes at each of the questions says. Assumes nothing.
use mathlib.Core.Path.{◌≡◌, refl}
use mathlib.Core.Bool.{true, ◌&&◌}
use Prim.Native.Nat.{ℕ, ◌*◌, ◌≤◌}
use native.Mathlib.Omega.{arith}
use borrow.Author.Tests.{eqb-true, leb-true, eq-eqb}
use lib.Dec.{eqb, leb}
use Rattle.layout.specs.Layout.{working_size}
use Rattle.lanes.specs.Controls.{fractions_proper}
use Rattle.lanes.specs.declared.Controls.{Controls}
use Rattle.csr.specs.Verdict.{passed, refused}
use Rattle.base.proofs.Bools.{and_left, and_right}
use Rattle.machine.specs.Outcome.{largest_limit}
use Rattle.ipm_simd.specs.declared.Lengths.{Lengths}
use Rattle.ipm_simd.specs.Solve.{lengths_right, lengths_verdict}
use Rattle.csr.proofs.Yes.{asked}

pub not_passed : (q p l : ℕ) → refused q p l ≡ passed → ⊥
not_passed q p l h = let z : ◌≡◌ {A = ℕ} 0 1 = cc in omega arith

-- question 8, of four lengths that are right and a fifth
pub lengths_last : (m n : ℕ) (L : Lengths) → L.b ≡ 4 * m → L.c ≡ 4 * n → L.tolerances ≡ 12 → L.output ≡ 4 * n → eqb L.prices (4 * m) ≡ lengths_right m n L
lengths_last m n L p q r o = rw (eq-eqb L.b (4 * m) p, eq-eqb L.c (4 * n) q, eq-eqb L.tolerances 12 r, eq-eqb L.output (4 * n) o) refl

pub record LengthsRight (m n : ℕ) (L : Lengths) : Type 0 where
  pub b_long : L.b ≡ 4 * m
  pub c_long : L.c ≡ 4 * n
  pub tolerances_long : L.tolerances ≡ 12
  pub output_long : L.output ≡ 4 * n
  pub prices_long : L.prices ≡ 4 * m

lengths_of : (m n : ℕ) (L : Lengths) → lengths_right m n L ≡ true → LengthsRight m n L
lengths_of m n L h =
    let b = eqb L.b (4 * m) in
    let c = eqb L.c (4 * n) in
    let t = eqb L.tolerances 12 in
    let o = eqb L.output (4 * n) in
    let y = eqb L.prices (4 * m) in
    let bcto = and_left (b && c && t && o) y h in
    let bct = and_left (b && c && t) o bcto in
    let bc = and_left (b && c) t bct in
    record {
      b_long = eqb-true _ _ (and_left b c bc);
      c_long = eqb-true _ _ (and_right b c bc);
      tolerances_long = eqb-true _ _ (and_right (b && c) t bct);
      output_long = eqb-true _ _ (and_right (b && c && t) o bcto);
      prices_long = eqb-true _ _ (and_right (b && c && t && o) y h);
    }

-- questions 6 to 10 and 13 got a yes
pub record LengthsPassed (W E m n s : ℕ) (L : Lengths) (k : Controls) : Type 0 where
  pub index_long : W ≤ L.index
  pub slack : s ≤ m
  pub lengths : LengthsRight m n L
  pub work_long : working_size 4 m n s E ≤ L.work
  pub from : 1 ≤ k.limit
  pub up_to : k.limit ≤ largest_limit
  pub fractions : fractions_proper k ≡ true

pub lengths_passed : (W E m n s : ℕ) (L : Lengths) (k : Controls) → lengths_verdict W E m n s L k ≡ passed → LengthsPassed W E m n s L k
unfolding lengths_verdict
lengths_passed W E m n s L k h =
    let h6 = asked (leb W L.index) _ 6 0 0 h in
    let h7 = asked (leb s m) _ 7 0 0 h6.1 in
    let h8 = asked (lengths_right m n L) _ 8 0 0 h7.1 in
    let h9 = asked (leb (working_size 4 m n s E) L.work) _ 9 0 0 h8.1 in
    let h10 = asked (leb 1 k.limit && leb k.limit largest_limit) _ 10 0 0 h9.1 in
    let h13 = asked (fractions_proper k) _ 13 0 0 h10.1 in
    record {
      index_long = leb-true W L.index h6.0;
      slack = leb-true s m h7.0;
      lengths = lengths_of m n L h8.0;
      work_long = leb-true (working_size 4 m n s E) L.work h9.0;
      from = leb-true 1 k.limit (and_left (leb 1 k.limit) (leb k.limit largest_limit) h10.0);
      up_to = leb-true k.limit largest_limit (and_right (leb 1 k.limit) (leb k.limit largest_limit) h10.0);
      fractions = h13.0;
    }
