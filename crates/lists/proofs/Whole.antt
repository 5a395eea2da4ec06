-- Laws of the sixteen lists together. Assumes nothing.
use mathlib.Core.Path.{◌≡◌, refl, sym, ap, ◌∙◌}
use mathlib.Core.List.{List, ◌++◌, append_assoc}
use Prim.Native.Nat.{ℕ, ◌+◌, ◌<◌, ◌≤◌}
use native.Mathlib.Omega.{arith}
use lib.ListN.{length, length-append, drop}
use lib.Seq.{sets-eq}
use Rattle.base.specs.Cat.{cat, Wrote}
use Rattle.lists.specs.Lists.{Shape, list_of, field, side_of, ten_of, ends_of, columns_of, plan_of}
use Rattle.lists.specs.declared.Side.{Side}
use Rattle.lists.specs.declared.Side.TheVariants.{Factor, Matrix}
use Rattle.lists.specs.declared.What.TheVariants.{Numbers, Places}
use Rattle.lists.specs.declared.Which.{Which}
use Rattle.lists.specs.declared.Which.TheVariants.{AnormIndptr, AnormIndptrI, AnormIndptrJ, AnormIndices, LdecompIndptr, LdecompIndptrI, LdecompIndptrJ, Lindptr, LdiagIndptr, Lindices}
use Rattle.base.proofs.Write.{wrote_join, wrote_as, cat_next, cat_room}

-- ---- three lists one after the other
pub three_length : (x y z : List ℕ) → length (x ++ y ++ z) ≡ length x + length y + length z
three_length x y z = omega (arith, length-append (x ++ y) z, length-append x y)

pub three : (a b c d : List ℕ) (start p q r : ℕ) (x y z : List ℕ) → Wrote a b start x p → Wrote b c p y q → Wrote c d q z r → Wrote a d start (x ++ y ++ z) r
three a b c d start p q r x y z u v w = wrote_join a c d start q r (x ++ y) z (wrote_join a b c start p q x y u v) w

pub side_is : (g : Shape) (s : Side) (m n : ℕ) → side_of g s m n ≡ ends_of g s m n ++ columns_of g s Numbers m n ++ columns_of g s Places m n
unfolding side_of
side_is g s m n = refl

-- ---- the sixteen

regroup : (a0 a1 a2 a3 a4 a5 a6 a7 a8 a9 r0 r1 r2 s0 s1 s2 : List ℕ)
    → a0 ++ a1 ++ a2 ++ a3 ++ a4 ++ a5 ++ a6 ++ a7 ++ a8 ++ a9 ++ r0 ++ r1 ++ r2 ++ s0 ++ s1 ++ s2
    ≡ (a0 ++ a1 ++ a2 ++ a3 ++ a4 ++ a5 ++ a6 ++ a7 ++ a8 ++ a9) ++ (r0 ++ r1 ++ r2) ++ (s0 ++ s1 ++ s2)
regroup a0 a1 a2 a3 a4 a5 a6 a7 a8 a9 r0 r1 r2 s0 s1 s2 = simp append_assoc

-- the sixteen are the ten and then the two transposes
pub plan_parts : (g : Shape) (m n : ℕ) → plan_of g m n ≡ ten_of g m 10 ++ side_of g Factor m m ++ side_of g Matrix m n
unfolding plan_of ten_of cat side_of
plan_parts g m n =
    regroup (list_of g AnormIndptr m) (list_of g AnormIndptrI m) (list_of g AnormIndptrJ m) (list_of g AnormIndices m) (list_of g LdecompIndptr m) (list_of g LdecompIndptrI m) (list_of g LdecompIndptrJ m) (list_of g Lindptr m) (list_of g LdiagIndptr m) (list_of g Lindices m)
    (ends_of g Factor m m) (columns_of g Factor Numbers m m) (columns_of g Factor Places m m)
    (ends_of g Matrix m n) (columns_of g Matrix Numbers m n) (columns_of g Matrix Places m n)

-- ---- the ten
module _ (g : Shape) (m : ℕ) where
  pub ten_start : (a : List ℕ) (start : ℕ) → Wrote a a start (ten_of g m 0) start
  unfolding ten_of
  ten_start a start = record { is = refl; next = omega arith }

  pub ten_next : (a b c : List ℕ) (start at r k : ℕ) (w : Which) → w ≡ field k → Wrote a b start (ten_of g m k) at → Wrote b c at (list_of g w m) r → Wrote a c start (ten_of g m (k + 1)) r
  unfolding ten_of
  ten_next a b c start at r k w e p q =
      wrote_as a c start r _ _ (ap (λ (x : Which). ten_of g m k ++ list_of g x m) e ∙ sym (cat_next k (λ i. list_of g (field i) m))) (wrote_join a b c start at r _ _ p q)

  pub ten_room : (n start l at k : ℕ) (w : Which) → w ≡ field k → k < n → start + length (ten_of g m n) ≤ l → at ≡ start + length (ten_of g m k) → at + length (list_of g w m) ≤ l
  unfolding ten_of
  ten_room n start l at k w e hk h q = omega (arith, cat_room n k (λ i. list_of g (field i) m) hk, ap (λ (x : Which). length (list_of g x m)) e)

-- ---- from the start of the memory
pub as_written : (a b : List ℕ) (l : List ℕ) (r : ℕ) → length l ≤ length a → Wrote a b 0 l r → (b ≡ l ++ drop (length l) a) × (r ≡ length l)
as_written a b l r h w =
    let z : 0 + length l ≡ length l = omega arith in
    (w.is ∙ sets-eq l a 0 (omega arith) ∙ ap (λ (k : ℕ). l ++ drop k a) z, omega (arith, w.next))
