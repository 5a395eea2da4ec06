-- Laws of parts of a list, and of lists of numbers that are below a bound or rise. Assumes nothing.
use mathlib.Core.Path.{◌≡◌, refl, sym, ap, ◌∙◌}
use mathlib.Core.Bool.{Bool, true, false, cond}
use mathlib.Core.List.{List, [], ◌∷◌, ◌++◌}
use Prim.Native.Nat.{ℕ, zero, suc, ◌+◌, ◌-◌, ◌<◌, ◌≤◌}
use native.Mathlib.Omega.{arith}
use lib.ListN.{length, get_or, take, drop, length-take, length-drop}
use lib.Seq.{take_at, drop_at, get_or-take, get_or-drop, length-take-le}
use borrow.Author.Tests.{eq-eqb, ne_eqb}
use Rattle.base.specs.Cat.{pick}
use Rattle.base.specs.Numbers.{cut, find, Below, Under, Rising}

-- ---- parts

pub length_takes : (q : ℕ) (l : List ℕ) → q ≤ length l → length (take q l) ≡ q
length_takes q l b = length-take q l ∙ omega arith

pub part_le : (n f : ℕ) (l : List ℕ) → length (take n (drop f l)) ≤ length l
part_le n f l = simp (length-take, length-drop) (omega arith)

pub cut_length {ℓ} : {A : Type ℓ} (a e : ℕ) (xs : List A) → e ≤ length xs → length (cut a e xs) ≡ e - a
cut_length a e xs h = length-take-le (e - a) (drop a xs) (simp length-drop (omega arith))

pub cut_at {ℓ} : {A : Type ℓ} (a e : ℕ) (xs : List A) (k : ℕ) (z : A) → k < e - a → get_or (cut a e xs) k z ≡ get_or xs (a + k) z
cut_at a e xs k z h = get_or-take (e - a) (drop a xs) k z h ∙ get_or-drop a xs k z

-- THE CUT: what stands between x and z
pub cut_part : (x y z : List ℕ) (a e : ℕ) → a ≡ length x → e ≡ length x + length y → cut a e (x ++ (y ++ z)) ≡ y
cut_part x y z a e p q = ap (take (e - a)) (drop_at x (y ++ z) a (sym p)) ∙ take_at y z (e - a) (omega arith)

-- ---- numbers below a bound

pub below_at : (n : ℕ) (l : List ℕ) (q : ℕ) → Below n l → q < length l → get_or l q 0 < n
below_at n [] q h g = absurd (omega arith)
below_at n (x ∷ l) zero h g = h.0
below_at n (x ∷ l) (suc q) h g = below_at n l q h.1 (omega arith)

pub below_more : (n k : ℕ) (l : List ℕ) → n ≤ k → Below n l → Below k l
below_more n k [] h b = tt
below_more n k (x ∷ l) h b = (omega (arith, b.0), below_more n k l h b.1)

pub below_join : (n : ℕ) (xs ys : List ℕ) → Below n xs → Below n ys → Below n (xs ++ ys)
below_join n [] ys p q = q
below_join n (x ∷ xs) ys p q = (p.0, below_join n xs ys p.1 q)

pub below_pick : (t : Bool) (x : ℕ) → Below (suc x) (pick t x)
below_pick true x = (omega arith, tt)
below_pick false x = tt

-- ---- numbers that rise

pub under_at : (x : ℕ) (xs : List ℕ) (i : ℕ) → Under x xs → i < length xs → x < get_or xs i 0
under_at x [] i h l = absurd (omega arith)
under_at x (y ∷ xs) zero h l = h.0
under_at x (y ∷ xs) (suc i) h l = under_at x xs i h.1 (omega arith)

pub under_trans : (x y : ℕ) (ys : List ℕ) → x < y → Under y ys → Under x ys
under_trans x y [] l h = tt
under_trans x y (z ∷ ys) l h = (omega (arith, h.0), under_trans x y ys l h.1)

pub under_snoc : (x : ℕ) (xs : List ℕ) (y : ℕ) → Under x xs → x < y → Under x (xs ++ (y ∷ []))
under_snoc x [] y u l = (l, tt)
under_snoc x (z ∷ xs) y u l = (u.0, under_snoc x xs y u.1 l)

pub rising_snoc : (xs : List ℕ) (y : ℕ) → Rising xs → Below y xs → Rising (xs ++ (y ∷ []))
rising_snoc [] y r b = (tt, tt)
rising_snoc (x ∷ xs) y r b = (under_snoc x xs y r.0 b.0, rising_snoc xs y r.1 b.1)

-- in a rising list each number has its own place
pub find_at : (a : List ℕ) (i : ℕ) → Rising a → i < length a → find (get_or a i 0) a ≡ i
unfolding find
find_at [] i h l = absurd (omega arith)
find_at (x ∷ a) zero h l = ap (λ (t : Bool). cond t 0 (suc (find x a))) (eq-eqb x x refl)
find_at (x ∷ a) (suc i) h l =
    ap (λ (t : Bool). cond t 0 (suc (find (get_or a i 0) a))) (ne_eqb (get_or a i 0) x (λ e. omega (arith, under_at x a i h.0 (omega arith))))
    ∙ ap suc (find_at a i h.1 (omega arith))
