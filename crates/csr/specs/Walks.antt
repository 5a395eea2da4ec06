-- What is filled is walked, and what is walked is filled: the definition of `chain?` (Factor.antt) rests on it.
-- Assumes nothing.
use Rattle.std.specs.Prelude.{◌≡◌, refl, ◌⊎◌, Bool, false, ◌&&◌, eqb}
use Rattle.std.proofs.Common.{sym, ap, ◌∙◌, inl, inr, arith, ne_eqb}
use Rattle.std.proofs.Math.Path.{ap₂}
use Rattle.std.proofs.Math.Logic.{⊎_elim}
use Rattle.std.proofs.Math.Bool.{true, ◌||◌}
use mathlib.Core.List.{List, [], ◌∷◌, ◌++◌}
use Prim.Native.Nat.{ℕ, zero, suc, ◌<◌}
use Rattle.std.proofs.Math.Decide.{ℕ_discrete}
use Rattle.base.proofs.Bools.{or_left, or_right, or_out, and_in, and_out, and_comm}
use Rattle.csr.specs.Pattern.{fill, has, shares, row, neighbours}
use Rattle.csr.specs.Chain.{Linked, Walk}
use Rattle.base.specs.Numbers.{Below}
use Rattle.base.proofs.Numbers.{below_join, below_more}

-- neighbours are filled
pub fill_nb : (nb : ℕ → ℕ → Bool) (b i j : ℕ) → nb i j ≡ true → fill nb b i j ≡ true
unfolding fill
fill_nb nb zero i j e = e
fill_nb nb (suc b) i j e = or_left (fill nb b i j) (fill nb b i b && fill nb b j b) (fill_nb nb b i j e)

module _ (nb : ℕ → ℕ → Bool) (nb-sym : (i j : ℕ) → nb i j ≡ nb j i) where
  fill_sym : (b i j : ℕ) → fill nb b i j ≡ fill nb b j i
  unfolding fill
  fill_sym zero i j = nb-sym i j
  fill_sym (suc b) i j = ap₂ ◌||◌ (fill_sym b i j) (and_comm (fill nb b i b) (fill nb b j b))

  linked_join : (i : ℕ) (ks : List ℕ) (k : ℕ) (ls : List ℕ) (j : ℕ) → Linked nb i ks k → Linked nb k ls j → Linked nb i (ks ++ (k ∷ ls)) j
  linked_join i [] k ls j p q = (p, q)
  linked_join i (x ∷ ks) k ls j p q = (p.0, linked_join x ks k ls j p.1 q)

  join : (b i j : ℕ) → Walk nb b i b → Walk nb b b j → Walk nb (suc b) i j
  join b i j p q = record {
    between = p.between ++ (b ∷ q.between);
    linked = linked_join i p.between b q.between j p.linked q.linked;
    below = below_join (suc b) p.between (b ∷ q.between) (below_more b (suc b) p.between (omega arith) p.below) (omega arith, below_more b (suc b) q.between (omega arith) q.below);
  }

  weaken : (b i j : ℕ) → Walk nb b i j → Walk nb (suc b) i j
  weaken b i j p = record { between = p.between; linked = p.linked; below = below_more b (suc b) p.between (omega arith) p.below }

  -- what is filled is walked
  pub fill→walk : (b i j : ℕ) → fill nb b i j ≡ true → Walk nb b i j
  unfolding fill
  fill→walk zero i j e = record { between = []; linked = e; below = tt }
  fill→walk (suc b) i j e = ⊎_elim
      (λ (l : fill nb b i j ≡ true). weaken b i j (fill→walk b i j l))
      (λ (r : fill nb b i b && fill nb b j b ≡ true).
      let s = and_out (fill nb b i b) (fill nb b j b) r in
      join b i j (fill→walk b i b s.0) (fill→walk b b j (fill_sym b b j ∙ s.1)))
      (or_out (fill nb b i j) (fill nb b i b && fill nb b j b) e)

  -- one more row in front
  pub Extends : ℕ → Type 0
  Extends b = (i k j : ℕ) → nb i k ≡ true → k < b → fill nb b k j ≡ true → fill nb b i j ≡ true

  -- what is walked is filled: row by row from the last
  walk→fill' : (b : ℕ) → Extends b → (i : ℕ) (ks : List ℕ) (j : ℕ) → Linked nb i ks j → Below b ks → fill nb b i j ≡ true
  unfolding Extends
  walk→fill' b ex i [] j p h = fill_nb nb b i j p
  walk→fill' b ex i (k ∷ ks) j p h = ex i k j p.0 h.0 (walk→fill' b ex k ks j p.1 h.1)

  -- the step from b to b + 1: row k is below b, or it is b
  extend_suc : (b : ℕ) → Extends b → Extends (suc b)
  unfolding Extends fill
  extend_suc b ex i k j n l e = go (ℕ_discrete k b) (or_out (fill nb b k j) (fill nb b k b && fill nb b j b) e)
    where
      both : fill nb b i b ≡ true → fill nb b j b ≡ true → fill nb b i j || (fill nb b i b && fill nb b j b) ≡ true
      both p q = or_right (fill nb b i j) (fill nb b i b && fill nb b j b) (and_in (fill nb b i b) (fill nb b j b) p q)

      go : Dec (k ≡ b) → (fill nb b k j ≡ true) ⊎ (fill nb b k b && fill nb b j b ≡ true) → fill nb b i j || (fill nb b i b && fill nb b j b) ≡ true
      go (yes q) (inl u) = both (fill_nb nb b i b (rw q at n)) (fill_sym b j b ∙ (rw q at u))
      go (yes q) (inr u) = both (fill_nb nb b i b (rw q at n)) (and_out (fill nb b k b) (fill nb b j b) u).1
      go (no q) (inl u) = or_left (fill nb b i j) (fill nb b i b && fill nb b j b) (ex i k j n (omega arith) u)
      go (no q) (inr u) =
          let s = and_out (fill nb b k b) (fill nb b j b) u in
          both (ex i k b n (omega arith) s.0) s.1

  extends : (b : ℕ) → Extends b
  unfolding Extends
  extends zero i k j n l e = absurd (omega arith)
  extends (suc b) i k j n l e = extend_suc b (extends b) i k j n l e

  pub walk→fill : (b i j : ℕ) → Walk nb b i j → fill nb b i j ≡ true
  walk→fill b i j w = walk→fill' b (extends b) i w.between j w.linked w.below

-- ---- rows of a matrix: to share a column is symmetric
has_cons : (y : ℕ) (ys : List ℕ) (x : ℕ) → has (y ∷ ys) x ≡ eqb x y || has ys x
unfolding has
has_cons y ys x = refl

eqb_sym : (a b : ℕ) → eqb a b ≡ eqb b a
eqb_sym a b = go (ℕ_discrete a b)
  where
    go : Dec (a ≡ b) → eqb a b ≡ eqb b a
    go (yes e) = rw e
    go (no e) = ne_eqb a b e ∙ sym (ne_eqb b a (λ q. e (sym q)))

or_swap : (a b c d : Bool) → a || b || (c || d) ≡ a || c || (b || d)
or_swap true b c d = refl
or_swap false true true d = refl
or_swap false true false d = refl
or_swap false false true d = refl
or_swap false false false d = refl

shares_nil : (xs : List ℕ) → shares xs [] ≡ false
unfolding shares has
shares_nil [] = refl
shares_nil (x ∷ xs) = shares_nil xs

shares_cons : (xs : List ℕ) (y : ℕ) (ys : List ℕ) → shares xs (y ∷ ys) ≡ has xs y || shares xs ys
unfolding shares has
shares_cons [] y ys = refl
shares_cons (x ∷ xs) y ys =
    ap₂ (λ (s t : Bool). s || has ys x || t) (eqb_sym x y) (shares_cons xs y ys) ∙ or_swap (eqb y x) (has ys x) (has xs y) (shares xs ys)

pub shares_sym : (xs ys : List ℕ) → shares xs ys ≡ shares ys xs
unfolding shares
shares_sym [] ys = sym (shares_nil ys)
shares_sym (x ∷ xs) ys = ap (λ (t : Bool). has ys x || t) (shares_sym xs ys) ∙ sym (shares_cons ys x xs)

pub neighbours_sym : (off cols : List ℕ) (i j : ℕ) → neighbours off cols i j ≡ neighbours off cols j i
unfolding neighbours
neighbours_sym off cols i j = shares_sym (row off cols i) (row off cols j)
