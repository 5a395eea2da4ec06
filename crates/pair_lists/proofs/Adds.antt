-- What each kind of list adds at a pair is what the code writes there. Assumes nothing.
use mathlib.Core.Path.{◌≡◌, refl, sym, ap, ap₂, ◌∙◌}
use mathlib.Core.Bool.{Bool, ◌&&◌}
use mathlib.Core.List.{List, map}
use Prim.Native.Nat.{ℕ, suc, ◌+◌, ◌<◌, ◌≤◌}
use native.Mathlib.Omega.{arith}
use Rattle.base.specs.Sums.{sum, one}
use Rattle.pattern.specs.Word.{bit}
use Rattle.base.proofs.Sums.{sum_ext}
use Rattle.base.specs.Cat.{cat, pick}
use Rattle.lists.specs.Lists.{shape, weight, lplace, before, piece, shared, shared_of, products, walk_of}
use Rattle.pattern.specs.Ready.{Ready}
use Rattle.lists.specs.declared.Which.TheVariants.{AnormIndptr, AnormIndptrI, AnormIndptrJ, AnormIndices, LdecompIndptr, LdecompIndptrI, LdecompIndptrJ}
use Rattle.lists.specs.declared.Take.TheVariants.{Left, Right, Column}
use Rattle.base.proofs.Write.{cat_ext}
use Rattle.base.proofs.Maps.{map_self, map_pick, map_cat}
use Rattle.lists.proofs.Counts.{lplace_from}
use Rattle.pair_lists.proofs.Bits.{bit_held}
use Rattle.base.proofs.Bools.{and_comm}

module _ (off cols : List ℕ) (m : ℕ) (p : List ℕ) (ready : Ready off cols m p) where
  -- the places in row r of the k that two rows hold
  walk_map : (h : ℕ → Bool) (r q bound base : ℕ) → r < m → q < m → bound ≤ 256 → base ≡ lplace (shape off cols) r 0
      → ((k : ℕ) → k < bound → h k ≡ bit p r k && bit p q k)
      → map (lplace (shape off cols) r) (cat bound (λ k. pick (h k) k)) ≡ walk_of (bit p) r q bound base
  unfolding walk_of
  walk_map h r q bound base hr hq hb e same =
      map_cat (lplace (shape off cols) r) bound (λ k. pick (h k) k)
      ∙ cat_ext bound (λ k. map (lplace (shape off cols) r) (pick (h k) k)) (λ k. pick (bit p r k && bit p q k) (base + sum k (λ b. one (bit p r b))))
      (λ k l.
      map_pick (lplace (shape off cols) r) (h k) k
      ∙ ap₂ pick (same k l)
      (lplace_from (shape off cols) r k
      ∙ ap₂ ◌+◌ (sym e) (sum_ext k (λ b. one ((shape off cols).held r b)) (λ b. one (bit p r b)) (λ b n. sym (ap one (bit_held off cols m p ready r b hr (omega arith)))))))

  module _ (i j : ℕ) (hi : i < m) (hj : j ≤ i) where
    small : i < 256
    small = omega (arith, ready.csr.few)

    held_is : (t : Bool) → t ≡ bit p i j → (shape off cols).held i j ≡ t
    held_is t e = sym (e ∙ bit_held off cols m p ready i j hi (omega (arith, small)))

    pub of_anorm_indptr : (t : Bool) (n : ℕ) → t ≡ bit p i j → n ≡ before (weight (shape off cols) AnormIndptr) i (suc j) → piece (shape off cols) AnormIndptr i j ≡ pick t n
    unfolding piece
    of_anorm_indptr t n e g = ap₂ pick (held_is t e) (sym g)

    pub of_ldecomp_indptr : (t : Bool) (n : ℕ) → t ≡ bit p i j → n ≡ before (weight (shape off cols) LdecompIndptr) i (suc j) → piece (shape off cols) LdecompIndptr i j ≡ pick t n
    unfolding piece
    of_ldecomp_indptr t n e g = ap₂ pick (held_is t e) (sym g)

    pub of_anorm_indptr_i : piece (shape off cols) AnormIndptrI i j ≡ shared_of (shape off cols) Left i j
    unfolding piece shared_of
    of_anorm_indptr_i = refl

    pub of_anorm_indptr_j : piece (shape off cols) AnormIndptrJ i j ≡ shared_of (shape off cols) Right i j
    unfolding piece shared_of
    of_anorm_indptr_j = refl

    pub of_anorm_indices : piece (shape off cols) AnormIndices i j ≡ shared_of (shape off cols) Column i j
    unfolding piece shared_of
    of_anorm_indices = sym (map_self (shared (shape off cols) i j))

    both_bits : (k : ℕ) → k < j → (shape off cols).held i k && (shape off cols).held j k ≡ bit p i k && bit p j k
    both_bits k l = sym (ap₂ ◌&&◌ (bit_held off cols m p ready i k hi (omega (arith, small))) (bit_held off cols m p ready j k (omega arith) (omega (arith, small))))

    pub of_ldecomp_indptr_i : (e : ℕ) → e ≡ lplace (shape off cols) i 0 → piece (shape off cols) LdecompIndptrI i j ≡ walk_of (bit p) i j j e
    unfolding piece products
    of_ldecomp_indptr_i e g =
        walk_map (λ k. (shape off cols).held i k && (shape off cols).held j k) i j j e hi (omega arith) (omega (arith, small)) g both_bits

    pub of_ldecomp_indptr_j : (f : ℕ) → f ≡ lplace (shape off cols) j 0 → piece (shape off cols) LdecompIndptrJ i j ≡ walk_of (bit p) j i j f
    unfolding piece products
    of_ldecomp_indptr_j f g =
        walk_map (λ k. (shape off cols).held i k && (shape off cols).held j k) j i j f (omega arith) hi (omega (arith, small)) g
        (λ k l. both_bits k l ∙ and_comm (bit p i k) (bit p j k))
