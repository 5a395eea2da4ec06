-- What each list adds at a stored pair. Assumes nothing.
use mathlib.Core.Path.{◌≡◌, refl, sym, ap, ap₂, ◌∙◌}
use mathlib.Core.Bool.{Bool, true, false}
use mathlib.Core.List.{List, [], ◌∷◌, ◌++◌}
use Prim.Native.Nat.{ℕ, suc, ◌+◌, ◌-◌, ◌<◌, ◌≤◌}
use native.Mathlib.Omega.{arith}
use native.Mathlib.Decide.{ℕ_discrete}
use native.Mathlib.Numerals.{add-one}
use lib.Dec.{eqb}
use borrow.Author.Tests.{ne_eqb}
use lib.ListN.{length, get_or, length-append, length-take}
use lib.Seq.{get_or-append_seam}
use Rattle.csr.specs.Pattern.{neighbours}
use Rattle.csr.proofs.Rule.{stored_diag}
use Rattle.base.specs.Sums.{one}
use Rattle.pattern.specs.Word.{bit}
use Rattle.base.proofs.Sums.{sum_ext}
use Rattle.base.specs.Cat.{pick}
use Rattle.lists.specs.Lists.{shape, weight, lplace, before, piece, walk_of}
use Rattle.pattern.specs.Ready.{Ready}
use Rattle.lists.specs.declared.Which.TheVariants.{AnormIndptr, LdecompIndptr, LdecompIndptrI, LdecompIndptrJ, Lindptr, LdiagIndptr, Lindices}
use Rattle.pair_lists.proofs.Adds as adds
use Rattle.pair_lists.proofs.Bits.{bit_held}
use Rattle.lists.proofs.Counts.{held_stored, lplace_from}
use Rattle.pair_lists.specs.Kept.{kept, Rows}
use Rattle.pair_lists.proofs.Lists.{kept_next, kept_long, rows_up}
use Rattle.pair_lists.proofs.Through.{q_in, t_in, entry_is, entry_below, entry_holds, part_kept}
use Rattle.pair_lists.proofs.Factor.{start_is}

module _ (off cols : List ℕ) (m : ℕ) (p : List ℕ) (ready : Ready off cols m p) (lindptr lindices : List ℕ) (v : Rows (bit p) lindptr lindices m) where
  pub first_is : (i : ℕ) → i ≤ m → get_or lindptr i 0 ≡ lplace (shape off cols) i 0
  first_is i l = v.starts i l ∙ start_is off cols m p ready i l

  diag : (j : ℕ) → j < m → bit p j j ≡ true
  diag j l = bit_held off cols m p ready j j l (omega (arith, v.few)) ∙ held_stored off cols j j (omega arith) ∙ stored_diag (neighbours off cols) j j refl

  row_ends : (j : ℕ) → j < m → kept (bit p j) (j + 1) ≡ kept (bit p j) j ++ (j ∷ [])
  row_ends j l = kept_next (bit p j) j ∙ ap (λ (t : Bool). kept (bit p j) j ++ pick t j) (diag j l)

  row_len : (j : ℕ) → j < m → get_or lindptr (j + 1) 0 ≡ get_or lindptr j 0 + length (kept (bit p j) j) + 1
  row_len j l = omega (arith, rows_up (bit p) lindptr lindices m v j l, ap length (row_ends j l), length-append (kept (bit p j) j) (j ∷ []))

  -- the last of a row is its diagonal
  pub record Last (j : ℕ) : Type 0 where
    pub low : get_or lindptr j 0 ≤ get_or lindptr (j + 1) 0 - 1
    pub high : get_or lindptr (j + 1) 0 - 1 < get_or lindptr (j + 1) 0
    pub some : 1 ≤ get_or lindptr (j + 1) 0
    pub is : get_or lindices (get_or lindptr (j + 1) 0 - 1) 0 ≡ j

  pub last_of : (j : ℕ) → j < m → Last j
  last_of j l =
      let lo : get_or lindptr j 0 ≤ get_or lindptr (j + 1) 0 - 1 = omega (arith, row_len j l) in
      let hi : get_or lindptr (j + 1) 0 - 1 < get_or lindptr (j + 1) 0 = omega (arith, row_len j l) in
      let z : get_or lindptr (j + 1) 0 - 1 - get_or lindptr j 0 ≡ length (kept (bit p j) j) = omega (arith, row_len j l) in
      record {
        low = lo;
        high = hi;
        some = omega (arith, row_len j l);
        is =
            sym (entry_is (bit p) lindptr lindices m v j (get_or lindptr (j + 1) 0 - 1) l lo hi)
            ∙ ap₂ (λ (x : List ℕ) (y : ℕ). get_or x y 0) (row_ends j l) z
            ∙ get_or-append_seam (kept (bit p j) j) j [] 0;
      }

  module _ (i j t : ℕ) (hi : i < m) (lo : get_or lindptr i 0 ≤ t) (up : t < get_or lindptr (i + 1) 0) (e : j ≡ get_or lindices t 0) where
    pub le : j ≤ i
    le = omega (arith, entry_below (bit p) lindptr lindices m v i t hi lo up)

    pub on : true ≡ bit p i j
    on = sym (ap (bit p i) e ∙ entry_holds (bit p) lindptr lindices m v i t hi lo up)

    held : (shape off cols).held i j ≡ true
    held = sym (on ∙ bit_held off cols m p ready i j hi (omega (arith, le, v.few)))

    pub t_small : t < 65536
    t_small = omega (arith, t_in (bit p) lindptr lindices m v i t hi lo up, v.short)

    rank : t ≡ get_or lindptr i 0 + length (kept (bit p i) j)
    rank =
        omega (
          arith,
          ap length (part_kept (bit p) lindptr lindices m v i t hi lo up),
          length-take (t - get_or lindptr i 0) (kept (bit p i) (i + 1)),
          q_in (bit p) lindptr lindices m v i t hi lo up,
          ap (λ (k : ℕ). length (kept (bit p i) k)) e,
        )

    pub t_is : t ≡ lplace (shape off cols) i j
    t_is =
        rank
        ∙ ap₂ ◌+◌ (first_is i (omega arith)) (kept_long (bit p i) j ∙ sum_ext j (λ k. one (bit p i k)) (λ k. one ((shape off cols).held i k)) (λ k l. ap one (bit_held off cols m p ready i k hi (omega (arith, le, v.few)))))
        ∙ sym (lplace_from (shape off cols) i j)

    pub of_anorm_indptr : (n : ℕ) → n ≡ before (weight (shape off cols) AnormIndptr) i (suc j) → piece (shape off cols) AnormIndptr i j ≡ n ∷ []
    of_anorm_indptr n q = adds.of_anorm_indptr off cols m p ready i j hi le true n on q

    pub of_ldecomp_indptr : (n : ℕ) → n ≡ before (weight (shape off cols) LdecompIndptr) i (suc j) → piece (shape off cols) LdecompIndptr i j ≡ n ∷ []
    of_ldecomp_indptr n q = adds.of_ldecomp_indptr off cols m p ready i j hi le true n on q

    pub of_ldecomp_indptr_i : piece (shape off cols) LdecompIndptrI i j ≡ walk_of (bit p) i j (get_or lindices t 0) (get_or lindptr i 0)
    of_ldecomp_indptr_i = adds.of_ldecomp_indptr_i off cols m p ready i j hi le (get_or lindptr i 0) (first_is i (omega arith)) ∙ ap (λ (b : ℕ). walk_of (bit p) i j b (get_or lindptr i 0)) e

    pub of_ldecomp_indptr_j : (u : ℕ) → u ≡ get_or lindptr (j + 1) 0 - 1 → piece (shape off cols) LdecompIndptrJ i j ≡ walk_of (bit p) j i (get_or lindices u 0) (get_or lindptr j 0)
    of_ldecomp_indptr_j u q =
        adds.of_ldecomp_indptr_j off cols m p ready i j hi le (get_or lindptr j 0) (first_is j (omega (arith, le)))
        ∙ ap (λ (b : ℕ). walk_of (bit p) j i b (get_or lindptr j 0)) (sym (ap (λ (x : ℕ). get_or lindices x 0) q ∙ (last_of j (omega (arith, le))).is))

    pick_when : (t' : Bool) (x y : ℕ) → (t' ≡ true → x ≡ y) → pick t' x ≡ pick t' y
    pick_when true x y f = ap (λ (z : ℕ). z ∷ []) (f refl)
    pick_when false x y f = refl

    at_diag : {A : Type 0} → (j ≡ i → A) → eqb j i ≡ true → A
    at_diag {A = A} f q = go (ℕ_discrete j i)
      where
        go : Dec (j ≡ i) → A
        go (yes d) = f d
        go (no d) = absurd (let z : ◌≡◌ {A = Bool} false true = sym (ne_eqb j i d) ∙ q in let y : ◌≡◌ {A = ℕ} 0 1 = cc in omega arith)

    pub of_lindptr : piece (shape off cols) Lindptr i j ≡ pick (eqb j i) (t + 1)
    unfolding piece
    of_lindptr =
        pick_when (eqb j i) (lplace (shape off cols) (suc i) 0) (t + 1)
        (at_diag (λ d.
        ap (λ (k : ℕ). lplace (shape off cols) k 0) (sym (add-one i)) ∙ sym (first_is (i + 1) (omega arith)) ∙ omega (arith, row_len i hi, rank, ap (λ (k : ℕ). length (kept (bit p i) k)) d)))

    pub of_ldiag_indptr : piece (shape off cols) LdiagIndptr i j ≡ pick (eqb j i) t
    unfolding piece
    of_ldiag_indptr = pick_when (eqb j i) (lplace (shape off cols) i i) t (at_diag (λ d. sym (t_is ∙ ap (lplace (shape off cols) i) d)))

    pub of_lindices : piece (shape off cols) Lindices i j ≡ j ∷ []
    unfolding piece
    of_lindices = ap (λ (s : Bool). pick s j) held
