-- What each list adds at a stored pair, from what the writing starts from. Assumes nothing.
use mathlib.Core.Path.{◌≡◌, ap, ◌∙◌}
use mathlib.Core.Bool.{true}
use mathlib.Core.List.{List, [], ◌∷◌}
use Prim.Native.Nat.{ℕ, suc, ◌+◌, ◌-◌, ◌<◌, ◌≤◌}
use native.Mathlib.Omega.{arith}
use lib.Dec.{eqb}
use lib.ListN.{get_or}
use Rattle.pattern.specs.Word.{bit}
use Rattle.base.specs.Cat.{pick}
use Rattle.lists.specs.Lists.{shape, weight, before, piece, shared_of, walk_of}
use Rattle.lists.specs.declared.Which.{Which}
use Rattle.lists.specs.declared.Which.TheVariants.{AnormIndptr, AnormIndptrI, AnormIndptrJ, AnormIndices, LdecompIndptr, LdecompIndptrI, LdecompIndptrJ, Lindptr, LdiagIndptr, Lindices}
use Rattle.lists.specs.declared.Take.TheVariants.{Left, Right, Column}
use Rattle.pair_lists.proofs.Adds as adds
use Rattle.shared_columns.specs.Marked.{RowMarked}
use Rattle.pair_lists.specs.Kept.{marks_read}
use Rattle.pair_lists.specs.Listing.{RowListing, AtPair}
use Rattle.pair_lists.proofs.Stored as st

module _ {w : Which} {off cols p lindptr lindices mark : List ℕ} {i j t n : ℕ} (g : RowListing w off cols p lindptr lindices mark i) (h : AtPair w off cols lindptr lindices i j t n) where
  pub left : j ≤ i
  left = st.le off cols g.at.m p g.at.ready lindptr lindices g.rows i j t g.at.inside h.first h.last h.column

  pub below : (j < g.at.m) × (i < 256)
  below = (omega (arith, left, g.at.inside), omega (arith, g.at.inside, g.rows.few))

  pub small : t < 65536
  small = st.t_small off cols g.at.m p g.at.ready lindptr lindices g.rows i j t g.at.inside h.first h.last h.column

  -- rows i and j share what the marks say
  pub marked : marks_read w ≡ true → RowMarked off cols mark i j
  marked e = record { m = g.at.m; wide = g.at.wide; grid = g.at.grid; inside = g.at.inside; other = below.0; long = g.at.long; marks = g.at.marks e }

  -- row j ends with its diagonal
  pub ends : st.Last off cols g.at.m p g.at.ready lindptr lindices g.rows j
  ends = st.last_of off cols g.at.m p g.at.ready lindptr lindices g.rows j below.0

  at : {x : Which} → w ≡ x → piece (shape off cols) w i j ≡ piece (shape off cols) x i j
  at e = ap (λ (y : Which). piece (shape off cols) y i j) e

  counted : {x : Which} → w ≡ x → n ≡ before (weight (shape off cols) x) i (suc j)
  counted e = h.count ∙ ap (λ (y : Which). before (weight (shape off cols) y) i (suc j)) e

  pub of_anorm_indptr : w ≡ AnormIndptr → piece (shape off cols) w i j ≡ n ∷ []
  of_anorm_indptr e = at e ∙ st.of_anorm_indptr off cols g.at.m p g.at.ready lindptr lindices g.rows i j t g.at.inside h.first h.last h.column n (counted e)

  pub of_anorm_indptr_i : w ≡ AnormIndptrI → piece (shape off cols) w i j ≡ shared_of (shape off cols) Left i j
  of_anorm_indptr_i e = at e ∙ adds.of_anorm_indptr_i off cols g.at.m p g.at.ready i j g.at.inside left

  pub of_anorm_indptr_j : w ≡ AnormIndptrJ → piece (shape off cols) w i j ≡ shared_of (shape off cols) Right i j
  of_anorm_indptr_j e = at e ∙ adds.of_anorm_indptr_j off cols g.at.m p g.at.ready i j g.at.inside left

  pub of_anorm_indices : w ≡ AnormIndices → piece (shape off cols) w i j ≡ shared_of (shape off cols) Column i j
  of_anorm_indices e = at e ∙ adds.of_anorm_indices off cols g.at.m p g.at.ready i j g.at.inside left

  pub of_ldecomp_indptr : w ≡ LdecompIndptr → piece (shape off cols) w i j ≡ n ∷ []
  of_ldecomp_indptr e = at e ∙ st.of_ldecomp_indptr off cols g.at.m p g.at.ready lindptr lindices g.rows i j t g.at.inside h.first h.last h.column n (counted e)

  pub of_ldecomp_indptr_i : w ≡ LdecompIndptrI → piece (shape off cols) w i j ≡ walk_of (bit p) i j (get_or lindices t 0) (get_or lindptr i 0)
  of_ldecomp_indptr_i e = at e ∙ st.of_ldecomp_indptr_i off cols g.at.m p g.at.ready lindptr lindices g.rows i j t g.at.inside h.first h.last h.column

  pub of_ldecomp_indptr_j : w ≡ LdecompIndptrJ → (u : ℕ) → u ≡ get_or lindptr (j + 1) 0 - 1 → piece (shape off cols) w i j ≡ walk_of (bit p) j i (get_or lindices u 0) (get_or lindptr j 0)
  of_ldecomp_indptr_j e u z = at e ∙ st.of_ldecomp_indptr_j off cols g.at.m p g.at.ready lindptr lindices g.rows i j t g.at.inside h.first h.last h.column u z

  pub of_lindptr : w ≡ Lindptr → piece (shape off cols) w i j ≡ pick (eqb j i) (t + 1)
  of_lindptr e = at e ∙ st.of_lindptr off cols g.at.m p g.at.ready lindptr lindices g.rows i j t g.at.inside h.first h.last h.column

  pub of_ldiag_indptr : w ≡ LdiagIndptr → piece (shape off cols) w i j ≡ pick (eqb j i) t
  of_ldiag_indptr e = at e ∙ st.of_ldiag_indptr off cols g.at.m p g.at.ready lindptr lindices g.rows i j t g.at.inside h.first h.last h.column

  pub of_lindices : w ≡ Lindices → piece (shape off cols) w i j ≡ j ∷ []
  of_lindices e = at e ∙ st.of_lindices off cols g.at.m p g.at.ready lindptr lindices g.rows i j t g.at.inside h.first h.last h.column
