-- An entry of the factor, as the code works it out from the plan's lists. Assumes nothing.
use mathlib.Core.Path.{◌≡◌, ap, ap₂, ◌∙◌}
use mathlib.Core.Bool.{cond, ◌&&◌}
use mathlib.Core.List.{List}
use Prim.Native.Nat.{ℕ, suc, ◌+◌, ◌-◌, ◌<◌, ◌≤◌}
use native.Mathlib.Omega.{arith}
use lib.Dec.{eqb, ltb}
use lib.ListN.{length, get_or}
use lib.Ieee.{Float, binary64, div}
use Rattle.lists.specs.Lists.{Shape, shape, lplace, before, weight}
use Rattle.lists.specs.declared.Which.TheVariants.{AnormIndptr, LdecompIndptr}
use Rattle.lanes.specs.Lists.{at, fold}
use Rattle.lanes.specs.Lanes.{cell as here, On, Width, room}
use Rattle.lanes.proofs.Quads.{◌▹◌}
use Rattle.machine.specs.Machine.{reduced, factor_entry}
use Rattle.lanes.specs.Arithmetic.{null, √, magnitude}
use Rattle.machine.specs.Work.{problem_of}
use Rattle.plan_laws.specs.Factoring.{normal_step, product_step, NormalAt, ProductAt, NormalSum, ProductSum, DiagonalAt, Given, Stands, state_in, entries}
use Rattle.layout.specs.declared.Plan.{Plan}
use Rattle.layout.specs.Layout.{y_at, w_at, l_at}
use Rattle.layout.specs.Lists.{anorm_indptr_in, anorm_indptr_i_in, anorm_indptr_j_in, anorm_indices_in, ldecomp_indptr_in, ldecomp_indptr_i_in, ldecomp_indptr_j_in, ldiag_indptr_in, lindices_in, lindices_at, ltindptr_at}
use Rattle.base.proofs.Numbers.{cut_length}
use Rattle.plan_laws.proofs.Low.{ind_length}
use Rattle.plan_laws.proofs.Turn.{anorm_from, anorm_to, ldecomp_from, ldecomp_to, entry_room, diag_is, diag_entry, normal_ready, product_ready, shared_sum, shared_is, rest_is}

-- the factor has E entries, as many as the list of their columns
module _ {width : ℕ} {off cols : List ℕ} {vals work : List Float} {p : Plan} {index : List ℕ} (G : Given width off cols vals p index work) where
  pub count : length (lindices_in p index) ≡ p.stored
  count = omega (arith, cut_length (lindices_at p) (ltindptr_at p) index (omega (arith, G.indexed.room)))

  pub stored_is : p.stored ≡ entries off cols p.m
  stored_is = omega (arith, count, ap length G.prepared.lindices, ind_length off cols p.m)

module _ {width : ℕ} {off cols : List ℕ} {vals work : List Float} {p : Plan} {index : List ℕ} (G : Given width off cols vals p index work) {i j e : ℕ} (st : Stands off cols p.m i j e) where
  abbrev m : ℕ
  m = p.m

  abbrev n : ℕ
  n = p.n

  abbrev s : ℕ
  s = p.s

  abbrev y : ℕ
  y = y_at p.n

  abbrev w : ℕ
  w = w_at p.n p.m

  abbrev lo : ℕ
  lo = l_at p.n p.m p.s

  abbrev g : Shape
  g = shape off cols

  abbrev w_a : ℕ → ℕ → ℕ
  w_a = weight g AnormIndptr

  abbrev w_d : ℕ → ℕ → ℕ
  w_d = weight g LdecompIndptr

  a_from : get_or (anorm_indptr_in p index) e 0 ≡ before w_a i j
  a_from = rw G.prepared.anorm_indptr (anorm_from m n s off cols vals G.prepared.ok i j e st)

  a_to : get_or (anorm_indptr_in p index) (e + 1) 0 ≡ before w_a i (suc j)
  a_to = rw G.prepared.anorm_indptr (anorm_to m n s off cols vals G.prepared.ok i j e st)

  d_from : get_or (ldecomp_indptr_in p index) e 0 ≡ before w_d i j
  d_from = rw G.prepared.ldecomp_indptr (ldecomp_from m n s off cols vals G.prepared.ok i j e st)

  d_to : get_or (ldecomp_indptr_in p index) (e + 1) 0 ≡ before w_d i (suc j)
  d_to = rw G.prepared.ldecomp_indptr (ldecomp_to m n s off cols vals G.prepared.ok i j e st)

  d_at : get_or (ldiag_indptr_in p index) j 0 ≡ lplace g j j
  d_at = rw G.prepared.ldiag_indptr (diag_is m n s off cols vals G.prepared.ok i j e st)

  -- ---- what each of the four calls needs

  pub start_needs : (w + s ≤ room width work) × (y + i < room width work) × Width width
  start_needs = (omega (arith, G.fits), omega (arith, G.fits, st.row, G.prepared.slack), G.wide)

  pub normal_needs : NormalAt width vals p index work 0 n e
  normal_needs = (
    omega (arith, entry_room m n s off cols vals G.prepared.ok i j e st, stored_is G),
    rw (a_from, a_to, G.prepared.anorm_indptr_i, G.prepared.anorm_indptr_j, G.prepared.anorm_indices)
        (normal_ready m n s off cols vals G.prepared.ok i j e st width work 0 n y w lo G.prepared.values (omega (arith, G.fits)) (omega (arith, G.fits))),
    G.indexed,
    G.wide,
  )

  pub product_needs : ProductAt width p index work lo e
  product_needs = (
    omega (arith, entry_room m n s off cols vals G.prepared.ok i j e st, stored_is G),
    rw (d_from, d_to, G.prepared.ldecomp_indptr_i, G.prepared.ldecomp_indptr_j)
        (product_ready m n s off cols vals G.prepared.ok i j e st width work 0 n y w lo G.prepared.values (omega (arith, G.fits, stored_is G))),
    G.indexed,
    G.wide,
  )

  pub finish_needs : DiagonalAt width p index work lo j
  finish_needs = (
    omega (arith, st.row, st.low),
    omega (arith, d_at, diag_entry m n s off cols vals G.prepared.ok i j e st, G.fits, stored_is G),
    G.indexed,
    G.wide,
  )

  -- the shared columns by the lists are the machine's
  pub sum_shared : {start : List Float} (sum : List Float)
      → On width start (λ l. cond (eqb i j && ltb i s) (div binary64 (here width work (w + i) l) (here width work (y + i) l)) null)
      → NormalSum width vals p index work 0 n e start sum
      → (l : ℕ) → l < width → at sum l ≡ shared_sum (problem_of m n s off cols vals) (state_in width p work l) i j
  sum_shared sum es en l c =
      en l c
      ∙ ap (λ (v : Float). fold (get_or (anorm_indptr_in p index) (e + 1) 0 - get_or (anorm_indptr_in p index) e 0) (normal_step width vals (anorm_indptr_i_in p index) (anorm_indptr_j_in p index) (anorm_indices_in p index) work 0 n (get_or (anorm_indptr_in p index) e 0) l) v)
      (es.lane l c)
      ∙ rw (a_from, a_to, G.prepared.anorm_indptr_i, G.prepared.anorm_indptr_j, G.prepared.anorm_indices) (shared_is m n s off cols vals G.prepared.ok i j e st width work 0 n y w lo G.prepared.values l)

  -- THE ENTRY: what is left after the products, finished, is the machine's entry, of the factor as it stands in the memory
  pub entry_value : {r : List Float} (left : List Float)
      → ((l : ℕ) → l < width → at left l ≡ reduced (problem_of m n s off cols vals) (state_in width p work l) (λ a b. here width work (lo + lplace g a b) l) i j)
      → On width r (λ l. cond (eqb i j) (√ (magnitude (at left l))) (div binary64 (at left l) (here width work (lo + get_or (ldiag_indptr_in p index) j 0) l)))
      → On width r (λ l. factor_entry (problem_of m n s off cols vals) (state_in width p work l) (λ a b. here width work (lo + lplace g a b) l) i j)
  unfolding factor_entry
  entry_value left left_is er =
      er ▹
      (λ l c. ap₂ (λ (v : Float) (k : ℕ). cond (eqb i j) (√ (magnitude v)) (div binary64 v (here width work (lo + k) l))) (left_is l c) d_at)

  -- what the four calls leave is the machine's entry
  pub value : {start r : List Float} (sum left : List Float)
      → On width start (λ l. cond (eqb i j && ltb i s) (div binary64 (here width work (w + i) l) (here width work (y + i) l)) null)
      → NormalSum width vals p index work 0 n e start sum
      → ProductSum width p index work lo e sum left
      → On width r (λ l. cond (eqb i j) (√ (magnitude (at left l))) (div binary64 (at left l) (here width work (lo + get_or (ldiag_indptr_in p index) j 0) l)))
      → On width r (λ l. factor_entry (problem_of m n s off cols vals) (state_in width p work l) (λ a b. here width work (lo + lplace g a b) l) i j)
  value sum left es en ed er = entry_value left left_is er
    where
      left_is : (l : ℕ) → l < width → at left l ≡ reduced (problem_of m n s off cols vals) (state_in width p work l) (λ a b. here width work (lo + lplace g a b) l) i j
      left_is l c =
          ed l c
          ∙ ap (λ (v : Float). fold (get_or (ldecomp_indptr_in p index) (e + 1) 0 - get_or (ldecomp_indptr_in p index) e 0) (product_step width (ldecomp_indptr_i_in p index) (ldecomp_indptr_j_in p index) work lo (get_or (ldecomp_indptr_in p index) e 0) l) v) (sum_shared sum es en l c)
          ∙ rw (d_from, d_to, G.prepared.ldecomp_indptr_i, G.prepared.ldecomp_indptr_j) (rest_is m n s off cols vals G.prepared.ok i j e st width work 0 n y w lo G.prepared.values l)
