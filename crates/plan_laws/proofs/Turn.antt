-- An entry of the factor by the lists: what its sums read is there, and what they make is the machine's. Assumes nothing.
use mathlib.Core.Path.{◌≡◌, refl, sym, ap, ◌∙◌, subst}
use mathlib.Core.Bool.{Bool, true, false, cond, ◌&&◌}
use mathlib.Core.List.{List}
use Prim.Native.Nat.{ℕ, suc, ◌+◌, ◌-◌, ◌<◌, ◌≤◌}
use native.Mathlib.Omega.{arith}
use native.Mathlib.Numerals.{add-one}
use borrow.Author.Tests.{ltb-true}
use lib.Dec.{eqb, ltb}
use lib.ListN.{length, get_or}
use lib.Ieee.{Float, binary64, div}
use Rattle.lists.specs.Lists.{Shape, shape, lplace, before, weight, piece, list_of}
use Rattle.csr.specs.Csr.{Accepted}
use Rattle.lists.specs.declared.Which.TheVariants.{AnormIndptr, AnormIndptrI, AnormIndptrJ, AnormIndices, LdecompIndptr, LdecompIndptrI, LdecompIndptrJ, LdiagIndptr}
use Rattle.lanes.specs.Lanes.{cell as here, room}
use Rattle.lanes.specs.Region.{reg}
use Rattle.lanes.proofs.Regions.{reg_at}
use Rattle.lanes.specs.Lists.{at, fold, each}
use Rattle.machine.specs.Machine.{Problem, State, holds, entry, reduced}
use Rattle.lanes.specs.Arithmetic.{◌⊕◌, ◌⊗◌, ◌⊘◌, null}
use Rattle.machine.specs.Work.{problem_of}
use Rattle.plan_laws.specs.Factoring.{normal_step, product_step, NormalIn, ProductIn, Stands, entries}
use Rattle.plan_laws.proofs.Ranks.{before_next, ranked, ends_at, lplace_lt, by_row_at}
use Rattle.plan_laws.proofs.Picks.{held_diag, anorm_none, ldecomp_none}
use Rattle.plan_laws.proofs.Meets.{anorm_i_at, anorm_j_at, anorm_e_at, anorm_i_long, anorm_j_long, anorm_e_long, ldecomp_i_long, ldecomp_j_long, products_in, shared_lt, left_lt, right_lt, ldecomp_i_at, ldecomp_j_at, normal_is, products_is}

-- what holds of each number of (i, j) holds between its ends in the list
numbers_all : (P : ℕ → Type 0) (w : ℕ → ℕ → ℕ) (i j : ℕ) (xs : List ℕ) {f : ℕ → ℕ}
    → ((k : ℕ) → k < w i j → get_or xs (before w i j + k) 0 ≡ f k) → ((k : ℕ) → k < w i j → P (f k))
    → (p : ℕ) → before w i j ≤ p → p < before w i (suc j) → P (get_or xs p 0)
numbers_all P w i j xs {f} e h p a b =
    let z : p ≡ before w i j + (p - before w i j) = omega arith in
    let c : p - before w i j < w i j = omega (arith, before_next w i j) in
    subst P (sym (ap (λ (q : ℕ). get_or xs q 0) z ∙ e (p - before w i j) c)) (h (p - before w i j) c)

-- the numbers of lane l in a memory where x, z, y and w start at these entries
abbrev pub state_of : ℕ → List Float → ℕ → ℕ → ℕ → ℕ → ℕ → ℕ → ℕ → ℕ → State
state_of width work x z y w m n s l = record { x = reg width work x n l; z = reg width work z n l; y = reg width work y m l; w = reg width work w s l }

-- where (i, j) starts, and the columns that rows i and j share, added in turn
abbrev pub shared_sum : Problem → State → ℕ → ℕ → Float
shared_sum A q i j =
    each A.n (λ e. holds A i e && holds A j e) (λ e v. v ⊕ entry A i e ⊗ entry A j e ⊗ at q.x e ⊘ at q.z e) (cond (eqb i j && ltb i A.s) (at q.w i ⊘ at q.y i) null)

module _ (m n s : ℕ) (off cols : List ℕ) (vals : List Float) (ok : Accepted off cols m n) where
  abbrev g : Shape
  g = shape off cols

  abbrev A : Problem
  A = problem_of m n s off cols vals

  abbrev w_a : ℕ → ℕ → ℕ
  w_a = weight g AnormIndptr

  abbrev w_d : ℕ → ℕ → ℕ
  w_d = weight g LdecompIndptr

  -- ---- the ends of an entry's numbers

  module _ (i j e : ℕ) (st : Stands off cols m i j e) where
    pub anorm_from : get_or (list_of g AnormIndptr m) e 0 ≡ before w_a i j
    unfolding list_of piece
    anorm_from = rw st.at (ends_at g m w_a (λ a b _ l t. anorm_none off cols a b l t) i j st.row (omega (arith, st.low)))

    pub anorm_to : get_or (list_of g AnormIndptr m) (e + 1) 0 ≡ before w_a i (suc j)
    unfolding list_of piece
    anorm_to = rw (add-one e, st.at) (ranked g m (λ a b. before w_a a (suc b)) i j st.row st.low st.held)

    pub ldecomp_from : get_or (list_of g LdecompIndptr m) e 0 ≡ before w_d i j
    unfolding list_of piece
    ldecomp_from = rw st.at (ends_at g m w_d (λ a b _ l t. ldecomp_none off cols a b l t) i j st.row (omega (arith, st.low)))

    pub ldecomp_to : get_or (list_of g LdecompIndptr m) (e + 1) 0 ≡ before w_d i (suc j)
    unfolding list_of piece
    ldecomp_to = rw (add-one e, st.at) (ranked g m (λ a b. before w_d a (suc b)) i j st.row st.low st.held)

    pub diag_is : get_or (list_of g LdiagIndptr m) j 0 ≡ lplace g j j
    unfolding list_of piece
    diag_is = by_row_at m (λ a. lplace g a a) j (omega (arith, st.row, st.low))

    pub entry_room : e < entries off cols m
    entry_room = omega (arith, st.at, lplace_lt g i j m st.row st.low st.held)

    pub diag_entry : lplace g j j < entries off cols m
    diag_entry = lplace_lt g j j m (omega (arith, st.row, st.low)) (omega arith) (held_diag off cols j)

    -- ---- what the sums read is there
    module _ (width : ℕ) (work : List Float) (x z y w lo : ℕ) (values : length vals ≡ length cols) where
      pub normal_ready : x + n ≤ room width work → z + n ≤ room width work → NormalIn width vals (list_of g AnormIndptrI m) (list_of g AnormIndptrJ m) (list_of g AnormIndices m) work x z (before w_a i j) (before w_a i (suc j))
      normal_ready x_in z_in = record {
        order = omega (arith, before_next w_a i j);
        left_long = anorm_i_long m n s off cols vals ok i j st.row st.low;
        right_long = anorm_j_long m n s off cols vals ok i j st.row st.low;
        cols_long = anorm_e_long m n s off cols vals ok i j st.row st.low;
        left_in = numbers_all (λ v. v < length vals) w_a i j (list_of g AnormIndptrI m) (anorm_i_at m n s off cols vals ok i j st.row st.low) (λ k b. omega (arith, left_lt m n s off cols vals ok i j st.row st.low k b));
        right_in = numbers_all (λ v. v < length vals) w_a i j (list_of g AnormIndptrJ m) (anorm_j_at m n s off cols vals ok i j st.row st.low) (λ k b. omega (arith, right_lt m n s off cols vals ok i j st.row st.low k b));
        x_in = numbers_all (λ v. x + v < room width work) w_a i j (list_of g AnormIndices m) (anorm_e_at m n s off cols vals ok i j st.row st.low) (λ k b. omega (arith, shared_lt m n s off cols vals ok i j st.row st.low k b, x_in));
        z_in = numbers_all (λ v. z + v < room width work) w_a i j (list_of g AnormIndices m) (anorm_e_at m n s off cols vals ok i j st.row st.low) (λ k b. omega (arith, shared_lt m n s off cols vals ok i j st.row st.low k b, z_in));
      }

      pub product_ready : lo + entries off cols m ≤ room width work → ProductIn width (list_of g LdecompIndptrI m) (list_of g LdecompIndptrJ m) work lo (before w_d i j) (before w_d i (suc j))
      product_ready l-in = record {
        order = omega (arith, before_next w_d i j);
        left_long = ldecomp_i_long m n s off cols vals ok i j st.row st.low;
        right_long = ldecomp_j_long m n s off cols vals ok i j st.row st.low;
        left_in = numbers_all (λ v. lo + v < room width work) w_d i j (list_of g LdecompIndptrI m) (ldecomp_i_at m n s off cols vals ok i j st.row st.low) (λ k b. omega (arith, (products_in m n s off cols vals ok i j st.row st.low k b).0, l-in));
        right_in = numbers_all (λ v. lo + v < room width work) w_d i j (list_of g LdecompIndptrJ m) (ldecomp_j_at m n s off cols vals ok i j st.row st.low) (λ k b. omega (arith, (products_in m n s off cols vals ok i j st.row st.low k b).1, l-in));
      }

      -- ---- what they make is the machine's, of the factor as it stands in the memory

      abbrev pub first : ℕ → Float
      first l = cond (eqb i j && ltb i s) (div binary64 (here width work (w + i) l) (here width work (y + i) l)) null

      first_is : (l : ℕ) → first l ≡ cond (eqb i j && ltb i s) (div binary64 (at (reg width work w s l) i) (at (reg width work y m l) i)) null
      first_is l = go (eqb i j) (ltb i s) refl
        where
          go : (t u : Bool) → ltb i s ≡ u
              → cond (t && u) (div binary64 (here width work (w + i) l) (here width work (y + i) l)) null ≡ cond (t && u) (div binary64 (at (reg width work w s l) i) (at (reg width work y m l) i)) null
          go true true e = rw (reg_at width work w s l i (ltb-true i s e), reg_at width work y m l i st.row) refl
          go true false e = refl
          go false u e = refl

      abbrev pub in_memory : ℕ → ℕ → ℕ → Float
      in_memory l a b = here width work (lo + lplace g a b) l

      pub shared_is : (l : ℕ)
          → fold (before w_a i (suc j) - before w_a i j) (normal_step width vals (list_of g AnormIndptrI m) (list_of g AnormIndptrJ m) (list_of g AnormIndices m) work x z (before w_a i j) l) (first l)
          ≡ shared_sum A (state_of width work x z y w m n s l) i j
      shared_is l =
          let da : before w_a i (suc j) - before w_a i j ≡ w_a i j = omega (arith, before_next w_a i j) in
          rw (da, first_is l) (normal_is m n s off cols vals ok i j st.row st.low width work x z l (cond (eqb i j && ltb i s) (div binary64 (at (reg width work w s l) i) (at (reg width work y m l) i)) null))

      pub rest_is : (l : ℕ)
          → fold (before w_d i (suc j) - before w_d i j) (product_step width (list_of g LdecompIndptrI m) (list_of g LdecompIndptrJ m) work lo (before w_d i j) l) (shared_sum A (state_of width work x z y w m n s l) i j)
          ≡ reduced A (state_of width work x z y w m n s l) (in_memory l) i j
      unfolding reduced
      rest_is l =
          let dd : before w_d i (suc j) - before w_d i j ≡ w_d i j = omega (arith, before_next w_d i j) in
          rw dd (products_is m n s off cols vals ok i j st.row st.low width work lo l _)
