-- The lists of the index memory: where each begins. The names are the Rust's fields, and the last three are the matrix's columns. Definitions only.
use Rattle.std.specs.Prelude.{◌≡◌, List, [], ◌∷◌, ℕ, ◌+◌, ◌*◌, ◌≤◌, length}
use Rattle.base.specs.Numbers.{cut}
use Rattle.layout.specs.declared.Plan.{Plan}
use Rattle.layout.specs.declared.Starts.{Starts}
use Rattle.layout.specs.Layout.{top_word}

abbrev pub anorm_indptr_at : Plan → ℕ
anorm_indptr_at p = 0

abbrev pub anorm_indptr_i_at : Plan → ℕ
anorm_indptr_i_at p = p.stored + 1

abbrev pub anorm_indptr_j_at : Plan → ℕ
anorm_indptr_j_at p = anorm_indptr_i_at p + p.shared

abbrev pub anorm_indices_at : Plan → ℕ
anorm_indices_at p = anorm_indptr_j_at p + p.shared

abbrev pub ldecomp_indptr_at : Plan → ℕ
ldecomp_indptr_at p = anorm_indices_at p + p.shared

abbrev pub ldecomp_indptr_i_at : Plan → ℕ
ldecomp_indptr_i_at p = ldecomp_indptr_at p + (p.stored + 1)

abbrev pub ldecomp_indptr_j_at : Plan → ℕ
ldecomp_indptr_j_at p = ldecomp_indptr_i_at p + p.products

abbrev pub lindptr_at : Plan → ℕ
lindptr_at p = ldecomp_indptr_j_at p + p.products

abbrev pub ldiag_indptr_at : Plan → ℕ
ldiag_indptr_at p = lindptr_at p + (p.m + 1)

abbrev pub lindices_at : Plan → ℕ
lindices_at p = ldiag_indptr_at p + p.m

abbrev pub ltindptr_at : Plan → ℕ
ltindptr_at p = lindices_at p + p.stored

abbrev pub ltindices_at : Plan → ℕ
ltindices_at p = ltindptr_at p + (p.m + 1)

abbrev pub ltmap_at : Plan → ℕ
ltmap_at p = ltindices_at p + p.stored

abbrev pub atindptr_at : Plan → ℕ
atindptr_at p = ltmap_at p + p.stored

abbrev pub atindices_at : Plan → ℕ
atindices_at p = atindptr_at p + (p.n + 1)

abbrev pub atmap_at : Plan → ℕ
atmap_at p = atindices_at p + p.t

abbrev pub words_at : Plan → ℕ
words_at p = atmap_at p + p.t

-- where each list begins, and where the last ends
abbrev pub starts_of : Plan → Starts
starts_of p =
    record {
      anorm_indptr = anorm_indptr_at p;
      anorm_indptr_i = anorm_indptr_i_at p;
      anorm_indptr_j = anorm_indptr_j_at p;
      anorm_indices = anorm_indices_at p;
      ldecomp_indptr = ldecomp_indptr_at p;
      ldecomp_indptr_i = ldecomp_indptr_i_at p;
      ldecomp_indptr_j = ldecomp_indptr_j_at p;
      lindptr = lindptr_at p;
      ldiag_indptr = ldiag_indptr_at p;
      lindices = lindices_at p;
      ltindptr = ltindptr_at p;
      ltindices = ltindices_at p;
      ltmap = ltmap_at p;
      atindptr = atindptr_at p;
      atindices = atindices_at p;
      atmap = atmap_at p;
      words = words_at p;
    }

-- how many words each list has
abbrev pub sizes_of : Plan → List ℕ
sizes_of p =
    (p.stored + 1)
    ∷ p.shared
    ∷ p.shared
    ∷ p.shared
    ∷ (p.stored + 1)
    ∷ p.products
    ∷ p.products
    ∷ (p.m + 1)
    ∷ p.m
    ∷ p.stored
    ∷ (p.m + 1)
    ∷ p.stored
    ∷ p.stored
    ∷ (p.n + 1)
    ∷ p.t
    ∷ p.t
    ∷ []

-- each list, cut out of an index memory

-- the shared columns of entry e stand from number e of this list to number e + 1
abbrev pub anorm_indptr_in : Plan → List ℕ → List ℕ
anorm_indptr_in p index = cut (anorm_indptr_at p) (anorm_indptr_i_at p) index

-- of each shared column, where the row's value stands
abbrev pub anorm_indptr_i_in : Plan → List ℕ → List ℕ
anorm_indptr_i_in p index = cut (anorm_indptr_i_at p) (anorm_indptr_j_at p) index

-- of each shared column, where the column's row has its value
abbrev pub anorm_indptr_j_in : Plan → List ℕ → List ℕ
anorm_indptr_j_in p index = cut (anorm_indptr_j_at p) (anorm_indices_at p) index

-- of each shared column, which it is
abbrev pub anorm_indices_in : Plan → List ℕ → List ℕ
anorm_indices_in p index = cut (anorm_indices_at p) (ldecomp_indptr_at p) index

-- the products of entry e stand from number e of this list to number e + 1
abbrev pub ldecomp_indptr_in : Plan → List ℕ → List ℕ
ldecomp_indptr_in p index = cut (ldecomp_indptr_at p) (ldecomp_indptr_i_at p) index

-- of each product, its first entry
abbrev pub ldecomp_indptr_i_in : Plan → List ℕ → List ℕ
ldecomp_indptr_i_in p index = cut (ldecomp_indptr_i_at p) (ldecomp_indptr_j_at p) index

-- of each product, its second entry
abbrev pub ldecomp_indptr_j_in : Plan → List ℕ → List ℕ
ldecomp_indptr_j_in p index = cut (ldecomp_indptr_j_at p) (lindptr_at p) index

-- row i of the factor stands from number i of this list to number i + 1
abbrev pub lindptr_in : Plan → List ℕ → List ℕ
lindptr_in p index = cut (lindptr_at p) (ldiag_indptr_at p) index

-- where each row's diagonal entry stands
abbrev pub ldiag_indptr_in : Plan → List ℕ → List ℕ
ldiag_indptr_in p index = cut (ldiag_indptr_at p) (lindices_at p) index

-- each entry's column
abbrev pub lindices_in : Plan → List ℕ → List ℕ
lindices_in p index = cut (lindices_at p) (ltindptr_at p) index

-- column j of the factor stands from number j of this list to number j + 1
abbrev pub ltindptr_in : Plan → List ℕ → List ℕ
ltindptr_in p index = cut (ltindptr_at p) (ltindices_at p) index

-- the rows of each column
abbrev pub ltindices_in : Plan → List ℕ → List ℕ
ltindices_in p index = cut (ltindices_at p) (ltmap_at p) index

-- where those entries stand in the factor
abbrev pub ltmap_in : Plan → List ℕ → List ℕ
ltmap_in p index = cut (ltmap_at p) (atindptr_at p) index

-- column e of the matrix stands from number e of this list to number e + 1
abbrev pub atindptr_in : Plan → List ℕ → List ℕ
atindptr_in p index = cut (atindptr_at p) (atindices_at p) index

-- the rows of each column
abbrev pub atindices_in : Plan → List ℕ → List ℕ
atindices_in p index = cut (atindices_at p) (atmap_at p) index

-- where those entries stand in the matrix's values
abbrev pub atmap_in : Plan → List ℕ → List ℕ
atmap_in p index = cut (atmap_at p) (words_at p) index

-- an index memory has room for the plan, and the plan's bytes are counted by a word
pub record Indexed (p : Plan) (index : List ℕ) : Type 0 where
  pub room : words_at p ≤ length index
  pub fits : 4 * words_at p ≤ top_word

-- lists that are a plan's in an index memory
pub record Listed (p : Plan) (index anorm_indptr anorm_indptr_i anorm_indptr_j anorm_indices ldecomp_indptr ldecomp_indptr_i ldecomp_indptr_j lindptr ldiag_indptr lindices ltindptr ltindices ltmap atindptr atindices atmap : List ℕ) : Type 0 where
  pub indexed : Indexed p index
  pub anorm_indptr_is : anorm_indptr ≡ anorm_indptr_in p index
  pub anorm_indptr_i_is : anorm_indptr_i ≡ anorm_indptr_i_in p index
  pub anorm_indptr_j_is : anorm_indptr_j ≡ anorm_indptr_j_in p index
  pub anorm_indices_is : anorm_indices ≡ anorm_indices_in p index
  pub ldecomp_indptr_is : ldecomp_indptr ≡ ldecomp_indptr_in p index
  pub ldecomp_indptr_i_is : ldecomp_indptr_i ≡ ldecomp_indptr_i_in p index
  pub ldecomp_indptr_j_is : ldecomp_indptr_j ≡ ldecomp_indptr_j_in p index
  pub lindptr_is : lindptr ≡ lindptr_in p index
  pub ldiag_indptr_is : ldiag_indptr ≡ ldiag_indptr_in p index
  pub lindices_is : lindices ≡ lindices_in p index
  pub ltindptr_is : ltindptr ≡ ltindptr_in p index
  pub ltindices_is : ltindices ≡ ltindices_in p index
  pub ltmap_is : ltmap ≡ ltmap_in p index
  pub atindptr_is : atindptr ≡ atindptr_in p index
  pub atindices_is : atindices ≡ atindices_in p index
  pub atmap_is : atmap ≡ atmap_in p index
