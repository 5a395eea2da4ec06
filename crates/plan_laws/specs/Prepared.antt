-- The sixteen lists that a solve reads, cut out of an index memory, are those of the plan. Definitions only.
use Rattle.std.specs.Prelude.{◌≡◌, refl, List, ℕ, ◌≤◌, length, Float}
use Rattle.lists.specs.Lists.{shape, list_of, ends_of, columns_of}
use Rattle.csr.specs.Csr.{Accepted}
use Rattle.lists.specs.declared.Which.TheVariants.{AnormIndptr, AnormIndptrI, AnormIndptrJ, AnormIndices, LdecompIndptr, LdecompIndptrI, LdecompIndptrJ, Lindptr, LdiagIndptr, Lindices}
use Rattle.lists.specs.declared.Side.TheVariants.{Factor, Matrix}
use Rattle.lists.specs.declared.What.TheVariants.{Numbers, Places}
use Rattle.layout.specs.declared.Plan.{Plan}
use Rattle.layout.specs.Lists.{anorm_indptr_in, anorm_indptr_i_in, anorm_indptr_j_in, anorm_indices_in, ldecomp_indptr_in, ldecomp_indptr_i_in, ldecomp_indptr_j_in, lindptr_in, ldiag_indptr_in, lindices_in, ltindptr_in, ltindices_in, ltmap_in, atindptr_in, atindices_in, atmap_in, words_at}

-- the matrix is accepted, and the lists are the plan's: of the normal matrix, of the products, of the factor's rows, of its columns, of the matrix's columns
pub record Prepared (off cols : List ℕ) (vals : List Float) (p : Plan) (index : List ℕ) : Type 0 where
  pub ok : Accepted off cols p.m p.n
  pub values : length vals ≡ length cols
  pub slack : p.s ≤ p.m
  pub anorm_indptr : anorm_indptr_in p index ≡ list_of (shape off cols) AnormIndptr p.m
  pub anorm_indptr_i : anorm_indptr_i_in p index ≡ list_of (shape off cols) AnormIndptrI p.m
  pub anorm_indptr_j : anorm_indptr_j_in p index ≡ list_of (shape off cols) AnormIndptrJ p.m
  pub anorm_indices : anorm_indices_in p index ≡ list_of (shape off cols) AnormIndices p.m
  pub ldecomp_indptr : ldecomp_indptr_in p index ≡ list_of (shape off cols) LdecompIndptr p.m
  pub ldecomp_indptr_i : ldecomp_indptr_i_in p index ≡ list_of (shape off cols) LdecompIndptrI p.m
  pub ldecomp_indptr_j : ldecomp_indptr_j_in p index ≡ list_of (shape off cols) LdecompIndptrJ p.m
  pub lindptr : lindptr_in p index ≡ list_of (shape off cols) Lindptr p.m
  pub ldiag_indptr : ldiag_indptr_in p index ≡ list_of (shape off cols) LdiagIndptr p.m
  pub lindices : lindices_in p index ≡ list_of (shape off cols) Lindices p.m
  pub ltindptr : ltindptr_in p index ≡ ends_of (shape off cols) Factor p.m p.m
  pub ltindices : ltindices_in p index ≡ columns_of (shape off cols) Factor Numbers p.m p.m
  pub ltmap : ltmap_in p index ≡ columns_of (shape off cols) Factor Places p.m p.m
  pub atindptr : atindptr_in p index ≡ ends_of (shape off cols) Matrix p.m p.n
  pub atindices : atindices_in p index ≡ columns_of (shape off cols) Matrix Numbers p.m p.n
  pub atmap : atmap_in p index ≡ columns_of (shape off cols) Matrix Places p.m p.n

-- ---- a marked example: the star, whose plan has 80 words
star_words : words_at (record { m = 3; n = 2; s = 0; t = 4; stored = 6; shared = 6; products = 4 }) ≡ 80
star_words = refl
