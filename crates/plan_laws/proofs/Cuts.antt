-- The sixteen lists stand one after the other in the index memory: each is cut out between its bounds. Assumes nothing.
use mathlib.Core.Path.{◌≡◌}
use mathlib.Core.List.{List, ◌++◌}
use Prim.Native.Nat.{ℕ, ◌+◌, ◌≤◌}
use native.Mathlib.Omega.{arith}
use lib.ListN.{length}
use lib.Ieee.{Float}
use Rattle.csr.specs.Counts.{count_e, count_s, count_d}
use Rattle.lists.specs.Lists.{shape, list_of, ends_of, columns_of, plan_words}
use Rattle.csr.specs.Csr.{Accepted}
use Rattle.lists.specs.declared.Which.TheVariants.{AnormIndptr, AnormIndptrI, AnormIndptrJ, AnormIndices, LdecompIndptr, LdecompIndptrI, LdecompIndptrJ, Lindptr, LdiagIndptr, Lindices}
use Rattle.lists.specs.declared.Side.TheVariants.{Factor, Matrix}
use Rattle.lists.specs.declared.What.TheVariants.{Numbers, Places}
use Rattle.lists.proofs.Sizes.{size_list, size_ends, size_factor, size_matrix}
use Rattle.lists.proofs.Joined.{first_is, behind, plan_from}
use Rattle.layout.specs.declared.Plan.{Plan}
use Rattle.layout.specs.Lists.{anorm_indptr_at, anorm_indptr_i_at, anorm_indptr_j_at, anorm_indices_at, ldecomp_indptr_at, ldecomp_indptr_i_at, ldecomp_indptr_j_at, lindptr_at, ldiag_indptr_at, lindices_at, ltindptr_at, ltindices_at, ltmap_at, atindptr_at, atindices_at, atmap_at, words_at}
use Rattle.plan_laws.specs.Prepared.{Prepared}

-- THE PREPARED LISTS: the parts of an index memory that starts with the plan
pub prepared_of : {off cols : List ℕ} {vals : List Float} {p : Plan} {index : List ℕ} (rest : List ℕ)
    → Accepted off cols p.m p.n → length vals ≡ length cols → p.s ≤ p.m → index ≡ plan_words off cols p.m p.n ++ rest
    → p.t ≡ length cols → p.stored ≡ count_e off cols p.m → p.shared ≡ count_s off cols p.m → p.products ≡ count_d off cols p.m
    → Prepared off cols vals p index
prepared_of {off} {cols} {vals} {p} {index} rest ok values slack is et eE eS eD =
    let m = p.m in
    let n = p.n in
    let size = size_list off cols m in
    let q1 : anorm_indptr_i_at p ≡ anorm_indptr_at p + length (list_of (shape off cols) AnormIndptr m) = omega (arith, eE, size AnormIndptr) in
    let q2 : anorm_indptr_j_at p ≡ anorm_indptr_i_at p + length (list_of (shape off cols) AnormIndptrI m) = omega (arith, eS, size AnormIndptrI) in
    let q3 : anorm_indices_at p ≡ anorm_indptr_j_at p + length (list_of (shape off cols) AnormIndptrJ m) = omega (arith, eS, size AnormIndptrJ) in
    let q4 : ldecomp_indptr_at p ≡ anorm_indices_at p + length (list_of (shape off cols) AnormIndices m) = omega (arith, eS, size AnormIndices) in
    let q5 : ldecomp_indptr_i_at p ≡ ldecomp_indptr_at p + length (list_of (shape off cols) LdecompIndptr m) = omega (arith, eE, size LdecompIndptr) in
    let q6 : ldecomp_indptr_j_at p ≡ ldecomp_indptr_i_at p + length (list_of (shape off cols) LdecompIndptrI m) = omega (arith, eD, size LdecompIndptrI) in
    let q7 : lindptr_at p ≡ ldecomp_indptr_j_at p + length (list_of (shape off cols) LdecompIndptrJ m) = omega (arith, eD, size LdecompIndptrJ) in
    let q8 : ldiag_indptr_at p ≡ lindptr_at p + length (list_of (shape off cols) Lindptr m) = omega (arith, size Lindptr) in
    let q9 : lindices_at p ≡ ldiag_indptr_at p + length (list_of (shape off cols) LdiagIndptr m) = omega (arith, size LdiagIndptr) in
    let q10 : ltindptr_at p ≡ lindices_at p + length (list_of (shape off cols) Lindices m) = omega (arith, eE, size Lindices) in
    let q11 : ltindices_at p ≡ ltindptr_at p + length (ends_of (shape off cols) Factor m m) = omega (arith, size_ends off cols Factor m m) in
    let q12 : ltmap_at p ≡ ltindices_at p + length (columns_of (shape off cols) Factor Numbers m m) = omega (arith, eE, size_factor off cols m n ok Numbers) in
    let q13 : atindptr_at p ≡ ltmap_at p + length (columns_of (shape off cols) Factor Places m m) = omega (arith, eE, size_factor off cols m n ok Places) in
    let q14 : atindices_at p ≡ atindptr_at p + length (ends_of (shape off cols) Matrix m n) = omega (arith, size_ends off cols Matrix m n) in
    let q15 : atmap_at p ≡ atindices_at p + length (columns_of (shape off cols) Matrix Numbers m n) = omega (arith, et, size_matrix off cols m n ok Numbers) in
    let q16 : words_at p ≡ atmap_at p + length (columns_of (shape off cols) Matrix Places m n) = omega (arith, et, size_matrix off cols m n ok Places) in
    let f0 = plan_from off cols m n index rest is in
    let f1 = behind f0 (anorm_indptr_i_at p) q1 in
    let f2 = behind f1 (anorm_indptr_j_at p) q2 in
    let f3 = behind f2 (anorm_indices_at p) q3 in
    let f4 = behind f3 (ldecomp_indptr_at p) q4 in
    let f5 = behind f4 (ldecomp_indptr_i_at p) q5 in
    let f6 = behind f5 (ldecomp_indptr_j_at p) q6 in
    let f7 = behind f6 (lindptr_at p) q7 in
    let f8 = behind f7 (ldiag_indptr_at p) q8 in
    let f9 = behind f8 (lindices_at p) q9 in
    let f10 = behind f9 (ltindptr_at p) q10 in
    let f11 = behind f10 (ltindices_at p) q11 in
    let f12 = behind f11 (ltmap_at p) q12 in
    let f13 = behind f12 (atindptr_at p) q13 in
    let f14 = behind f13 (atindices_at p) q14 in
    let f15 = behind f14 (atmap_at p) q15 in
    record {
      ok = ok;
      values = values;
      slack = slack;
      anorm_indptr = first_is f0 (anorm_indptr_i_at p) q1;
      anorm_indptr_i = first_is f1 (anorm_indptr_j_at p) q2;
      anorm_indptr_j = first_is f2 (anorm_indices_at p) q3;
      anorm_indices = first_is f3 (ldecomp_indptr_at p) q4;
      ldecomp_indptr = first_is f4 (ldecomp_indptr_i_at p) q5;
      ldecomp_indptr_i = first_is f5 (ldecomp_indptr_j_at p) q6;
      ldecomp_indptr_j = first_is f6 (lindptr_at p) q7;
      lindptr = first_is f7 (ldiag_indptr_at p) q8;
      ldiag_indptr = first_is f8 (lindices_at p) q9;
      lindices = first_is f9 (ltindptr_at p) q10;
      ltindptr = first_is f10 (ltindices_at p) q11;
      ltindices = first_is f11 (ltmap_at p) q12;
      ltmap = first_is f12 (atindptr_at p) q13;
      atindptr = first_is f13 (atindices_at p) q14;
      atindices = first_is f14 (atmap_at p) q15;
      atmap = first_is f15 (words_at p) q16;
    }
