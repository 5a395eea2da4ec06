-- `pair_lists::Source::put_piece` meets its contract. Assumes nothing.
use mathlib.Core.Path.{refl, sym, ap, ◌∙◌}
use native.Mathlib.Omega.{arith}
use lib.ListN.{length}
use Rattle.base.specs.Cat.{kept}
use Rattle.base.proofs.Write.{same_text}
use Rattle.pair_lists.specs.Kept.{marks_read}
use Rattle.pair_lists.proofs.Pieces as law
use Rattle.pair_lists.proofs.Source.put_piece.Goals as goal

pub put-requires : goal.put-requires
put-requires c = omega (arith, c.requires.2, ap length (law.of_anorm_indptr c.requires.0 c.requires.1 c.in-AnormIndptr.is))

pub put_shared-requires : goal.put_shared-requires
put_shared-requires c = (
  law.marked c.requires.0 c.requires.1 (ap marks_read c.in-AnormIndptrI.is),
  omega (arith, c.requires.2, ap length (law.of_anorm_indptr_i c.requires.0 c.requires.1 c.in-AnormIndptrI.is)),
)

pub put_shared-requires-in-AnormIndptrJ : goal.put_shared-requires-in-AnormIndptrJ
put_shared-requires-in-AnormIndptrJ c = (
  law.marked c.requires.0 c.requires.1 (ap marks_read c.in-AnormIndptrJ.is),
  omega (arith, c.requires.2, ap length (law.of_anorm_indptr_j c.requires.0 c.requires.1 c.in-AnormIndptrJ.is)),
)

pub put_shared-requires-in-AnormIndices : goal.put_shared-requires-in-AnormIndices
put_shared-requires-in-AnormIndices c = (
  law.marked c.requires.0 c.requires.1 (ap marks_read c.in-AnormIndices.is),
  omega (arith, c.requires.2, ap length (law.of_anorm_indices c.requires.0 c.requires.1 c.in-AnormIndices.is)),
)

pub put-requires-in-LdecompIndptr : goal.put-requires-in-LdecompIndptr
put-requires-in-LdecompIndptr c = omega (arith, c.requires.2, ap length (law.of_ldecomp_indptr c.requires.0 c.requires.1 c.in-LdecompIndptr.is))

pub products-requires : goal.products-requires
products-requires c = (
  record { m = c.requires.0.at.m; rows = c.requires.0.rows; inside = c.requires.0.at.inside; first = c.requires.1.first; last = c.requires.1.last },
  omega (arith, law.left c.requires.0 c.requires.1, (law.below c.requires.0 c.requires.1).1),
  omega (arith, c.requires.2, ap length (law.of_ldecomp_indptr_i c.requires.0 c.requires.1 c.in-LdecompIndptrI.is)),
)

pub overflow_add-last : goal.overflow_add-last
overflow_add-last c = omega (arith, law.left c.requires.0 c.requires.1, (law.below c.requires.0 c.requires.1).1)

pub offset_bounds-self-j : goal.offset_bounds-self-j
offset_bounds-self-j c = omega (arith, law.left c.requires.0 c.requires.1, (law.below c.requires.0 c.requires.1).1)

pub bounds-self-j : goal.bounds-self-j
bounds-self-j c = omega (arith, (law.below c.requires.0 c.requires.1).0, c.requires.0.rows.offsets)

pub overflow_sub-last : goal.overflow_sub-last
overflow_sub-last c = omega (arith, (law.ends c.requires.0 c.requires.1).some)

pub products-requires-in-LdecompIndptrJ : goal.products-requires-in-LdecompIndptrJ
products-requires-in-LdecompIndptrJ c =
    let l = law.ends c.requires.0 c.requires.1 in (
      record { m = c.requires.0.at.m; rows = c.requires.0.rows; inside = (law.below c.requires.0 c.requires.1).0; first = omega (arith, l.low); last = omega (arith, l.high, l.some) },
      (law.below c.requires.0 c.requires.1).1,
      omega (arith, c.requires.2, ap length (law.of_ldecomp_indptr_j c.requires.0 c.requires.1 c.in-LdecompIndptrJ.is _ refl)),
    )

pub overflow_cast-t : goal.overflow_cast-t
overflow_cast-t c = omega (arith, law.small c.requires.0 c.requires.1)

pub overflow_add-t : goal.overflow_add-t
overflow_add-t c = omega (arith, law.small c.requires.0 c.requires.1)

pub keep-requires : goal.keep-requires
keep-requires c = rw c.then_some.ensures (omega (arith, c.requires.2, ap length (law.of_lindptr c.requires.0 c.requires.1 c.in-Lindptr.is)))

pub overflow_cast-t-in-LdiagIndptr : goal.overflow_cast-t-in-LdiagIndptr
overflow_cast-t-in-LdiagIndptr c = omega (arith, law.small c.requires.0 c.requires.1)

pub keep-requires-in-LdiagIndptr : goal.keep-requires-in-LdiagIndptr
keep-requires-in-LdiagIndptr c = rw c.then_some-in-LdiagIndptr.ensures (omega (arith, c.requires.2, ap length (law.of_ldiag_indptr c.requires.0 c.requires.1 c.in-LdiagIndptr.is)))

pub overflow_cast-j : goal.overflow_cast-j
overflow_cast-j c = omega (arith, law.left c.requires.0 c.requires.1, (law.below c.requires.0 c.requires.1).1)

pub put-requires-in-Lindices : goal.put-requires-in-Lindices
put-requires-in-Lindices c = omega (arith, c.requires.2, ap length (law.of_lindices c.requires.0 c.requires.1 c.in-Lindices.is))

pub returns-in-AnormIndptr : goal.returns-in-AnormIndptr
returns-in-AnormIndptr c = same_text (sym (law.of_anorm_indptr c.requires.0 c.requires.1 c.in-AnormIndptr.is)) c.put.ensures

pub returns-in-AnormIndptrI : goal.returns-in-AnormIndptrI
returns-in-AnormIndptrI c = same_text (sym (law.of_anorm_indptr_i c.requires.0 c.requires.1 c.in-AnormIndptrI.is)) c.put_shared.ensures

pub returns-in-AnormIndptrJ : goal.returns-in-AnormIndptrJ
returns-in-AnormIndptrJ c = same_text (sym (law.of_anorm_indptr_j c.requires.0 c.requires.1 c.in-AnormIndptrJ.is)) c.put_shared-in-AnormIndptrJ.ensures

pub returns-in-AnormIndices : goal.returns-in-AnormIndices
returns-in-AnormIndices c = same_text (sym (law.of_anorm_indices c.requires.0 c.requires.1 c.in-AnormIndices.is)) c.put_shared-in-AnormIndices.ensures

pub returns-in-LdecompIndptr : goal.returns-in-LdecompIndptr
returns-in-LdecompIndptr c = same_text (sym (law.of_ldecomp_indptr c.requires.0 c.requires.1 c.in-LdecompIndptr.is)) c.put-in-LdecompIndptr.ensures

pub returns-in-LdecompIndptrI : goal.returns-in-LdecompIndptrI
returns-in-LdecompIndptrI c = same_text (sym (law.of_ldecomp_indptr_i c.requires.0 c.requires.1 c.in-LdecompIndptrI.is)) c.products.ensures

pub returns-in-LdecompIndptrJ : goal.returns-in-LdecompIndptrJ
returns-in-LdecompIndptrJ c = same_text (sym (law.of_ldecomp_indptr_j c.requires.0 c.requires.1 c.in-LdecompIndptrJ.is _ refl)) c.products-in-LdecompIndptrJ.ensures

pub returns-in-Lindptr : goal.returns-in-Lindptr
returns-in-Lindptr c = same_text (ap kept c.then_some.ensures ∙ sym (law.of_lindptr c.requires.0 c.requires.1 c.in-Lindptr.is)) c.keep.ensures

pub returns-in-LdiagIndptr : goal.returns-in-LdiagIndptr
returns-in-LdiagIndptr c = same_text (ap kept c.then_some-in-LdiagIndptr.ensures ∙ sym (law.of_ldiag_indptr c.requires.0 c.requires.1 c.in-LdiagIndptr.is)) c.keep-in-LdiagIndptr.ensures

pub returns-in-Lindices : goal.returns-in-Lindices
returns-in-Lindices c = same_text (sym (law.of_lindices c.requires.0 c.requires.1 c.in-Lindices.is)) c.put-in-Lindices.ensures
