-- What follows where the lists are prepared. Assumes nothing.
use mathlib.Core.Path.{◌≡◌, sym, ◌∙◌}
use mathlib.Core.List.{List}
use Prim.Native.Nat.{ℕ}
use lib.Ieee.{Float}
use Rattle.csr.specs.Counts.{count_e}
use Rattle.lists.specs.Lists.{shape, lplace}
use Rattle.lists.specs.declared.Which.TheVariants.{Lindices}
use Rattle.lists.proofs.Sizes.{size_list}
use Rattle.machine.specs.Machine.{Problem}
use Rattle.machine.specs.Work.{problem_of}
use Rattle.layout.specs.declared.Plan.{Plan}
use Rattle.layout.specs.Lists.{lindptr_in, lindices_in, ltindptr_in, ltindices_in, ltmap_in, atindptr_in, atindices_in, atmap_in}
use Rattle.plan_laws.specs.Meaning.{RowsOf, ColsOf, LowOf, HighOf}
use Rattle.plan_laws.specs.Prepared.{Prepared}
use Rattle.plan_laws.proofs.Rows.{rows_of}
use Rattle.plan_laws.proofs.Cols.{cols_of}
use Rattle.plan_laws.proofs.Low.{low_of, ind_length}
use Rattle.plan_laws.proofs.High.{high_of}

module _ {off cols : List ℕ} {vals : List Float} {p : Plan} {index : List ℕ} (P : Prepared off cols vals p index) where
  abbrev A : Problem
  A = problem_of p.m p.n p.s off cols vals

  pub rows_for : RowsOf A
  rows_for = rows_of off cols p.m p.n P.ok p.s vals P.values

  pub cols_for : ColsOf A (atindptr_in p index) (atindices_in p index) (atmap_in p index)
  cols_for = rw (P.atindptr, P.atindices, P.atmap) (cols_of off cols p.m p.n P.ok p.s vals P.values)

  pub low_for : LowOf A (lindptr_in p index) (lindices_in p index)
  low_for = rw (P.lindptr, P.lindices) (low_of off cols p.m p.n p.s vals)

  pub high_for : HighOf A (lindptr_in p index) (lindices_in p index) (ltindptr_in p index) (ltindices_in p index) (ltmap_in p index)
  high_for = rw (P.lindptr, P.lindices, P.ltindptr, P.ltindices, P.ltmap) (high_of off cols p.m p.n p.s vals)

-- the place behind the last row is E
pub entries_count : (off cols : List ℕ) (m : ℕ) → lplace (shape off cols) m 0 ≡ count_e off cols m
entries_count off cols m = sym (ind_length off cols m) ∙ size_list off cols m Lindices
