-- The factor's region by the plan's lists. Assumes nothing.
use mathlib.Core.Path.{◌≡◌, sym, ap as along, ◌∙◌, subst}
use mathlib.Core.List.{List}
use Prim.Native.Nat.{ℕ, ◌+◌, ◌≤◌, ◌<◌}
use lib.ListN.{get_or}
use lib.Ieee.{Float}
use Rattle.lanes.specs.Lists.{at}
use Rattle.lanes.specs.Region.{reg}
use Rattle.machine.specs.Machine.{State, cell, factor}
use Rattle.machine.specs.Work.{problem_of}
use Rattle.plan_laws.specs.Factoring.{Factored, entries}
use Rattle.plan_laws.proofs.Fill.{factor_held, filled_at}
use Rattle.plan_laws.specs.Meaning.{Holds}
use Rattle.plan_laws.proofs.Follows.{entries_count}
use Rattle.layout.specs.declared.Plan.{Plan}
use Rattle.layout.specs.Lists.{lindptr_in, lindices_in}
use Rattle.memory.specs.Planned.{Planned}
use Rattle.memory.proofs.Plans.{prepared}

module _ {off cols : List ℕ} {vals : List Float} {p : Plan} {index : List ℕ} (P : Planned off cols vals p index) where
  -- the factor has E entries
  count_for : p.stored ≡ entries off cols p.m
  count_for = P.counts.stored ∙ sym (entries_count off cols p.m)

  pub held_for : {width : ℕ} {work : List Float} {q : ℕ → State} {lo : ℕ} → Factored width (problem_of p.m p.n p.s off cols vals) q lo p.stored work
      → (t : ℕ) → t < width → Holds (problem_of p.m p.n p.s off cols vals) (lindptr_in p index) (lindices_in p index) (reg width work lo p.stored t) (cell (factor (problem_of p.m p.n p.s off cols vals) (q t)))
  held_for {width} {work} {q} {lo} F t b = record {
    reads = λ i h k from to.
        along (λ (e : ℕ). at (reg width work lo e t) k) count_for
        ∙ factor_held (filled_at (sym count_for) F) t b i h k (subst (λ (l : List ℕ). get_or l i 0 ≤ k) (prepared P).lindptr from) (subst (λ (l : List ℕ). k < get_or l (i + 1) 0) (prepared P).lindptr to)
        ∙ along (λ (l : List ℕ). cell (factor (problem_of p.m p.n p.s off cols vals) (q t)) i (get_or l k 0)) (sym (prepared P).lindices);
  }
