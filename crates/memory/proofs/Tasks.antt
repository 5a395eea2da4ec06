-- An index memory that begins with a plan, said with the rest of the memory and without it. Assumes nothing.
use mathlib.Core.Path.{sym, ap, ◌∙◌}
use mathlib.Core.List.{List, ◌++◌}
use Prim.Native.Nat.{ℕ}
use lib.ListN.{length, take, drop, take-append-drop}
use lib.Seq.{take-append_seam}
use lib.Ieee.{Float}
use Rattle.lists.specs.Lists.{plan_words}
use Rattle.layout.specs.declared.Plan.{Plan}
use Rattle.memory.specs.Planned.{Planned, PlanIn}

module _ {off cols : List ℕ} {vals : List Float} {p : Plan} {index : List ℕ} where
  -- what stands after the plan is the rest
  pub planned_in : PlanIn off cols vals p index → Planned off cols vals p index
  planned_in P =
      let k = length (plan_words off cols p.m p.n) in
      record {
        ok = P.ok;
        values = P.values;
        entries = P.entries;
        slack = P.slack;
        counts = P.counts;
        rest = drop k index;
        plan = sym (take-append-drop k index) ∙ ap (λ (l : List ℕ). l ++ drop k index) P.plan;
      }

  -- the memory up to the plan's length is the plan
  pub plan_in : Planned off cols vals p index → PlanIn off cols vals p index
  plan_in P =
      record {
        ok = P.ok;
        values = P.values;
        entries = P.entries;
        slack = P.slack;
        counts = P.counts;
        plan = ap (take (length (plan_words off cols p.m p.n))) P.plan ∙ take-append_seam (plan_words off cols p.m p.n) P.rest;
      }
