use Rattle.layout.specs.Layout.{dy_at, l_in}
use Rattle.layout.specs.Lists.{lindptr_in, ltindptr_in, ltindices_in, ltmap_in}
use Rattle.eliminate.proofs.Turns.{Falls}
use Rattle.eliminate.proofs.backward.Given as goal

abbrev pub invariant-loop-i : goal.invariant-loop-i
invariant-loop-i l = Falls l.width (lindptr_in l.lists.plan l.lists.index.now) (ltindptr_in l.lists.plan l.lists.index.now) (ltindices_in l.lists.plan l.lists.index.now) (ltmap_in l.lists.plan l.lists.index.now) (dy_at l.lists.plan.n l.lists.plan.m) (l_in l.lists.plan) l.lists.plan.m l.lists.plan.stored l.initial.work l.work l.i
