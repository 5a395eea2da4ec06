-- `counts::Notes::climb` meets its contract. Assumes nothing.
use borrow.Author.Tests.{ne_eqb, eq-eqb}
use mathlib.Core.Logic.{inl, inr}
use native.Mathlib.Omega.{arith}
use Rattle.counts.proofs.Step.{small_e_lem, small_d_lem, bump_asks, grown, climbs, climb_here, climb_turn, climb_end}
use Rattle.counts.proofs.Notes.climb.Goals as goal

pub returns-then-self-k-clause-climbed : goal.returns-then-self-k-clause-climbed
returns-then-self-k-clause-climbed g c = climb_end c.loop-k.invariant.climbed (inr (eq-eqb _ _ c.if-self-k.true))

pub overflow_add-tally : goal.overflow_add-tally
overflow_add-tally g c =
    let t = climb_here c.loop-k.invariant.climbed c.requires in
    omega (arith, small_e_lem t)

pub bump-requires : goal.bump-requires
bump-requires g c =
    let t = climb_here c.loop-k.invariant.climbed c.requires in
    bump_asks t (omega arith) (ne_eqb _ _ c.if-self-k.false)

pub overflow_add-tally-in-loop-k : goal.overflow_add-tally-in-loop-k
overflow_add-tally-in-loop-k g c =
    let t = climb_here c.loop-k.invariant.climbed c.requires in
    omega (arith, c.bump.ensures.1, small_d_lem t, grown t (omega arith) (ne_eqb _ _ c.if-self-k.false))

pub loop-k-smaller : goal.loop-k-smaller
loop-k-smaller g c =
    let t = climb_here c.loop-k.invariant.climbed c.requires in
    omega (arith, climbs t (omega arith) (ne_eqb _ _ c.if-self-k.false) c.adopt-k.new.table c.adopt-k.result c.adopt-k.auto.table c.adopt-k.ensures.0 c.adopt-k.ensures.1)

pub loop-k-preserved : goal.loop-k-preserved
loop-k-preserved g c =
    let t = climb_here c.loop-k.invariant.climbed c.requires in
    record {
      climbed = climb_turn c.loop-k.invariant.climbed (omega (arith, t.room)) (omega arith) (ne_eqb _ _ c.if-self-k.false) c.adopt-k.new.table c.bump.new.table c.adopt-k.result c.bump.result c.adopt-k.auto.table c.adopt-k.ensures.0 c.adopt-k.ensures.1 c.bump.ensures.0 c.bump.ensures.1;
      shared = c.loop-k.invariant.shared;
      columns = c.loop-k.invariant.columns;
    }

pub returns-clause-climbed : goal.returns-clause-climbed
returns-clause-climbed g c = climb_end c.loop-k.invariant.climbed (inl c.loop-k-test.false)
