-- `transpose::count_row` meets its contract. Assumes nothing.
use Prim.Native.Nat.{ℕ, ◌<◌, ◌≤◌, ◌+◌, ◌-◌}
use mathlib.Core.Path.{◌≡◌, refl, ap, ◌∙◌}
use mathlib.Core.List.{List}
use native.Mathlib.Omega.{arith}
use lib.ListN.{get_or}
use Rattle.csr.proofs.RowParts.{row_long}
use Rattle.transpose.proofs.Count as law
use Rattle.transpose.proofs.Pairs as pairs
use Rattle.transpose.proofs.count_row.Goals as goal

pub loop-k-init : goal.loop-k-init
loop-k-init c = record {
  passed = law.passed_none _ _ _ (omega arith);
  shares = pairs.pairs_start _ _ _ _ c.requires.at _ refl;
  few = omega arith;
}

pub step-requires : goal.step-requires
step-requires c =
    let h = law.passed_asks _ _ _ _ c.requires c.loop-k.k _ (omega arith) (omega arith) c.at-e.ensures _ c.loop-k.auto.next c.loop-k.invariant.passed in
    (h.0, omega (arith, h.1))

pub loop-k-preserved : goal.loop-k-preserved
loop-k-preserved c =
    let lo : get_or c.args.offsets.now c.args.i 0 ≤ c.loop-k.k = omega arith in
    let up : c.loop-k.k < get_or c.args.offsets.now (c.args.i + 1) 0 = omega arith in
    let asks = law.passed_asks _ _ _ _ c.requires c.loop-k.k _ lo up c.at-e.ensures _ c.loop-k.auto.next c.loop-k.invariant.passed in
    let count = law.passed_count _ _ _ _ c.requires c.loop-k.k _ lo up c.at-e.ensures _ c.loop-k.auto.next c.loop-k.invariant.passed in
    let turn = law.passed_turn _ _ _ _ c.requires c.loop-k.k _ lo up c.at-e.ensures _ c.loop-k.auto.next c.loop-k.invariant.passed in
    record {
      passed = λ x. ap (λ (l : List ℕ). get_or l x 0) c.step.ensures.1 ∙ turn x;
      shares = pairs.pairs_turn _ _ _ _ c.requires.at _ _ lo up c.at-e.ensures _ _ c.loop-k.invariant.shares (omega (arith, count, c.step.ensures.0));
      few = omega (arith, c.loop-k.invariant.few, c.step.ensures.0, asks.1);
    }

pub returns : goal.returns
returns c =
    let e : c.loop-k.k ≡ get_or c.args.offsets.now (c.args.i + 1) 0 = omega (arith, c.requires.at.part.rises) in
    record {
      counts = law.passed_all _ (c.loop-k.k - get_or c.args.offsets.now c.args.i 0) _ _ (omega (arith, row_long _ _ _ _ c.requires.at)) c.loop-k.invariant.passed;
      pairs = pairs.pairs_end _ _ _ _ c.requires.at c.loop-k.k _ (omega arith) c.loop-k.invariant.shares;
      few = omega (arith, c.loop-k.invariant.few);
    }
