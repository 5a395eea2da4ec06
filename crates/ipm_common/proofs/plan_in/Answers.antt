-- `ipm_common::plan_in` meets its contract. Assumes nothing.
use mathlib.Core.Path.{◌≡◌, refl, ap, ◌∙◌}
use mathlib.Core.List.{◌++◌}
use Prim.Native.Nat.{ℕ, ◌≤◌}
use native.Mathlib.Omega.{arith}
use lib.ListN.{length, drop}
use Rattle.std.proofs.Common.{rules}
use Rattle.csr.specs.Counts.{size_w}
use Rattle.csr.specs.Verdict.{told, planned}
use Rattle.pattern.proofs.Whole.{clear_zeros}
use Rattle.pattern.proofs.Links.{inside}
use Rattle.lists.specs.Lists.{shape, plan_of}
use Rattle.lists.proofs.Whole as all
use Rattle.lists.proofs.Sizes.{plan_size}
use Rattle.ipm_common.proofs.Final as fin
use Rattle.ipm_common.proofs.plan_in.Goals as goal

pub pattern-requires : goal.pattern-requires
pattern-requires g c =
    let x = c.args.matrix.now in
    (x.accepted.csr, inside x.rows.offsets.now x.rows.columns.now x.m x.n x.accepted, λ i h. clear_zeros 1024 i)

pub returns-then-index-w : goal.returns-then-index-w
returns-then-index-w g c =
    let x = c.args.matrix.now in
    let w : c.words-w.result ≡ size_w x.rows.offsets.now x.rows.columns.now x.m x.n = omega (arith, c.words-w.ensures, fin.words_are x.rows.offsets.now x.rows.columns.now x.m x.n _ _ _ c.count_all-t.ensures) in
    record {
      says = fin.room_no x.m x.n x.rows.offsets.now x.rows.columns.now c.args.index.now (omega (arith, w, c.if-index-w.true));
      words = refl;
    }

pub put_plan-requires : goal.put_plan-requires
put_plan-requires g c =
    let x = c.args.matrix.now in
    let z = plan_size x.rows.offsets.now x.rows.columns.now x.m x.n x.accepted in
    let w : c.words-w.result ≡ size_w x.rows.offsets.now x.rows.columns.now x.m x.n = omega (arith, c.words-w.ensures, fin.words_are x.rows.offsets.now x.rows.columns.now x.m x.n _ _ _ c.count_all-t.ensures) in
    (omega (arith, z, w, c.if-index-w.false), search rules, search rules, search rules)

pub returns : goal.returns
returns g c =
    let x = c.args.matrix.now in
    let z = plan_size x.rows.offsets.now x.rows.columns.now x.m x.n x.accepted in
    let w : c.words-w.result ≡ size_w x.rows.offsets.now x.rows.columns.now x.m x.n = omega (arith, c.words-w.ensures, fin.words_are x.rows.offsets.now x.rows.columns.now x.m x.n _ _ _ c.count_all-t.ensures) in
    let fits : size_w x.rows.offsets.now x.rows.columns.now x.m x.n ≤ length c.args.index.now = omega (arith, w, c.if-index-w.false) in
    let y = all.as_written c.args.index.now c.put_plan.new.index (plan_of (shape x.rows.offsets.now x.rows.columns.now) x.m x.n) c.put_plan.result (omega (arith, fits, z)) c.put_plan.ensures in
    record {
      says = ap (λ (k : ℕ). told (planned k)) w ∙ fin.room_yes x.m x.n x.rows.offsets.now x.rows.columns.now c.args.index.now fits;
      words = y.0 ∙ ap (λ (k : ℕ). plan_of (shape x.rows.offsets.now x.rows.columns.now) x.m x.n ++ drop k c.args.index.now) z;
    }
