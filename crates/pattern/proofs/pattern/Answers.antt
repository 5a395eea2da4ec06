-- `pattern::pattern` meets its contract. Assumes nothing.
use native.Mathlib.Omega.{arith}
use Rattle.csr.specs.Pattern.{neighbours}
use Rattle.pattern.proofs.Whole.{rows_all}
use Rattle.pattern.proofs.Linking.{firsts_start, done_links}
use Rattle.pattern.proofs.pattern.Goals as goal

pub loop-i-init : goal.loop-i-init
loop-i-init c = (λ a l. absurd (omega arith), λ a l h. c.requires.2 a h, firsts_start c.args.rows.now.offsets.now c.args.rows.now.columns.now)

pub returns : goal.returns
returns c =
    rows_all (neighbours c.args.rows.now.offsets.now c.args.rows.now.columns.now) c.loop-i.p c.args.m
    (λ i h. done_links c.args.rows.now.offsets.now c.args.rows.now.columns.now c.loop-i.p i (c.loop-i.invariant.0 i (omega arith))) (λ i h. c.loop-i.invariant.1 i (omega arith))
