-- `sizes::sizes_accepted` meets its contract. Assumes nothing.
use mathlib.Core.Path.{◌∙◌}
use borrow.Author.Tests.{le-leb, lt-leb}
use Rattle.counts.proofs.Plans.{words_are, numbers_are, words_fit}
use Rattle.sizes.specs.Sizes.{slack_verdict}
use Rattle.sizes.proofs.sizes_accepted.Goals as goal

pub returns-then-matrix-s : goal.returns-then-matrix-s
unfolding slack_verdict
returns-then-matrix-s c = simp (lt-leb _ _ c.if-matrix-s.true)

pub words-words-requires : goal.words-words-requires
words-words-requires c = let M = c.args.matrix.now in rw c.plan_sizes-plan.ensures (words_fit M.rows.offsets.now M.rows.columns.now M.m M.n c.args.s M.accepted)

pub returns : goal.returns
unfolding slack_verdict
returns c =
    let M = c.args.matrix.now in
    let o = M.rows.offsets.now in
    let k = M.rows.columns.now in
    let w = rw c.plan_sizes-plan.ensures at c.words-words.ensures ∙ words_are o k M.m M.n c.args.s in
    let f = rw c.plan_sizes-plan.ensures at c.numbers-numbers.ensures ∙ numbers_are o k M.m M.n c.args.s in
    rw (w, f, c.plan_sizes-plan.ensures) simp (le-leb _ _ c.if-matrix-s.false)
