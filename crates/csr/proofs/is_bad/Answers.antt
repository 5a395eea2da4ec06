-- `csr::is_bad` meets its contract. Assumes nothing.
use mathlib.Core.Path.{sym}
use native.Mathlib.Omega.{arith}
use lib.ListN.{length}
use borrow.Author.Tests.{lt-ltb, le-leb, lt-leb}
use Rattle.csr.specs.Questions.{bad_at, bad_row}
use Rattle.csr.proofs.First.{first_some, first_none}
use Rattle.csr.proofs.is_bad.Goals as goal

pub returns-then-x-n : goal.returns-then-x-n
unfolding bad_row
returns-then-x-n c = sym (first_some (bad_at c.args.n c.args.row.now) (length c.args.row.now) c.loop-k.k (omega arith) (simp (le-leb _ _ c.if-x-n.true)))

pub returns-then-x-row : goal.returns-then-x-row
unfolding bad_row
returns-then-x-row c =
    sym (first_some (bad_at c.args.n c.args.row.now) (length c.args.row.now) c.loop-k.k (omega arith)
    (simp (lt-leb _ _ c.if-x-n.false, lt-ltb _ _ c.if-k-gt0.true, le-leb _ _ c.if-x-row.true)))

pub returns : goal.returns
unfolding bad_row
returns c = sym (first_none (bad_at c.args.n c.args.row.now) (length c.args.row.now) (λ k l. c.loop-k.invariant k (omega arith)))
