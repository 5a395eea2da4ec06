-- `csr::ask_lists` meets its contract: each return follows the definition's tests in their order. Assumes nothing.
use mathlib.Core.Path.{◌≡◌, sym, ◌∙◌}
use mathlib.Core.Bool.{true, false, ◌&&◌}
use mathlib.Core.List.{List}
use Prim.Native.Nat.{ℕ}
use native.Mathlib.Omega.{arith}
use lib.Dec.{leb, ltb}
use lib.ListN.{length}
use Rattle.std.proofs.Common.{rules}
use Rattle.csr.specs.Pattern.{row}
use Rattle.csr.specs.Questions.{max_columns, first_from, empty, bad_row, offsets_right, rows_right, first_no}
use Rattle.csr.specs.Verdict.{passed}
use Rattle.csr.proofs.First.{below_some, below_none}
use Rattle.csr.proofs.Right.{right, short_some, short_none}
use Rattle.csr.proofs.ask_lists.Goals as goal

-- five yeses
all_yes : (m n : ℕ) (off cols : List ℕ) (values : ℕ) → rows_right m ≡ true → (leb 1 n && leb n max_columns) ≡ true → offsets_right m off (length cols) values ≡ true → ltb (first_from (empty off) 0 m) m ≡ false → ltb (first_from (λ (i : ℕ). bad_row n (row off cols i)) 0 m) m ≡ false → first_no m n off cols values ≡ passed
unfolding first_no
all_yes m n off cols values a b c d e = simp (a, b, c, d, e)

pub returns-then-not-rows_right : goal.returns-then-not-rows_right
unfolding first_no
returns-then-not-rows_right c = simp (← c.rows_right.ensures, c.if-not-rows_right.true)

pub returns-then-not-contains : goal.returns-then-not-contains
unfolding first_no
returns-then-not-contains c =
    let n : c.contains.result ≡ (leb 1 c.args.n && leb c.args.n 1024) = search rules in
    simp (← c.rows_right.ensures, c.if-not-rows_right.false, ← n, c.if-not-contains.true)

pub returns-then-not-offsets_right : goal.returns-then-not-offsets_right
unfolding first_no
returns-then-not-offsets_right c =
    let n : c.contains.result ≡ (leb 1 c.args.n && leb c.args.n 1024) = search rules in
    simp (← c.rows_right.ensures, c.if-not-rows_right.false, ← n, c.if-not-contains.false, ← c.offsets_right.ensures, c.if-not-offsets_right.true)

pub first_short-requires : goal.first_short-requires
first_short-requires c = ((right _ _ _ _ (sym c.offsets_right.ensures ∙ c.if-not-offsets_right.false)).count, omega arith)

pub returns-in-Some : goal.returns-in-Some
unfolding first_no
returns-in-Some c =
    let n : c.contains.result ≡ (leb 1 c.args.n && leb c.args.n 1024) = search rules in
    let r = right _ _ _ _ (sym c.offsets_right.ensures ∙ c.if-not-offsets_right.false) in
    let e = short_some c.args.m c.args.rows.now.offsets.now _ r _ c.in-Some.ensures in
    simp (← c.rows_right.ensures, c.if-not-rows_right.false, ← n, c.if-not-contains.false, ← c.offsets_right.ensures, c.if-not-offsets_right.false, e.0, e.1)

pub first_bad-requires : goal.first_bad-requires
first_bad-requires c = right _ _ _ _ (sym c.offsets_right.ensures ∙ c.if-not-offsets_right.false)

pub returns-in-Some-first_bad : goal.returns-in-Some-first_bad
unfolding first_no
returns-in-Some-first_bad c =
    let n : c.contains.result ≡ (leb 1 c.args.n && leb c.args.n 1024) = search rules in
    let r = right _ _ _ _ (sym c.offsets_right.ensures ∙ c.if-not-offsets_right.false) in
    let e = short_none c.args.m c.args.rows.now.offsets.now _ r (sym c.in_default.is ∙ c.first_short.ensures) in
    let b = below_some _ _ _ c.in-Some-first_bad.ensures in
    simp (← c.rows_right.ensures, c.if-not-rows_right.false, ← n, c.if-not-contains.false, ← c.offsets_right.ensures, c.if-not-offsets_right.false, e, b.0, b.1)

pub returns : goal.returns
returns c =
    let n : c.contains.result ≡ (leb 1 c.args.n && leb c.args.n max_columns) = search rules in
    let q = sym c.offsets_right.ensures ∙ c.if-not-offsets_right.false in
    let e = short_none c.args.m c.args.rows.now.offsets.now _ (right _ _ _ _ q) (sym c.in_default.is ∙ c.first_short.ensures) in
    let b = below_none _ _ (sym c.in_default-first_bad.is ∙ c.first_bad.ensures) in
    sym (all_yes _ _ _ _ _ (sym c.rows_right.ensures ∙ c.if-not-rows_right.false) (sym n ∙ c.if-not-contains.false) q e b)
