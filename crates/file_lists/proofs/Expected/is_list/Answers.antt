-- `file_lists::Expected::is_list` meets its contract. Assumes nothing.
use mathlib.Core.Path.{ap, ◌∙◌}
use mathlib.Core.List.{List}
use Prim.Native.Nat.{ℕ, ◌-◌}
use native.Mathlib.Omega.{arith}
use lib.ListN.{length, get_or}
use Rattle.lists.specs.Lists.{shape}
use Rattle.file_lists.proofs.Numbered.{not_long, words_fit, size_at}
use Rattle.file_lists.proofs.Expected.is_list.Goals as goal

pub sizes-sizes-requires : goal.sizes-sizes-requires
sizes-sizes-requires c = words_fit c.args.self.now.known

pub returns-then-count-sizes : goal.returns-then-count-sizes
returns-then-count-sizes c =
    let many = ap (λ (z : List ℕ). get_or z (c.args.k - 1) 0) c.sizes-sizes.ensures ∙ size_at c.args.self.now.known c.args.k c.requires.0 c.requires.1 in
    not_long _ _ (λ q. omega (arith, q, many, c.count.ensures, c.if-count-sizes.true))

pub is_pair_list-requires : goal.is_pair_list-requires
is_pair_list-requires c =
    let x = c.args.self.now in
    let many = ap (λ (z : List ℕ). get_or z (c.args.k - 1) 0) c.sizes-sizes.ensures ∙ size_at x.known c.args.k c.requires.0 c.requires.1 in (
      omega (arith, many, c.count.ensures, c.if-count-sizes.false, ap length (c.in-Pairs.ensures (shape x.source.rows.offsets.now x.source.rows.columns.now) x.plan.m x.plan.n)),
      omega (arith, c.requires.2.columns),
      c.requires.4,
    )

pub is_column_list-requires : goal.is_column_list-requires
is_column_list-requires c =
    let x = c.args.self.now in
    let many = ap (λ (z : List ℕ). get_or z (c.args.k - 1) 0) c.sizes-sizes.ensures ∙ size_at x.known c.args.k c.requires.0 c.requires.1 in
    (omega (arith, many, c.count.ensures, c.if-count-sizes.false, ap length (c.in-Columns.ensures (shape x.source.rows.offsets.now x.source.rows.columns.now) x.plan.m x.plan.n)), c.requires.2, c.requires.3, c.requires.4)
