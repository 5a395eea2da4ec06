-- `pattern::seed_row` meets its contract. Assumes nothing.
use Prim.Native.Nat.{◌<◌}
use mathlib.Core.Path.{◌≡◌, ap}
use mathlib.Core.List.{List}
use Prim.Native.Nat.{ℕ}
use native.Mathlib.Omega.{arith}
use lib.ListN.{length, get_or}
use Rattle.csr.specs.Pattern.{row}
use Rattle.csr.specs.Csr.{RowOf}
use Rattle.pattern.proofs.Linking.{first_most, linking_start, linking_turn, linking_row, linking_firsts}
use Rattle.base.proofs.Numbers.{below_at}
use Rattle.pattern.proofs.seed_row.Goals as goal

-- the columns of the row are below 1,024
column : (off cols : List ℕ) (i : ℕ) (r : List ℕ) (q : ℕ) → RowOf off cols i 1024 → r ≡ row off cols i → q < length r → get_or r q 0 < 1024
column off cols i r q h e g = below_at 1024 r q (rw e h.within) g

pub loop-e-init : goal.loop-e-init
loop-e-init c = linking_start c.args.rows.now.offsets.now c.args.rows.now.columns.now c.args.i c.args.p.now c.args.first.now c.requires.1 c.requires.2 c.requires.3

pub link-requires : goal.link-requires
link-requires c =
    let h = column c.args.rows.now.offsets.now c.args.rows.now.columns.now c.args.i c.row-e-items.result.now c.loop-e.e-index c.requires.0 c.row-e-items.ensures c.loop-e-test.true in
    (omega (arith, h), c.requires.1, first_most c.args.rows.now.offsets.now c.args.rows.now.columns.now c.args.i c.loop-e.invariant _ h)

pub loop-e-preserved : goal.loop-e-preserved
loop-e-preserved c =
    let h = column c.args.rows.now.offsets.now c.args.rows.now.columns.now c.args.i c.row-e-items.result.now c.loop-e.e-index c.requires.0 c.row-e-items.ensures c.loop-e-test.true in
    linking_turn c.args.rows.now.offsets.now c.args.rows.now.columns.now c.args.i c.link.new.p c.link.new.first _ c.loop-e.invariant c.requires.1
    (omega (arith, c.loop-e-test.true, ap length c.row-e-items.ensures))
    (ap (λ (r : List ℕ). get_or r c.loop-e.e-index 0) c.row-e-items.ensures)
    h c.link.ensures.first c.link.ensures.bits

pub returns-clause-row : goal.returns-clause-row
returns-clause-row c =
    let o = c.args.rows.now.offsets.now in
    let k = c.args.rows.now.columns.now in
    let i = c.args.i in
    let all : c.loop-e.e-index ≡ length (row o k i) = omega (arith, ap length c.row-e-items.ensures) in
    linking_row o k i c.loop-e.invariant c.requires.1 all c.put.new.p c.put.ensures

pub returns-clause-first : goal.returns-clause-first
returns-clause-first c =
    let o = c.args.rows.now.offsets.now in
    let k = c.args.rows.now.columns.now in
    let i = c.args.i in
    let all : c.loop-e.e-index ≡ length (row o k i) = omega (arith, ap length c.row-e-items.ensures) in
    linking_firsts o k i c.loop-e.invariant c.requires.1 all
