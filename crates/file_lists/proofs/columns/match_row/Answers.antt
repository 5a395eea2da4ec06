-- `file_lists::columns::match_row` meets its contract. Assumes nothing.
use Prim.Native.Nat.{ℕ}
use mathlib.Core.Path.{refl, sym, ap, ◌∙◌}
use native.Mathlib.Omega.{arith}
use lib.ListN.{get_or}
use Rattle.file_numbers.specs.Agree.{numbers_of}
use Rattle.file_lists.proofs.Matches as law
use Rattle.file_lists.proofs.columns.match_row.Goals as goal

pub loop-k-init : goal.loop-k-init
loop-k-init c = law.match_start _ _ _ _ c.args.rows.now.grid _ _ c.requires.0 _ c.requires.2 _ c.requires.1 c.requires.3 _ refl

pub step-q-requires : goal.step-q-requires
step-q-requires c =
    let asks = law.match_asks _ _ _ _ c.args.rows.now.grid _ _ c.requires.0 _ c.requires.2 _ c.requires.1 c.requires.3 _ _ _ (omega arith) (omega arith) c.at-e.ensures c.of_entry-x.ensures _ c.loop-k.auto.next c.loop-k.invariant in
    (asks.0, asks.1)

pub number_at-requires : goal.number_at-requires
number_at-requires c =
    let asks = law.match_asks _ _ _ _ c.args.rows.now.grid _ _ c.requires.0 _ c.requires.2 _ c.requires.1 c.requires.3 _ _ _ (omega arith) (omega arith) c.at-e.ensures c.of_entry-x.ensures _ c.loop-k.auto.next c.loop-k.invariant in
    omega (arith, asks.2, c.step-q.ensures.0)

pub returns-then-number_at-x-clause-other : goal.returns-then-number_at-x-clause-other
returns-then-number_at-x-clause-other c =
    λ e.
    law.match_not _ _ _ _ c.args.rows.now.grid _ _ c.requires.0 _ c.requires.2 _ c.requires.1 c.requires.3 _ _ _ (omega arith) (omega arith) c.at-e.ensures c.of_entry-x.ensures _ c.loop-k.auto.next c.loop-k.invariant
    (λ q. c.if-number_at-x.true (c.number_at.ensures ∙ ap (λ (k : ℕ). get_or (numbers_of c.args.body.now) k 0) c.step-q.ensures.0 ∙ q))

pub loop-k-preserved : goal.loop-k-preserved
loop-k-preserved c =
    law.match_turn _ _ _ _ c.args.rows.now.grid _ _ c.requires.0 _ c.requires.2 _ c.requires.1 c.requires.3 _ _ _ (omega arith) (omega arith) c.at-e.ensures c.of_entry-x.ensures _ c.loop-k.auto.next c.loop-k.invariant _
    (sym (c.number_at.ensures ∙ ap (λ (k : ℕ). get_or (numbers_of c.args.body.now) k 0) c.step-q.ensures.0) ∙ c.if-number_at-x.false) c.step-q.ensures.1

pub returns-clause-on : goal.returns-clause-on
returns-clause-on c = λ e. law.match_end _ _ _ _ c.args.rows.now.grid _ _ c.requires.0 _ c.requires.2 _ c.requires.1 c.requires.3 _ _ (omega arith) c.loop-k.invariant
