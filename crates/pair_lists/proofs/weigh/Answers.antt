-- `pair_lists::weigh` meets its contract. Assumes nothing.
use Prim.Native.Nat.{ℕ}
use mathlib.Core.Path.{◌≡◌, refl, sym, ap, ◌∙◌}
use mathlib.Core.List.{List}
use native.Mathlib.Omega.{arith}
use Rattle.base.specs.Sums.{one}
use mathlib.Core.Logic.{◌≢◌}
use Rattle.lists.specs.declared.Which.{Which}
use Rattle.lists.specs.declared.Which.TheVariants.{AnormIndptr, AnormIndptrI, AnormIndptrJ, AnormIndices, LdecompIndptr, LdecompIndptrI, LdecompIndptrJ, Lindptr, LdiagIndptr, Lindices}
use Rattle.lists.specs.Lists.{weight, shape}
use Rattle.pair_lists.proofs.Bits.{both_weight}
use Rattle.pair_lists.proofs.weigh.Goals as goal

-- a list that counts nothing
nothing : (off cols : List ℕ) (w : Which) (i j : ℕ) → w ≢ AnormIndptr → w ≢ LdecompIndptr → weight (shape off cols) w i j ≡ 0
unfolding weight
nothing off cols AnormIndptr i j a d = absurd (a refl)
nothing off cols LdecompIndptr i j a d = absurd (d refl)
nothing off cols AnormIndptrI i j a d = refl
nothing off cols AnormIndptrJ i j a d = refl
nothing off cols AnormIndices i j a d = refl
nothing off cols LdecompIndptrI i j a d = refl
nothing off cols LdecompIndptrJ i j a d = refl
nothing off cols Lindptr i j a d = refl
nothing off cols LdiagIndptr i j a d = refl
nothing off cols Lindices i j a d = refl

pub overflow_sub-result : goal.overflow_sub-result
overflow_sub-result c =
    let b = ap one (sym c.test.ensures ∙ c.if-test.true) in
    omega (arith, b, both_weight c.args.rows.now.offsets.now c.args.rows.now.columns.now c.requires.0.m c.args.p.now c.requires.0.ready c.args.i c.args.j c.requires.0.inside c.requires.1, c.both_ones-t.ensures.0)

pub returns-in-AnormIndptr : goal.returns-in-AnormIndptr
unfolding weight
returns-in-AnormIndptr c = (
  c.count_shared.ensures.0 ∙ ap (λ (w : Which). weight (shape c.args.rows.now.offsets.now c.args.rows.now.columns.now) w c.args.i c.args.j) (sym c.in-AnormIndptr.is),
  omega (arith, c.count_shared.ensures.1, c.requires.0.ready.short),
)

pub returns-then-test : goal.returns-then-test
returns-then-test c =
    let e = ap (λ (w : Which). weight (shape c.args.rows.now.offsets.now c.args.rows.now.columns.now) w c.args.i c.args.j) c.in-LdecompIndptr.is in
    let b = ap one (sym c.test.ensures ∙ c.if-test.true) in
    (omega (arith, e, b, both_weight c.args.rows.now.offsets.now c.args.rows.now.columns.now c.requires.0.m c.args.p.now c.requires.0.ready c.args.i c.args.j c.requires.0.inside c.requires.1, c.both_ones-t.ensures.0), omega (arith, c.both_ones-t.ensures.1))

pub returns-else-test : goal.returns-else-test
returns-else-test c =
    let e = ap (λ (w : Which). weight (shape c.args.rows.now.offsets.now c.args.rows.now.columns.now) w c.args.i c.args.j) c.in-LdecompIndptr.is in
    let b = ap one (sym c.test.ensures ∙ c.if-test.false) in
    (omega (arith, e, b, both_weight c.args.rows.now.offsets.now c.args.rows.now.columns.now c.requires.0.m c.args.p.now c.requires.0.ready c.args.i c.args.j c.requires.0.inside c.requires.1, c.both_ones-t.ensures.0), omega (arith, c.both_ones-t.ensures.1))

pub returns-in_default : goal.returns-in_default
returns-in_default c = (sym (nothing c.args.rows.now.offsets.now c.args.rows.now.columns.now c.args.which c.args.i c.args.j c.in_default.not-AnormIndptr c.in_default.not-LdecompIndptr), omega arith)
