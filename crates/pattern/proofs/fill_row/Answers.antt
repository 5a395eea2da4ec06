-- `pattern::fill_row` meets its contract. Assumes nothing.
use Prim.Native.Nat.{ℕ, ◌<◌, ◌+◌}
use mathlib.Core.Path.{◌≡◌, sym, subst}
use mathlib.Core.Bool.{Bool, false, ◌&&◌}
use mathlib.Core.List.{List}
use native.Mathlib.Omega.{arith}
use Rattle.pattern.specs.Word.{bit, Put, Done, Seeded, OtherRows}
use Rattle.pattern.proofs.Rows.{Common, Part, step_no, step_yes, part_end, other_put, done_other}
use Rattle.pattern.proofs.fill_row.Goals as goal
use Rattle.pattern.proofs.fill_row.Goals.{then-meets, else-meets}

-- the entries below j of row i are filled
abbrev Filled : List ℕ → ℕ → List ℕ → ℕ → Type 0
Filled p₀ i p j =
    OtherRows p₀ p i × ((nb : ℕ → ℕ → Bool) → ((a : ℕ) → a < i → Done nb p₀ a) → Seeded nb p₀ i → Part nb p i j)

-- after a turn that set the bit, and after one that did not
again-yes : (p₀ : List ℕ) (i : ℕ) (p : List ℕ) (j : ℕ) (q : List ℕ) → i < 256 → j < i → Filled p₀ i p j → Put p q i j
    → Common p i j → Filled p₀ i q (j + 1)
again-yes p₀ i p j q hi hj v u cm = (
  other_put p₀ p q i j v.0 u,
  λ nb d s. step_yes nb p i j hi hj (done_other nb p₀ p i hi v.0 d) (v.1 nb d s) q u cm,
)

again-no : (p₀ : List ℕ) (i : ℕ) (p : List ℕ) (j : ℕ) → i < 256 → j < i → Filled p₀ i p j
    → ((k : ℕ) → k < 256 → bit p i k && bit p j k ≡ false) → Filled p₀ i p (j + 1)
again-no p₀ i p j hi hj v f = (v.0, λ nb d s. step_no nb p i j hi hj (done_other nb p₀ p i hi v.0 d) (v.1 nb d s) f)

pub loop-j-preserved : goal.loop-j-preserved
loop-j-preserved c =
    let lt : c.loop-j.j < c.args.i = omega arith in
    let hi : c.args.i < 256 = omega arith in
    elim c.if-meets.branch [
      | then-meets w ↦
          subst (λ (x : List ℕ). Filled c.args.p.now c.args.i x (c.loop-j.j + 1)) (sym w.p-is)
          (again-yes c.args.p.now c.args.i c.loop-j.p c.loop-j.j w.put.new.p hi lt c.loop-j.invariant w.put.ensures (c.meets.ensures.yes w.if-meets.true))
      | else-meets w ↦
          subst (λ (x : List ℕ). Filled c.args.p.now c.args.i x (c.loop-j.j + 1)) (sym w.p-is)
          (again-no c.args.p.now c.args.i c.loop-j.p c.loop-j.j hi lt c.loop-j.invariant (c.meets.ensures.no w.if-meets.false))
    ]

pub returns-clause-row : goal.returns-clause-row
returns-clause-row c =
    let e : c.loop-j.j ≡ c.args.i = omega arith in
    λ nb d sd. part_end nb c.loop-j.p c.args.i (Prim.rw e at (c.loop-j.invariant.1 nb d sd))
