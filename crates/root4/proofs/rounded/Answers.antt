-- `root4::rounded` meets its contract. Assumes nothing.
use mathlib.Core.Path.{◌≡◌, sym, ap, ◌∙◌, subst}
use mathlib.Core.Bool.{true}
use mathlib.Core.Logic.{⊎_elim}
use native.Mathlib.Omega.{arith}
use lib.Dec.{T}
use lib.Ieee.{binary64}
use Rattle.root.specs.Root.{root}
use Rattle.root4.specs.Steps.{passes_at}
use Rattle.root4.proofs.Numbers.{low_pattern}
use Rattle.root4.proofs.Roots.{verified_root, verified_least}
use Rattle.root4.proofs.rounded.Goals as goal

pub float_from_bits-high : goal.float_from_bits-high
float_from_bits-high c = low_pattern _ (omega (arith, c.raised-s.ensures.most, c.raised-s.ensures.least))

pub float_from_bits-unit : goal.float_from_bits-unit
float_from_bits-unit c = low_pattern _ (omega (arith, c.raised-s.ensures.most, c.raised-s.ensures.least))

pub returns : goal.returns
returns c =
    let n = c.raised-s in
    let held = subst T (sym c.well_formed.0.1) tt in
    let fits = subst T (sym n.type_inv) tt in
    let verified : c.within.result ≡ true → c.args.near ≡ root binary64 c.args.x = λ h.
    (let ok = sym c.within.ensures ∙ h in
    ⊎_elim
    (λ same. sym same ∙ verified_root _ _ held fits n.ensures.least n.ensures.most ok)
    (λ least. absurd (verified_least _ _ held fits n.ensures.least n.ensures.most ok c.requires least))
    n.ensures.is) in
    (verified, c.within.ensures ∙ ap (passes_at c.args.x) n.ensures.equal)
