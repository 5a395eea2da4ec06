use mathlib.Core.Path.{ap, ◌∙◌}
use mathlib.Core.List.{List, [], ◌∷◌, ◌++◌}
use Prim.Native.Nat.{ℕ}
use native.Mathlib.Omega.{arith}
use lib.ListN.{length-append}
use Rattle.answer_text.specs.Text.{decimal_text, whole_text}
use Rattle.base.proofs.Write.{same_text}
use Rattle.answer_text.proofs.Texts.{decimal_places, decimal_is}
use Rattle.answer_text.proofs.put_whole.Goals as goal

pub put_then-requires : goal.put_then-requires
put_then-requires c =
    let made = c.decimal-k.ensures in
    omega (arith, made.in_bounds.1, decimal_places _ _ c.ranges.x.fits made.len)

pub returns : goal.returns
unfolding whole_text decimal_text
returns c =
    let made = c.decimal-k.ensures in
    let few = decimal_places _ _ c.ranges.x.fits made.len in
    let digits = made.digits ∙ decimal_is 20 _ _ few made.len in
    record {
      wrote = same_text (ap (λ (l : List ℕ). l ++ (c.args.after ∷ [])) digits) c.put_then.ensures;
      upper_bound = omega (arith, c.put_then.ensures.next, length-append {A = ℕ}, made.in_bounds.1, few);
    }
