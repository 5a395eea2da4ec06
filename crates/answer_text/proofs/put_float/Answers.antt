use mathlib.Core.Path.{ap, ◌∙◌}
use mathlib.Core.List.{List, [], ◌∷◌, ◌++◌}
use Prim.Native.Nat.{ℕ}
use native.Mathlib.Omega.{arith}
use lib.ListN.{length-append}
use Rattle.answer_text.specs.Text.{hex_text, float_text}
use Rattle.base.proofs.Write.{same_text}
use Rattle.answer_text.proofs.Texts.{hex_places, hex_is}
use Rattle.answer_text.proofs.put_float.Goals as goal

pub put_then-requires : goal.put_then-requires
put_then-requires c =
    let made = c.hex-k.ensures in
    omega (arith, made.in_bounds.1, hex_places _ _ c.bits_of.type_inv made.len)

pub returns : goal.returns
unfolding float_text
returns c =
    let made = c.hex-k.ensures in
    let few = hex_places _ _ c.bits_of.type_inv made.len in
    let digits = made.digits ∙ hex_is _ _ few made.len ∙ ap hex_text c.bits_of.ensures in
    record {
      wrote = same_text (ap (λ (l : List ℕ). l ++ (c.args.after ∷ [])) digits) c.put_then.ensures;
      value = omega (arith, c.put_then.ensures.next, length-append {A = ℕ}, made.in_bounds.1, few, made.len.0);
    }
