-- A part of a list that is written at once. Assumes nothing.
use mathlib.Core.Path.{◌≡◌, refl, sym, ap, ◌∙◌}
use mathlib.Core.List.{List, [], ◌∷◌, ◌++◌, append_assoc}
use Prim.Native.Nat.{ℕ, zero, suc, ◌+◌, ◌-◌, ◌≤◌, ◌<◌}
use native.Mathlib.Omega.{arith}
use native.Mathlib.Numerals.{add-one}
use borrow.Rule.Slice.PartMut.{put_mid}
use lib.ListN.{length, take, drop, set, replicate}
use lib.Seq.{drop-drop, sets}
use Rattle.std.proofs.lemmas.List.Edits.{sets-eq}
use Rattle.base.specs.Cat.{Wrote}

-- elements copied to their part of a list
pub copied : {A : Type 0} (a : List A) (start : ℕ) (s : List A) → start + length s ≤ length a
    → Wrote a (put_mid start (start + length s - start) a s) start s (start + length s)
copied a start s h = record { is = sym (sets-eq s a start h ∙ append_assoc (take start a) s (drop (start + length s) a) ∙ part (omega arith)); next = refl }
  where
    part : {k : ℕ} → k ≡ length s → take start a ++ (s ++ drop (start + length s) a) ≡ put_mid start k a s
    part e = rw (e, drop-drop)

filled_suc : {A : Type 0} (n : ℕ) (x : A) (d : List A) → n < length d → set (replicate n x ++ drop n d) n x ≡ replicate (suc n) x ++ drop (suc n) d
filled_suc zero x (y ∷ d) h = refl
filled_suc (suc n) x (y ∷ d) h = ap (λ (l : List _). x ∷ l) (filled_suc n x d (omega arith))
filled_suc n x [] h = absurd (omega arith)

-- one more of the first elements set to x
pub filled : {A : Type 0} (n : ℕ) (x : A) (d : List A) → n < length d → set (replicate n x ++ drop n d) n x ≡ replicate (n + 1) x ++ drop (n + 1) d
filled n x d h = rw (add-one n) (filled_suc n x d h)
