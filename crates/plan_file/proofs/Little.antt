-- The numbers of two and of four bytes at a place, as a program reads them. Assumes nothing.
use mathlib.Core.Path.{◌≡◌, sym, ap, ap₂, ◌∙◌}
use mathlib.Core.List.{List, ◌∷◌}
use Prim.Native.Nat.{ℕ, suc, ◌+◌, ◌≤◌}
use native.Mathlib.Omega.{arith}
use native.Mathlib.Numerals.{add-one, add-two}
use lib.ListN.{length, get_or, take, drop}
use lib.Seq.{drop-cons}
use Rattle.record.specs.Little.{le2, le4}
use Rattle.plan_file.specs.Bytes.{number}

two : (s : List ℕ) (at : ℕ) → at + 2 ≤ length s → drop at s ≡ get_or s at 0 ∷ (get_or s (at + 1) 0 ∷ drop (at + 2) s)
two s at h =
    drop-cons s at 0 (omega arith)
    ∙ ap (λ (l : List ℕ). get_or s at 0 ∷ l) (drop-cons s (suc at) 0 (omega arith))
    ∙ ap₂ (λ (i j : ℕ). get_or s at 0 ∷ (get_or s i 0 ∷ drop j s)) (sym (add-one at)) (sym (add-two at))

pub le2_is : (s : List ℕ) (at : ℕ) → at + 2 ≤ length s → le2 s at ≡ number (take 2 (drop at s))
unfolding number
le2_is s at h = omega arith ∙ sym (ap (λ (l : List ℕ). number (take 2 l)) (two s at h))

pub le4_is : (s : List ℕ) (at : ℕ) → at + 4 ≤ length s → le4 s at ≡ number (take 4 (drop at s))
unfolding number
le4_is s at h =
    omega arith
    ∙ sym (ap (λ (l : List ℕ). number (take 4 l))
    (two s at (omega arith) ∙ ap (λ (l : List ℕ). get_or s at 0 ∷ (get_or s (at + 1) 0 ∷ l)) (two s (at + 2) (omega arith))))
