-- A list that takes another's numbers from the front. Assumes nothing.
use mathlib.Core.Path.{◌≡◌, sym, ap, ◌∙◌}
use mathlib.Core.List.{List, ◌++◌, append-nil}
use Prim.Native.Nat.{ℕ, ◌+◌, ◌<◌}
use native.Mathlib.Numerals.{add-one}
use native.Mathlib.Omega.{arith}
use lib.ListN.{length, set, take, drop}
use lib.Seq.{take-suc, take_all, length-take-le, drop-length}
use lib.Ieee.{Float, nan}
use Rattle.base.proofs.Front.{put_next}
use Rattle.lanes.specs.Lists.{at}

-- the first i numbers of `new` are those of a source
pub copied_next : (source old new : List Float) (i : ℕ) → new ≡ take i source ++ drop i old → i < length source → i < length old
    → set new i (at source i) ≡ take (i + 1) source ++ drop (i + 1) old
copied_next source old new i e h l =
    ap (λ (x : List Float). set x i (at source i)) e
    ∙ put_next (take i source) old i (at source i) (length-take-le i source (omega arith)) l
    ∙ ap (λ (x : List Float). x ++ drop (i + 1) old) (sym (take-suc source i nan h) ∙ ap (λ (k : ℕ). take k source) (sym (add-one i)))

pub copied_all : (source old new : List Float) (i : ℕ) → new ≡ take i source ++ drop i old → i ≡ length old → length old ≡ length source → new ≡ source
copied_all source old new i e h s =
    e
    ∙ ap (λ (k : ℕ). take i source ++ drop k old) h
    ∙ ap (λ (x : List Float). take i source ++ x) (drop-length old)
    ∙ append-nil (take i source)
    ∙ take_all i source (omega arith)
