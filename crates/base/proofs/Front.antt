-- Lists written from the front. Assumes nothing.
use mathlib.Core.Path.{◌≡◌, sym, ap, ◌∙◌}
use mathlib.Core.List.{List, [], ◌∷◌, ◌++◌, append_assoc}
use Prim.Native.Nat.{ℕ, suc, ◌+◌, ◌<◌}
use native.Mathlib.Numerals.{add-one}
use native.Mathlib.Omega.{arith}
use lib.ListN.{length, get_or, set, drop, replicate, length-replicate, get_or-replicate, replicate-append-replicate, get_or-append}
use lib.Seq.{drop-cons, set_at}

-- one more behind those that are put
pub put_next : {A : Type 0} (front old : List A) (i : ℕ) (v : A) → length front ≡ i → i < length old → set (front ++ drop i old) i v ≡ (front ++ (v ∷ [])) ++ drop (i + 1) old
put_next {A} front old i v e h =
    ap (λ (l : List A). set (front ++ l) i v) (drop-cons old i v h)
    ∙ set_at front (get_or old i v) (drop (suc i) old) v i e
    ∙ sym (append_assoc front (v ∷ []) (drop (suc i) old))
    ∙ ap (λ (k : ℕ). (front ++ (v ∷ [])) ++ drop k old) (sym (add-one i))

-- the first i of `new` are one value
pub cleared_next : {A : Type 0} (old new : List A) (v : A) (i : ℕ) → new ≡ replicate i v ++ drop i old → i < length old → set new i v ≡ replicate (i + 1) v ++ drop (i + 1) old
cleared_next {A} old new v i e h =
    ap (λ (x : List A). set x i v) e
    ∙ put_next (replicate i v) old i v (length-replicate i v) h
    ∙ ap (λ (x : List A). x ++ drop (i + 1) old) (replicate-append-replicate i 1 v)

pub cleared_all : {A : Type 0} (old new : List A) (v : A) (i k : ℕ) → new ≡ replicate i v ++ drop i old → i ≡ k → new ≡ replicate k v ++ drop k old
cleared_all old new v i k e h = e ∙ ap (λ (j : ℕ). replicate j v ++ drop j old) h

pub cleared_at : {A : Type 0} (old new : List A) (v d : A) (n : ℕ) → new ≡ replicate n v ++ drop n old → (c : ℕ) → c < n → get_or new c d ≡ v
cleared_at {A} old new v d n e c h =
    ap (λ (x : List A). get_or x c d) e
    ∙ get_or-append (replicate n v) (drop n old) d c (omega (arith, length-replicate n v))
    ∙ get_or-replicate n c v d h
