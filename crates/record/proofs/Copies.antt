-- A list filled from the front. Assumes nothing.
use mathlib.Core.Path.{◌≡◌, sym, ◌∙◌}
use mathlib.Core.List.{List}
use Prim.Native.Nat.{ℕ, ◌<◌}
use native.Mathlib.Omega.{arith}
use lib.ListN.{length, get_or}
use lib.Seq.{ext_get_or}
use Rattle.lanes.specs.Lists.{grow}
use Rattle.lanes.proofs.Lists.{grow_length, grow_at}

pub filled : {A : Type 0} (f : ℕ → A) (xs : List A) (n : ℕ) (none : A) → length xs ≡ n → ((k : ℕ) → k < n → get_or xs k none ≡ f k) → xs ≡ grow n (λ _ k. f k)
filled f xs n none e h =
    ext_get_or none xs (grow n (λ _ k. f k)) (e ∙ sym (grow_length (λ _ k. f k) n))
    (λ k l. let b : k < n = omega (arith, e) in h k b ∙ sym (grow_at (λ _ j. f j) n k none b))
