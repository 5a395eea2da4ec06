-- A list in the midst of others, by the places where it starts and ends. Assumes nothing.
use mathlib.Core.Path.{◌≡◌, sym, ap, ◌∙◌, subst}
use mathlib.Core.List.{List, [], ◌∷◌, ◌++◌}
use Prim.Native.Nat.{ℕ, zero, suc, ◌+◌, ◌-◌, ◌<◌}
use native.Mathlib.Omega.{arith}
use native.Mathlib.Decide.{dec_lt}
use lib.ListN.{length, get_or, length-append, get_or-append}
use lib.Seq.{get_or-append-add}
use Rattle.base.specs.Cat.{cat}
use Rattle.base.proofs.Write.{singles_length}
use Rattle.plan_laws.proofs.Ranks.{cat_at}

-- what holds of each number of each list holds of each number of the joined
pub cat_all : (P : ℕ → Type 0) (n : ℕ) (f : ℕ → List ℕ) → ((i : ℕ) → i < n → (t : ℕ) → t < length (f i) → P (get_or (f i) t 0))
    → (t : ℕ) → t < length (cat n f) → P (get_or (cat n f) t 0)
unfolding cat
cat_all P zero f h t l = absurd (omega arith)
cat_all P (suc n) f h t l = go (dec_lt t (length (cat n f))) (cat_all P n f (λ i b. h i (omega arith)) t)
  where
    go : Dec (t < length (cat n f)) → (t < length (cat n f) → P (get_or (cat n f) t 0)) → P (get_or (cat n f ++ f n) t 0)
    go (yes b) ih = subst P (sym (get_or-append (cat n f) (f n) 0 t b)) (ih b)
    go (no b) ih =
        let z : t ≡ length (cat n f) + (t - length (cat n f)) = omega arith in
        let e : get_or (cat n f ++ f n) t 0 ≡ get_or (f n) (t - length (cat n f)) 0 =
        ap (λ (k : ℕ). get_or (cat n f ++ f n) k 0) z ∙ get_or-append-add (cat n f) (f n) (t - length (cat n f)) 0 in
        subst P (sym e) (h n (omega arith) (t - length (cat n f)) (omega (arith, length-append (cat n f) (f n))))

pub singles_at : (n : ℕ) (f : ℕ → ℕ) (i : ℕ) → i < n → get_or (cat n (λ k. f k ∷ [])) i 0 ≡ f i
singles_at n f i h =
    let z : i ≡ length (cat i (λ k. f k ∷ [])) + 0 = omega (arith, singles_length i f) in
    ap (λ (k : ℕ). get_or (cat n (λ k. f k ∷ [])) k 0) z ∙ cat_at n (λ k. f k ∷ []) i 0 h (omega arith)
