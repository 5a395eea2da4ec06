-- The rule of `stored`, and what follows from it. Assumes nothing.
use mathlib.Core.Path.{◌≡◌, sym, ap, ◌∙◌}
use mathlib.Core.Logic.{◌⊎◌, inl, inr}
use mathlib.Core.Bool.{Bool, true, ◌&&◌, ◌||◌}
use Prim.Native.Nat.{ℕ, zero, suc, ◌<◌, ◌≤◌}
use native.Mathlib.Omega.{arith}
use native.Mathlib.Decide.{ℕ_discrete}
use borrow.Author.Tests.{ne_eqb, eq-eqb, eqb-true}
use lib.Dec.{eqb}
use Rattle.base.proofs.Bools.{or_left, or_right, or_out, and_in, and_out}
use Rattle.csr.specs.Pattern.{fill, stored}
use Rattle.csr.specs.Chain.{Meets, StoredRule}
use Rattle.csr.specs.Walks.{fill_nb}

module _ (nb : ℕ → ℕ → Bool) where
  pub stored_diag : (i j : ℕ) → i ≡ j → stored nb i j ≡ true
  unfolding stored
  stored_diag i j e = or_left (eqb i j) (fill nb j i j) (eq-eqb i j e)

  pub fill_out : (b i j : ℕ) → fill nb b i j ≡ true → (nb i j ≡ true) ⊎ Meets nb b i j
  unfolding fill stored
  fill_out zero i j e = inl e
  fill_out (suc b) i j e = go (fill_out b i j) (or_out (fill nb b i j) (fill nb b i b && fill nb b j b) e)
    where
      more : (nb i j ≡ true) ⊎ Meets nb b i j → (nb i j ≡ true) ⊎ Meets nb (suc b) i j
      more (inl n) = inl n
      more (inr m) = inr (m.0, omega (arith, m.1), m.2, m.3)

      as_stored : (x : ℕ) → fill nb b x b ≡ true → stored nb x b ≡ true
      as_stored x f = or_right (eqb x b) (fill nb b x b) f

      go : (fill nb b i j ≡ true → (nb i j ≡ true) ⊎ Meets nb b i j) → (fill nb b i j ≡ true) ⊎ (fill nb b i b && fill nb b j b ≡ true)
          → (nb i j ≡ true) ⊎ Meets nb (suc b) i j
      go ih (inl u) = more (ih u)
      go ih (inr u) =
          let s = and_out (fill nb b i b) (fill nb b j b) u in
          inr (b, omega arith, as_stored i s.0, as_stored j s.1)

  pub fill_in : (b i j k : ℕ) → k < b → fill nb k i k ≡ true → fill nb k j k ≡ true → fill nb b i j ≡ true
  unfolding fill
  fill_in zero i j k h p q = absurd (omega arith)
  fill_in (suc b) i j k h p q = go (fill_in b i j k) (ℕ_discrete k b)
    where
      go : (k < b → fill nb k i k ≡ true → fill nb k j k ≡ true → fill nb b i j ≡ true) → Dec (k ≡ b)
          → fill nb b i j || (fill nb b i b && fill nb b j b) ≡ true
      go ih (yes e) =
          or_right (fill nb b i j) (fill nb b i b && fill nb b j b) (and_in (fill nb b i b) (fill nb b j b) (rw e at p) (rw e at q))
      go ih (no n) = or_left (fill nb b i j) (fill nb b i b && fill nb b j b) (ih (omega arith) p q)

  pub off_diag : (x k : ℕ) → k < x → stored nb x k ≡ fill nb k x k
  unfolding stored
  off_diag x k h = ap (λ (t : Bool). t || fill nb k x k) (ne_eqb x k (λ e. omega arith))

  pub stored_rule : StoredRule nb
  unfolding stored
  stored_rule i j h = (λ e. out (or_out (eqb i j) (fill nb j i j) e), back)
    where
      out : (eqb i j ≡ true) ⊎ (fill nb j i j ≡ true) → (i ≡ j) ⊎ ((nb i j ≡ true) ⊎ Meets nb j i j)
      out (inl e) = inl (eqb-true i j e)
      out (inr e) = inr (fill_out j i j e)

      back : (i ≡ j) ⊎ ((nb i j ≡ true) ⊎ Meets nb j i j) → stored nb i j ≡ true
      back (inl e) = stored_diag i j e
      back (inr (inl e)) = or_right (eqb i j) (fill nb j i j) (fill_nb nb j i j e)
      back (inr (inr m)) =
          or_right (eqb i j) (fill nb j i j)
          (fill_in j i j m.0 m.1 (sym (off_diag i m.0 (omega (arith, m.1))) ∙ m.2) (sym (off_diag j m.0 m.1) ∙ m.3))

-- ---- what follows from it

pub by_rule : (nb : ℕ → ℕ → Bool) (i j : ℕ) → j < i → nb i j ≡ true → stored nb i j ≡ true
by_rule nb i j l h = (stored_rule nb i j (omega arith)).1 (inr (inl h))

pub meets : (nb : ℕ → ℕ → Bool) (i j k : ℕ) → j ≤ i → k < j → stored nb i k ≡ true → stored nb j k ≡ true → stored nb i j ≡ true
meets nb i j k l d p q = (stored_rule nb i j l).1 (inr (inr (k, d, p, q)))

-- what holds the neighbours of another pattern holds all that it stores
pub grows : (nb nb' : ℕ → ℕ → Bool) → ((i j : ℕ) → j < i → nb i j ≡ true → stored nb' i j ≡ true)
    → (n i j : ℕ) → j < n → j < i → stored nb i j ≡ true → stored nb' i j ≡ true
grows nb nb' near zero i j b l h = absurd (omega arith)
grows nb nb' near (suc n) i j b l h = go ((stored_rule nb i j (omega arith)).0 h) (grows nb nb' near n)
  where
    go : (i ≡ j) ⊎ ((nb i j ≡ true) ⊎ Meets nb j i j) → ((a c : ℕ) → c < n → c < a → stored nb a c ≡ true → stored nb' a c ≡ true) → stored nb' i j ≡ true
    go (inl e) ih = absurd (omega arith)
    go (inr (inl t)) ih = near i j l t
    go (inr (inr t)) ih =
        meets nb' i j t.0 (omega arith) t.1 (ih i t.0 (omega (arith, t.1)) (omega (arith, t.1)) t.2) (ih j t.0 (omega (arith, t.1)) t.1 t.3)
