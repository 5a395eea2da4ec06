-- What is stored in a row is met along parents, and the other way round. Assumes nothing.
use mathlib.Core.Path.{◌≡◌, sym, ◌∙◌, subst}
use mathlib.Core.Logic.{◌⊎◌, inl, inr, ◌↔◌}
use mathlib.Core.Bool.{Bool, true}
use mathlib.Core.List.{List}
use Prim.Native.Nat.{ℕ, zero, suc, ◌+◌, ◌<◌, ◌≤◌}
use native.Mathlib.Omega.{arith}
use native.Mathlib.Decide.{ℕ_discrete}
use Rattle.csr.specs.Pattern.{neighbours, stored}
use Rattle.csr.specs.Chain.{Meets}
use Rattle.csr.proofs.Rule.{stored_rule, by_rule, meets}
use Rattle.csr.specs.Counts.{is_stored}
use Rattle.pattern.specs.Links.{links}
use Rattle.pattern.proofs.Links.{links_stored}
use Rattle.parents.specs.Parent.{parent_of, Parent, Along, from, up, RowAlong}
use Rattle.parents.proofs.Lowest.{parent_is, parent_some}

-- a pattern that is filled from some pairs by the rule of `stored`
pub record Filled (st near : ℕ → ℕ → Bool) : Type 0 where
  pub seeds : (i j : ℕ) → j < i → near i j ≡ true → st i j ≡ true
  pub joins : (i j k : ℕ) → j < i → k < j → st i k ≡ true → st j k ≡ true → st i j ≡ true
  pub rule : (i j : ℕ) → j < i → st i j ≡ true → (near i j ≡ true) ⊎ ((k : ℕ) × (k < j) × (st i k ≡ true) × (st j k ≡ true))

module _ (st near : ℕ → ℕ → Bool) (fills : Filled st near) where
  -- what is met along parents is stored: one step of the rule
  along_stored : (i k : ℕ) → Along st near i k → (k < i) × (st i k ≡ true)
  along_stored i k (from l e) = (l, fills.seeds i k l e)
  along_stored i k (up {k = c} a p l) =
      let w = along_stored i c a in
      (l, fills.joins i k c l p.later w.1 p.entry)

  -- from row c, met, along parents to row k, which has an entry in column c
  upward : (n i c k : ℕ) → k ≤ c + n → c < k → k < i → Along st near i c → st k c ≡ true → Along st near i k
  upward zero i c k b l u a e = absurd (omega arith)
  upward (suc n) i c k b l u a e = go (parent_some st i c k l e u) (upward n)
    where
      go : (p : ℕ) × (parent_of st i c ≡ suc p) × (p ≤ k)
          → ((i c k : ℕ) → k ≤ c + n → c < k → k < i → Along st near i c → st k c ≡ true → Along st near i k) → Along st near i k
      go t ih = turn (ℕ_discrete t.0 k)
        where
          w : Parent st c t.0 × (t.0 < i)
          w = parent_is st i c t.0 t.1

          a' : Along st near i t.0
          a' = up a w.0 w.1

          turn : Dec (t.0 ≡ k) → Along st near i k
          turn (yes z) = subst (λ (x : ℕ). Along st near i x) z a'
          turn (no z) =
              let d : t.0 < k = omega (arith, t.2) in
              ih i t.0 k (omega (arith, w.0.later)) d u a' (fills.joins k t.0 c d w.0.later e w.0.entry)

  -- what is stored is met along parents
  stored_along : (n i k : ℕ) → k < n → k < i → st i k ≡ true → Along st near i k
  stored_along zero i k b l e = absurd (omega arith)
  stored_along (suc n) i k b l e = go (fills.rule i k l e) (stored_along n)
    where
      go : (near i k ≡ true) ⊎ ((c : ℕ) × (c < k) × (st i c ≡ true) × (st k c ≡ true))
          → ((i k : ℕ) → k < n → k < i → st i k ≡ true → Along st near i k) → Along st near i k
      go (inl h) ih = from l h
      go (inr h) ih = upward k i h.0 k (omega arith) h.1 l (ih i h.0 (omega (arith, h.1)) (omega (arith, h.1)) h.2) h.3

  pub along : (i k : ℕ) → k < i → (st i k ≡ true) ↔ Along st near i k
  along i k l = (stored_along (suc k) i k (omega arith) l, λ a. (along_stored i k a).1)

-- ---- the factor's pattern is filled from the neighbours, and from the links
module _ (nb : ℕ → ℕ → Bool) where
  ruled : (i j : ℕ) → j < i → stored nb i j ≡ true → (nb i j ≡ true) ⊎ ((k : ℕ) × (k < j) × (stored nb i k ≡ true) × (stored nb j k ≡ true))
  ruled i j l h = go ((stored_rule nb i j (omega arith)).0 h)
    where
      go : (i ≡ j) ⊎ ((nb i j ≡ true) ⊎ Meets nb j i j) → (nb i j ≡ true) ⊎ ((k : ℕ) × (k < j) × (stored nb i k ≡ true) × (stored nb j k ≡ true))
      go (inl e) = absurd (omega arith)
      go (inr t) = t

  filled : Filled (stored nb) nb
  filled = record { seeds = by_rule nb; joins = λ i j k l. meets nb i j k (omega arith); rule = ruled }

module _ (off cols : List ℕ) where
  filled_near : Filled (is_stored off cols) (neighbours off cols)
  unfolding is_stored
  filled_near = filled (neighbours off cols)

  -- THE ROWS OF THE FACTOR ALONG PARENTS
  pub row_along : RowAlong off cols
  row_along = along (is_stored off cols) (neighbours off cols) filled_near

  -- the same pattern, filled from the first row of each column
  pub filled_links : Filled (is_stored off cols) (links off cols)
  unfolding is_stored
  filled_links = record {
    seeds = λ i j l h. sym (links_stored off cols i j l) ∙ by_rule (links off cols) i j l h;
    joins = λ i j k l. meets (neighbours off cols) i j k (omega arith);
    rule = λ i j l h. go i j l (ruled (links off cols) i j l (links_stored off cols i j l ∙ h));
  }
    where
      go : (i j : ℕ) → j < i → (links off cols i j ≡ true) ⊎ ((k : ℕ) × (k < j) × (stored (links off cols) i k ≡ true) × (stored (links off cols) j k ≡ true))
          → (links off cols i j ≡ true) ⊎ ((k : ℕ) × (k < j) × (stored (neighbours off cols) i k ≡ true) × (stored (neighbours off cols) j k ≡ true))
      go i j l (inl h) = inl h
      go i j l (inr t) =
          inr (t.0, t.1, sym (links_stored off cols i t.0 (omega (arith, t.1))) ∙ t.2, sym (links_stored off cols j t.0 t.1) ∙ t.3)
