-- When a solve is accepted, when its no is at 11, and when at 12: demand 3, a field for each sentence. Definitions only.
use Rattle.std.specs.Prelude.{◌≡◌, ◌↔◌, ℕ, ◌≤◌, ◌<◌}
use Rattle.machine.specs.Machine.{Status, spoilt, done}
use Rattle.machine.specs.Outcome.{Outcome, accepted, no_at11, no_at12}

-- `says l k`: what test k of lane l yields
module _ (K : ℕ) (says : ℕ → ℕ → Status) where
  -- test k finds all the machines done; test k finds lane l's spoilt
  abbrev pub AllDone : ℕ → Type 0
  AllDone k = (l : ℕ) → l < K → says l k ≡ done

  abbrev pub SpoiltAt : ℕ → ℕ → Type 0
  SpoiltAt k l = (l < K) × (says l k ≡ spoilt)

  -- 'some test up to the limit finds all the machines done and no test before that one a spoilt one'
  pub record Finished (N k : ℕ) : Type 0 where
    pub from : 1 ≤ k
    pub up_to : k ≤ N
    pub all : AllDone k
    pub before : (j : ℕ) → 1 ≤ j → j < k → (l : ℕ) → SpoiltAt j l → ⊥

  -- 'some test up to the limit finds a spoilt machine and no test before it all done'
  pub record Ruined (N k : ℕ) : Type 0 where
    pub from : 1 ≤ k
    pub up_to : k ≤ N
    pub some : (l : ℕ) × SpoiltAt k l
    pub before : (j : ℕ) → 1 ≤ j → j < k → AllDone j → ⊥

  -- how a solve with the limit N ends
  pub record Ends (N : ℕ) (o : Outcome) : Type 0 where
    -- 'The solve is accepted exactly when ..'
    pub accepted_when : ((k : ℕ) × (o ≡ accepted k)) ↔ ((k : ℕ) × Finished N k)
    -- 'The reported test is then the first such'
    pub reported : (k : ℕ) → o ≡ accepted k → Finished N k × ((j : ℕ) → Finished N j → k ≤ j)
    -- 'The no is at 11 exactly when ..'
    pub at_11_when : ((k : ℕ) × (l : ℕ) × (o ≡ no_at11 k l)) ↔ ((k : ℕ) × Ruined N k)
    -- 'It names the first such test and the lowest spoilt lane.'
    pub named :
        (k l : ℕ)
        → o ≡ no_at11 k l
        → Ruined N k × ((j : ℕ) → Ruined N j → k ≤ j) × SpoiltAt k l × ((i : ℕ) → SpoiltAt k i → l ≤ i)
    -- 'Otherwise the no is at 12.'
    pub otherwise : (((k : ℕ) → Finished N k → ⊥) × ((k : ℕ) → Ruined N k → ⊥)) ↔ (o ≡ no_at12 N)
