-- The results that calls write through pointers: what each holds after the call. Definitions only.
use Rattle.std.specs.Prelude.{ℕ}
use Rattle.csr.specs.Verdict.{Verdict, Told, passed, told, planned, accepted, sized, costs, written, refused}

-- what the five results of sizes hold
pub record Results : Type 0 where
  pub e : ℕ
  pub s : ℕ
  pub d : ℕ
  pub w : ℕ
  pub f : ℕ

abbrev pub results : ℕ → ℕ → ℕ → ℕ → ℕ → Results
results e s d w f = record { e = e; s = s; d = d; w = w; f = f }

-- E, S, D, W and F after a yes; a no leaves what was there
abbrev pub results_told : Told → Results → Results
results_told (sized e s d w f) old = results e s d w f
results_told (planned w) old = old
results_told (accepted k count) old = old
results_told (costs e d) old = old
results_told (written k) old = old

abbrev pub results_left : Verdict → Results → Results
results_left (told a) old = results_told a old
results_left passed old = old
results_left (refused q p l) old = old

-- what the two results of costliest hold
pub record Costs : Type 0 where
  pub e : ℕ
  pub d : ℕ

abbrev pub costs_of : ℕ → ℕ → Costs
costs_of e d = record { e = e; d = d }

-- E and D after a yes; a no leaves what was there
abbrev pub costs_told : Told → Costs → Costs
costs_told (costs e d) old = costs_of e d
costs_told (planned w) old = old
costs_told (accepted k count) old = old
costs_told (sized e s d w f) old = old
costs_told (written k) old = old

abbrev pub costs_left : Verdict → Costs → Costs
costs_left (told a) old = costs_told a old
costs_left passed old = old
costs_left (refused q p l) old = old
