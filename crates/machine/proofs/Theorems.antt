-- The theorems of specs/Theorems.antt, each under its name in snake case. Assumes nothing.
use mathlib.Core.Path.{◌≡◌, refl, sym, ap, ◌∙◌, subst}
use mathlib.Core.Logic.{◌⊎◌, inl, inr}
use mathlib.Core.Bool.{Bool, true, not}
use Prim.Native.Nat.{ℕ, ◌+◌, ◌-◌}
use native.Mathlib.Decide.{ℕ_discrete}
use native.Mathlib.Omega.{arith}
use lib.Dec.{T}
use Rattle.csr.specs.Pattern.{neighbours}
use Rattle.csr.specs.Chain.{Chain}
use Rattle.csr.proofs.Rule.{stored_diag}
use Rattle.csr.proofs.Chain.{factor_stored}
use Rattle.machine.specs.Machine.{Problem, LaneData, Settings, Status, status, machine, next, yields, in_factor}
use Rattle.machine.specs.Outcome.{Call}
use Rattle.machine.specs.Theorems as theorems
use Rattle.machine.proofs.Floats.{unmoved, unmoved_nan, null_mul_nan}
use Rattle.machine.proofs.Wait.{SoundMachine, left_sound, G-spoilt, rust_next}
use Rattle.machine.proofs.Output.{nan_g}
use Rattle.machine.proofs.Machines.{waits, wait_lost, machine_next, spoilt_on}
use Rattle.machine.proofs.Factor.{factor_is}
use Rattle.machine.proofs.Tests as tests
use Rattle.machine.proofs.Ends as ending
use Rattle.machine.proofs.Demand3 as demand
use Rattle.machine.proofs.Turns as turns

pub zero_step_keeps : theorems.ZeroStepKeeps
zero_step_keeps p dp s f = unmoved p dp s (subst T (sym f) tt)

pub zero_step_spoils : theorems.ZeroStepSpoils
zero_step_spoils p dp f =
    let t : T (not (lib.Ieee.Scale.finite dp)) = subst (λ (b : Bool). T (not b)) (sym f) tt in
    (null_mul_nan dp t, unmoved_nan p dp t)

module _ (A : Problem) (H : Settings) (d : LaneData) where
  pub no_minus_zero : theorems.NoMinusZero A H d
  unfolding machine
  no_minus_zero k q e = subst (SoundMachine A H d) e (left_sound A H d (k - 1))

  pub nan_spoils : theorems.NanSpoils A H d
  nan_spoils q h = (nan_g A H d q h, G-spoilt A H d q (nan_g A H d q h))

  pub rust_steps : theorems.RustSteps A H d
  rust_steps q n s = rust_next A H d q (status A H d q) refl n s

  pub strictly_below : theorems.StrictlyBelow A H d
  strictly_below = tests.strictly_below A H d

  pub divisors_alone : theorems.DivisorsAlone A H d
  divisors_alone = tests.divisors_alone A H d

  pub mu_alone : theorems.MuAlone A H d
  mu_alone = tests.mu_alone A H d

  pub done_stays : theorems.DoneStays A H d
  done_stays k q a f j = waits A H d q k a.from a.reads a.is_done f j

  pub spoilt_stays : theorems.SpoiltStays A H d
  spoilt_stays = spoilt_on A H d

  pub done_lost : theorems.DoneLost A H d
  unfolding yields
  done_lost k q a f j =
      spoilt_on A H d (k + 1) (omega arith)
      (ap (yields A H d)
      (machine_next A H d k a.from ∙ ap (next A H d) a.reads ∙ wait_lost A H d q a.is_done f))
      j

  pub factor_is_stored : theorems.FactorIsStored A H d
  unfolding in_factor
  factor_is_stored i j h = factor_stored A.off A.cols i j h

  pub factor_by_chains : theorems.FactorByChains A H d
  factor_by_chains i j h = (out (ℕ_discrete i j), back (ℕ_discrete i j))
    where
      out : Dec (i ≡ j) → in_factor A i j ≡ true → (i ≡ j) ⊎ Chain (neighbours A.off A.cols) i j
      out (yes z) t = inl z
      out (no z) t = inr ((demand.factor_chain A i j (omega arith)).0 t)

      back : Dec (i ≡ j) → (i ≡ j) ⊎ Chain (neighbours A.off A.cols) i j → in_factor A i j ≡ true
      back (yes z) c = factor_is_stored i j h ∙ stored_diag (neighbours A.off A.cols) i j z
      back (no z) (inl e) = absurd (z e)
      back (no z) (inr c) = (demand.factor_chain A i j (omega arith)).1 c

  pub factor_entries : theorems.FactorEntries A H d
  factor_entries q i j h b f = factor_is A q i j h b f

module _ (K : ℕ) (says : ℕ → ℕ → Status) where
  pub outcome_ends : theorems.OutcomeEnds K says
  outcome_ends = ending.ends K says

  pub ends_once : theorems.EndsOnce K says
  ends_once = ending.ends_once K says

  pub larger_limit : theorems.LargerLimit K says
  larger_limit = ending.larger K says

module _ (C : Call) where
  pub tolerances_in_order : theorems.TolerancesInOrder C
  tolerances_in_order = tests.tolerances_in_order C

  pub lanes_in_order : theorems.LanesInOrder C
  lanes_in_order = tests.lanes_in_order C

  pub every_test : theorems.EveryTest C
  every_test = demand.every_test C

  pub test_by_test : theorems.TestByTest C
  test_by_test = turns.test_by_test C

  pub larger_solve : theorems.LargerSolve C
  larger_solve = demand.two_limits C
