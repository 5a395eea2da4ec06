-- What an accepted output holds. It has no NaN, so that 'bit for bit' says all. Assumes nothing.
use mathlib.Core.Path.{◌≡◌, refl, sym, ap, ◌∙◌}
use mathlib.Core.Logic.{◌≢◌}
use mathlib.Core.List.{List}
use Prim.Native.Nat.{ℕ, ◌+◌, ◌*◌, ◌<◌}
use lib.Ieee.{Float, nan}
use Rattle.lanes.specs.Lists.{at}
use Rattle.machine.specs.Machine.{Problem, LaneData, Settings, State, Machine, live, lost, done, yields, G}
use Rattle.machine.specs.Outcome.{Outcome, accepted, no_at11, no_at12, Call, lane_data, lane_machine, lane_status, solved, field_of, field_at}
use Rattle.machine.specs.Demand3.{output_after, Output}
use Rattle.machine.specs.Theorems.{HasNan, in_x, in_z, in_y, in_w}
use Rattle.machine.proofs.Ends.{both, ends}
use Rattle.machine.proofs.Lanes.{interleaved_at}
use Rattle.machine.proofs.Wait.{nan_x, nan_z, nan_y, nan_w, G-spoilt}

-- a NaN among x, z, y, w makes G a NaN
pub nan_g : (A : Problem) (H : Settings) (d : LaneData) (q : State) → HasNan A q → G A H d q ≡ nan
nan_g A H d q (in_x e h z) = nan_x A H d q e h z
nan_g A H d q (in_z e h z) = nan_z A H d q e h z
nan_g A H d q (in_y i h z) = nan_y A H d q i h z
nan_g A H d q (in_w i h z) = nan_w A H d q i h z

-- an output of one of the lists x, z, y, w of each machine: a NaN in it is among the machine's numbers
module _ (C : Call) (f : State → List Float) (count : ℕ) (among : (q : State) (e : ℕ) → e < count → at (f q) e ≡ nan → HasNan C.problem q) where
  no_nan : (l k e : ℕ) → e < count → lane_status C l k ≡ done → field_of f (lane_machine C l k) e ≡ nan → ⊥
  unfolding lane_status
  no_nan l k e h t x = go (lane_machine C l k) t x
    where
      go : (M : Machine) → yields C.problem C.settings (lane_data C l) M ≡ done → field_of f M e ≡ nan → ⊥
      go lost p z = both _ p (unfold yields in refl)
      go (live q) p z = both _ p (unfold yields in G-spoilt C.problem C.settings (lane_data C l) q (nan_g C.problem C.settings (lane_data C l) q (among q e h z)))

  field_at_lem : (k l e : ℕ) → l < C.K → e < count → at (field_at C f count k) (C.K * e + l) ≡ field_of f (lane_machine C l k) e
  unfolding field_at
  field_at_lem k l e h b = interleaved_at C.K count (λ j i. field_of f (lane_machine C j k) i) l e h b

  not_accepted : (o : Outcome) (v : List Float) → ((k : ℕ) → o ≢ accepted k) → output_after C f count o v ≡ v
  not_accepted (accepted k) v n = absurd (n k refl)
  not_accepted (no_at11 k l) v n = refl
  not_accepted (no_at12 k) v n = refl

  -- it is as the outcome says
  pub output_of : (N : ℕ) (o : Outcome) (old new : List Float) → o ≡ solved C N → new ≡ output_after C f count (solved C N) old → Output C f count o old new
  unfolding solved
  output_of N o old new e w =
      record {
        holds = there;
        bits = λ k l i a h b z. no_nan l k i b (((ends C.K (lane_status C) N).reported k (sym e ∙ a)).0.all l h) (sym (there k l i a h b) ∙ z);
        kept = λ n. w ∙ not_accepted (solved C N) old (λ k a. n k (e ∙ a));
      }
    where
      there : (k l i : ℕ) → o ≡ accepted k → l < C.K → i < count → at new (C.K * i + l) ≡ field_of f (lane_machine C l k) i
      there k l i a h b = ap (λ (v : List Float). at v (C.K * i + l)) (w ∙ ap (λ (z : Outcome). output_after C f count z old) (sym e ∙ a)) ∙ field_at_lem k l i h b
