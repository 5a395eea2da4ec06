use Rattle.std.proofs.Common.{◌≡◌, ℕ, ◌<◌, length, get_or}
use Rattle.machine.specs.declared.Status.TheVariants.{Spoilt}
use Rattle.lane_test.specs.Measures.{judged_lane}
use Rattle.lane_test.proofs.judge4.Given as goal

abbrev pub invariant-loop-l : goal.invariant-loop-l
invariant-loop-l l = record {
  four : length l.statuses ≡ 4;
  judged : (k : ℕ) → k < l.l → get_or l.statuses k Spoilt ≡ judged_lane l.block l.r l.q l.g l.mu l.tol k;
}
