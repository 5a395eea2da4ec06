use Rattle.std.proofs.Common.{◌+◌, ◌≤◌}
use Rattle.cases.proofs.run_all.Given as goal

abbrev pub invariant-loop : goal.invariant-loop
invariant-loop g l = l.tally.right + l.tally.wrong ≤ l.counter
