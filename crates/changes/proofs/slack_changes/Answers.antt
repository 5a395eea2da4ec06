use native.Mathlib.Omega.{arith}
use Rattle.lanes.proofs.Quads.{on}
use Rattle.lanes.proofs.Regions.{kept_room}
use Rattle.kernels.proofs.Laid.{laid_room}
use Rattle.changes.proofs.Turns.{slacks_none, slacks_turn, slacks_end}
use Rattle.changes.proofs.slack_changes.Goals as goal

pub loop-i-init : goal.loop-i-init
loop-i-init c = record { laid = c.requires; done = slacks_none _ _ _ (on c.requires.wide c.zero4-acc.ensures) }

pub loop-i-preserved : goal.loop-i-preserved
loop-i-preserved c =
    let h = c.loop-i-test.true in
    let W = c.requires.wide in
    let done = slacks_turn c.args.width c.args.mem c.args.mu c.requires c.loop-i.invariant.done h c.get-wi.ensures c.get-di.ensures c.get-yi.ensures (on W c.complement_in-v.ensures) (on W c.ratio_in-t.ensures) c.put.ensures in
    record { laid = laid_room c.requires (kept_room done.written.kept); done = done }

pub returns : goal.returns
returns c = slacks_end c.args.width c.args.mem c.args.mu c.requires c.loop-i.invariant.done (omega (arith, c.loop-i-test.false))
