-- `transpose::put_ends` meets its contract. Assumes nothing.
use native.Mathlib.Omega.{arith}
use mathlib.Core.Path.{refl}
use lib.ListN.{length, get_or}
use Rattle.transpose.proofs.Count as law
use Rattle.transpose.proofs.put_ends.Goals as goal

pub loop-e-init : goal.loop-e-init
loop-e-init c = law.ending_start (λ x. get_or c.args.next.now x 0) _ _ _ _ _ (λ x h. refl)

pub put-at-requires-in-loop-e : goal.put-at-requires-in-loop-e
put-at-requires-in-loop-e c =
    law.ending_room _ _ _ _ _ _ _ _ _ _ _ c.loop-e.invariant c.loop-e-test.true c.args.start (length c.loop-e.index) c.put-at.ensures.next (omega (arith, c.requires.4))

pub loop-e-preserved : goal.loop-e-preserved
loop-e-preserved c =
    let few = law.ending_few _ _ _ _ _ _ _ _ _ _ _ c.loop-e.invariant c.loop-e-test.true c.requires.3 in
    rw c.replace-c.ensures.after
    (law.ending_turn _ _ _ _ _ _ _ _ _ _ _ c.loop-e.invariant c.loop-e-test.true _ _ _ (omega (arith, c.requires.0)) (omega (arith, c.requires.1)) c.replace-c.ensures.value (omega (arith, few, c.replace-c.ensures.value)) c.put-at-in-loop-e.ensures)

pub returns : goal.returns
returns c =
    let r = law.ending_end _ _ _ _ _ _ _ _ _ _ _ _ _ (omega arith) (omega (arith, c.requires.1)) c.put-at.ensures c.loop-e.invariant in
    record { ends = r.0; starts = r.1 }
