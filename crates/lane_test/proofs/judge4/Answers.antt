use Rattle.std.proofs.Common.{◌<◌, ◌≢◌, ◌∙◌, length, arith, length-set, get_or-set_other, get_or-set_same, below_more}
use Rattle.lane_test.proofs.judge4.Goals as goal

pub loop-l-preserved : goal.loop-l-preserved
loop-l-preserved c =
    let t = c.tolerances_of-given.ensures in
    let I = c.loop-l.invariant in record {
      four = length-set _ _ _ ∙ I.four;
      judged =
          below_more _ _
          (λ k h. let ne : k ≢ c.loop-l.l = omega arith in rw get_or-set_other (I.judged k h))
          (let lt : c.loop-l.l < length c.loop-l.statuses = omega (arith, I.four) in rw get_or-set_same (rw (c.judge.ensures, t.0, t.1, t.2)));
    }
