use Rattle.plan_laws.specs.Factoring.{normal_step, Summed, NormalIn}
use Rattle.factor_entry.proofs.normal_sum.Given as goal

abbrev pub invariant-loop-p : goal.invariant-loop-p
invariant-loop-p l = record {
  within : NormalIn l.width l.values l.left l.right l.columns l.work l.mem.x l.mem.z l.initial.p l.p-end;
  sum : Summed l.width (normal_step l.width l.values l.left l.right l.columns l.work l.mem.x l.mem.z l.initial.p) l.initial.acc l.initial.p l.p l.acc;
}
