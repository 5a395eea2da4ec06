use Rattle.plan_laws.specs.Factoring.{product_step, Summed, ProductIn}
use Rattle.factor_entry.proofs.less_products.Given as goal

abbrev pub invariant-loop-p : goal.invariant-loop-p
invariant-loop-p l = record {
  within : ProductIn l.width l.left l.right l.work l.lo l.initial.p l.p-end;
  sum : Summed l.width (product_step l.width l.left l.right l.work l.lo l.initial.p) l.initial.acc l.initial.p l.p l.acc;
}
