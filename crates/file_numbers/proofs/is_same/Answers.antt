-- `file_numbers::is_same` meets its contract. Assumes nothing.
use mathlib.Core.Bool.{not}
use native.Mathlib.Omega.{arith}
use lib.Dec.{eqb}
use lib.ListN.{get_or}
use Rattle.file_numbers.proofs.Agrees.{byte_le, agree_none, differ_more, few_numbers}
use Rattle.file_numbers.proofs.is_same.Goals as goal

pub overflow_add-start : goal.overflow_add-start
overflow_add-start c = omega (arith, c.requires.0, few_numbers c.args.body.now)

pub loop-k-init : goal.loop-k-init
loop-k-init c = record { most = omega arith; says = agree_none _ _ }

pub loop-k-preserved : goal.loop-k-preserved
loop-k-preserved c = record {
  most = omega (arith, c.loop-k.invariant.most, byte_le (not (eqb c.number_at.result (get_or c.args.list.now c.loop-k.k 0))));
  says = rw c.number_at.ensures (differ_more _ _ _ _ _ (omega (arith, c.requires.1)) c.loop-k.invariant.says);
}
