-- `file_calls::read_accepted` meets its contract. Assumes nothing.
use mathlib.Core.Path.{refl, ap, ◌∙◌}
use Prim.Native.Nat.{ℕ}
use native.Mathlib.Omega.{arith}
use lib.ListN.{length}
use Rattle.csr.specs.Verdict.{told, planned}
use Rattle.lists.proofs.Sizes.{plan_size}
use Rattle.counts.proofs.Plans.{words_fit}
use Rattle.ipm_common.proofs.Final.{room_no, room_yes}
use Rattle.file_calls.proofs.Carried.{counted, file_words, words_after_lem}
use Rattle.file_calls.proofs.read_accepted.Goals as goal

pub words-count-requires : goal.words-count-requires
words-count-requires c = rw c.args.asked.now.counted (words_fit _ _ _ _ 0 c.args.asked.now.matrix.accepted)

pub returns-then-index-count : goal.returns-then-index-count
returns-then-index-count c =
    let w = counted _ _ _ _ c.args.asked.now.counted c.words-count.ensures in
    record { says = room_no _ _ _ _ _ (omega (arith, w)); words = refl }

pub copy_plan-requires : goal.copy_plan-requires
copy_plan-requires c =
    let w = counted _ _ _ _ c.args.asked.now.counted c.words-count.ensures in
    let words = ap length (file_words _ _ _ _ c.args.asked.now.matrix.accepted _ c.requires) in
    omega (arith, w, words, plan_size _ _ _ _ c.args.asked.now.matrix.accepted)

pub returns : goal.returns
returns c =
    let w = counted _ _ _ _ c.args.asked.now.counted c.words-count.ensures in
    record {
      says = ap (λ (k : ℕ). told (planned k)) w ∙ room_yes _ _ _ _ _ (omega (arith, w));
      words = words_after_lem _ _ _ _ c.args.asked.now.matrix.accepted _ _ _ _ c.requires (omega (arith, w)) c.copy_plan.ensures;
    }
