-- `file_calls::write_accepted` meets its contract. Assumes nothing.
use mathlib.Core.Path.{ap, ◌∙◌}
use Prim.Native.Nat.{ℕ, ◌+◌, ◌*◌}
use native.Mathlib.Omega.{arith}
use Rattle.csr.specs.Verdict.{told, written}
use Rattle.counts.proofs.Plans.{words_fit}
use Rattle.ipm_common.proofs.Final.{answered_yes, answered_no}
use Rattle.file_calls.proofs.Carried.{counted, no_words, no_bytes, all_room, writable, file_after}
use Rattle.file_calls.proofs.write_accepted.Goals as goal

pub words-words-requires : goal.words-words-requires
words-words-requires c = rw c.plan_sizes-plan.ensures (words_fit _ _ _ _ 0 c.args.matrix.now.accepted)

pub returns-then-index-words-clause-answer : goal.returns-then-index-words-clause-answer
returns-then-index-words-clause-answer c =
    let w = counted _ _ _ _ c.plan_sizes-plan.ensures c.words-words.ensures in
    no_words _ _ _ _ _ _ (omega (arith, w))

pub returns-then-file-bytes-clause-answer : goal.returns-then-file-bytes-clause-answer
returns-then-file-bytes-clause-answer c =
    let w = counted _ _ _ _ c.plan_sizes-plan.ensures c.words-words.ensures in
    no_bytes _ _ _ _ _ _ (omega (arith, w)) (omega (arith, w, c.file_bytes-bytes.ensures))

pub returns-in_err-plan_accepted-clause-answer : goal.returns-in_err-plan_accepted-clause-answer
returns-in_err-plan_accepted-clause-answer c =
    let w = counted _ _ _ _ c.plan_sizes-plan.ensures c.words-words.ensures in
    absurd (answered_no c.in_err-plan_accepted.ensures (omega (arith, w)))

pub put_file-requires : goal.put_file-requires
put_file-requires c =
    let w = counted _ _ _ _ c.plan_sizes-plan.ensures c.words-words.ensures in
    let plan = answered_yes c.plan_accepted.ensures (omega (arith, w)) in (
      rw c.plan_sizes-plan.ensures (words_fit _ _ _ _ 0 c.args.matrix.now.accepted),
      (_, writable _ _ _ _ c.args.matrix.now.accepted _ c.plan_sizes-plan.ensures plan (omega (arith, w, c.file_bytes-bytes.ensures))),
    )

pub returns-clause-answer : goal.returns-clause-answer
returns-clause-answer c =
    let w = counted _ _ _ _ c.plan_sizes-plan.ensures c.words-words.ensures in
    let count = c.file_bytes-bytes.ensures ∙ ap (λ (k : ℕ). 4 * k + 96) w in
    ap (λ (k : ℕ). told (written k)) count ∙ all_room _ _ _ _ _ _ (omega (arith, w)) (omega (arith, count))

pub returns-clause-bytes : goal.returns-clause-bytes
returns-clause-bytes c =
    let w = counted _ _ _ _ c.plan_sizes-plan.ensures c.words-words.ensures in
    let plan = answered_yes c.plan_accepted.ensures (omega (arith, w)) in
    let count = c.file_bytes-bytes.ensures ∙ ap (λ (k : ℕ). 4 * k + 96) w in
    file_after _ _ _ _ c.args.matrix.now.accepted _ _ _ (omega (arith, count))
    (c.put_file.ensures _ (writable _ _ _ _ c.args.matrix.now.accepted _ c.plan_sizes-plan.ensures plan (omega (arith, count))))
