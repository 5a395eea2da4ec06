use mathlib.Core.Path.{sym}
use Rattle.io.proofs.Counting.{prefix_len_of_le}
use native.Mathlib.Omega.{arith}
use Rattle.record.specs.Record.{m_of, n_of}
use Rattle.reading.specs.Answer.{given_of, lent_for}
use Rattle.answer_text.proofs.Lengths.{input_length}
use Rattle.reading.proofs.Lengths.{solve_length}
use Rattle.reading.proofs.Headers.{whole, narrow, matched_text, mismatch_text}
use Rattle.base.proofs.Write.{same_text}
use Rattle.reading.proofs.respond.Goals as goal

pub answer-requires : goal.answer-requires
answer-requires c =
    let told = sym c.in-Some.ensures in
    (whole _ _ told, c.requires)

pub returns-in-None : goal.returns-in-None
returns-in-None c =
    let told = sym c.in-None.ensures in
    record {
      wrote = same_text (mismatch_text _ told) c.put_input.ensures;
      prefix_len = prefix_len_of_le _ _ (omega (arith, c.put_input.ensures.next, c.put_input.auto.out, input_length, c.requires));
    }

pub returns-in-Some : goal.returns-in-Some
returns-in-Some c =
    let told = sym c.in-Some.ensures in
    let s = c.args.bytes.now in
    record {
      wrote = same_text (matched_text s _ told) c.answer.ensures;
      prefix_len = prefix_len_of_le _ _ (omega (arith, c.answer.ensures.next, c.answer.auto.out, solve_length (given_of s) (lent_for (m_of s) (n_of s)) (narrow s _ told), c.requires));
    }
