-- `reading::solve_text` meets its contract. Assumes nothing.
use native.Mathlib.Omega.{arith}
use Prim.Native.Nat.{◌*◌}
use Rattle.base.proofs.Write.{same_text}
use Rattle.lanes.proofs.Consts.{tenth_bits, damping_bits_lem}
use Rattle.reading.specs.Parts.{most_prices}
use Rattle.reading.proofs.Answers.{accepted_text_lem, refused_text_lem}
use Rattle.reading.proofs.Parts.{blank_lem, blank_front}
use Rattle.reading.proofs.solve_text.Goals as goal

pub returns-in-Ok : goal.returns-in-Ok
returns-in-Ok c =
    let lent = blank_front (4 * c.args.problem.now.m) most_prices _ (blank_lem most_prices c.filled-prices.ensures) (omega (arith, c.requires.0)) in
    same_text (rw (lent, tenth_bits, damping_bits_lem) at (accepted_text_lem c.solve.ensures _ c.in-Ok.is)) c.put_accepted.ensures

pub returns-in-Err : goal.returns-in-Err
returns-in-Err c =
    let lent = blank_front (4 * c.args.problem.now.m) most_prices _ (blank_lem most_prices c.filled-prices.ensures) (omega (arith, c.requires.0)) in
    same_text (rw (lent, tenth_bits, damping_bits_lem) at (refused_text_lem c.solve.ensures _ _ c.in-Err.is c.from-no.ensures)) c.put_refused.ensures
