-- No answer is longer than its stated most. Assumes nothing.
use mathlib.Core.List.{List}
use Prim.Native.Nat.{ℕ, ◌≤◌}
use native.Mathlib.Omega.{arith}
use lib.ListN.{length}
use lib.Ieee.{Float}
use Rattle.csr.specs.Verdict.{Verdict, Told, passed, told, planned, accepted, sized, costs, written, refused}
use Rattle.machine.specs.Demand3.{Buffers}
use Rattle.ipm_simd.specs.Solve.{Given, solve_verdict, solve_buffers}
use Rattle.record.specs.Record.{most_columns}
use Rattle.answer_text.proofs.Lengths.{accepted_length, refused_length}
use Rattle.reading.specs.Answer.{answer_bytes, told_text, verdict_text, solve_text}

told_length : (a : Told) (x : List Float) (n : ℕ) → n ≤ most_columns → length (told_text a x n) ≤ answer_bytes
told_length (accepted k count) x n h = omega (arith, accepted_length k n x, h)
told_length (planned w) x n h = omega arith
told_length (sized e s d w f) x n h = omega arith
told_length (costs e d) x n h = omega arith
told_length (written k) x n h = omega arith

verdict_length : (v : Verdict) (x : List Float) (n : ℕ) → n ≤ most_columns → length (verdict_text v x n) ≤ answer_bytes
verdict_length passed x n h = omega arith
verdict_length (told a) x n h = told_length a x n h
verdict_length (refused q p l) x n h = omega (arith, refused_length q p l)

pub solve_length : (a : Given) (B : Buffers) → a.n ≤ most_columns → length (solve_text a B) ≤ answer_bytes
unfolding solve_text
solve_length a B h = verdict_length (solve_verdict a B) (solve_buffers a B).output a.n h
