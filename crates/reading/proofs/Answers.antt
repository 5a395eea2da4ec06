-- The text of what a solve answers. Assumes nothing.
use mathlib.Core.Path.{◌≡◌, sym, ap, ap₂, ◌∙◌}
use Rattle.csr.specs.declared.Refusal.{Refusal}
use Rattle.std.specs.Prelude.{Result, Ok, Err}
use Rattle.csr.specs.declared.Numbered.{Numbered}
use Rattle.csr.specs.Verdict.{Verdict, numbered}
use Rattle.machine.specs.Demand3.{Buffers}
use Rattle.ipm_simd.specs.Solve.{Given, told_solve, Solved}
use Rattle.ipm_simd.specs.declared.Solution.{Solution}
use Rattle.answer_text.specs.Text.{accepted_text, refused_text}
use Rattle.reading.specs.Answer.{verdict_text, solve_text}

module _ {a : Given} {B B' : Buffers} {r : Result Solution Refusal} (w : Solved a B B' r) where
  solved_text : verdict_text (told_solve r) B'.output a.n ≡ solve_text a B
  unfolding solve_text
  solved_text = ap₂ (λ (v : Verdict) (b : Buffers). verdict_text v b.output a.n) w.answer w.buffers

  pub accepted_text_lem : (s : Solution) → r ≡ Ok s → accepted_text s.test B'.output a.n ≡ solve_text a B
  accepted_text_lem s e = sym (ap (λ (q : Result Solution Refusal). verdict_text (told_solve q) B'.output a.n) e) ∙ solved_text

  pub refused_text_lem : (u : Refusal) (n : Numbered) → r ≡ Err u → n ≡ numbered u → refused_text n.question n.place n.lane ≡ solve_text a B
  refused_text_lem u n e f =
      rw f (sym (ap (λ (q : Result Solution Refusal). verdict_text (told_solve q) B'.output a.n) e) ∙ solved_text)
