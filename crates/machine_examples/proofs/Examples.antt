-- The rows of specs/Examples.antt hold, by computing. Assumes nothing.
use mathlib.Core.Path.{◌≡◌, refl}
use lib.Ieee.{to_bits, of_bits, add, sub, mul, div, neg, lt, of_int, round, is_nan}
use Rattle.machine.specs.Outcome.{solved, field_at}
use Rattle.machine_examples.specs.Examples.{bits_of, Holds, All, rows, paper_accepted, paper_strict, divisors, strict_r, strict_g, layout, spent, empty_done, empty_spent, paper_nan, as_given_lem, chained}

paper_accepted_holds : Holds paper_accepted
unfolding solved field_at to_bits of_bits add sub mul div neg lt of_int round is_nan
paper_accepted_holds = (refl, refl, refl)

paper_strict_holds : Holds paper_strict
unfolding solved field_at to_bits of_bits add sub mul div neg lt of_int round is_nan
paper_strict_holds = (refl, refl, refl)

divisors_holds : Holds divisors
unfolding solved field_at to_bits of_bits add sub mul div neg lt of_int round is_nan
divisors_holds = (refl, refl, refl)

strict_r_holds : Holds strict_r
unfolding solved field_at to_bits of_bits add sub mul div neg lt of_int round is_nan
strict_r_holds = (refl, refl, refl)

strict_g_holds : Holds strict_g
unfolding solved field_at to_bits of_bits add sub mul div neg lt of_int round is_nan
strict_g_holds = (refl, refl, refl)

layout_holds : Holds layout
unfolding solved field_at to_bits of_bits add sub mul div neg lt of_int round is_nan
layout_holds = (refl, refl, refl)

spent_holds : Holds spent
unfolding solved field_at to_bits of_bits add sub mul div neg lt of_int round is_nan
spent_holds = (refl, refl, refl)

empty_done_holds : Holds empty_done
unfolding solved field_at to_bits of_bits add sub mul div neg lt of_int round is_nan
empty_done_holds = (refl, refl, refl)

empty_spent_holds : Holds empty_spent
unfolding solved field_at to_bits of_bits add sub mul div neg lt of_int round is_nan
empty_spent_holds = (refl, refl, refl)

paper_nan_holds : Holds paper_nan
unfolding solved field_at to_bits of_bits add sub mul div neg lt of_int round is_nan
paper_nan_holds = (refl, refl, refl)

as_given_holds : Holds as_given_lem
unfolding solved field_at to_bits of_bits add sub mul div neg lt of_int round is_nan
as_given_holds = (refl, refl, refl)

-- each part by itself: one declaration computes only so much
chained_answer : solved chained.call chained.limit ≡ chained.answer
unfolding solved to_bits of_bits add sub mul div neg lt of_int round is_nan
chained_answer = refl

chained_output : bits_of chained (λ q. q.x) chained.call.problem.n ≡ chained.output
unfolding field_at to_bits of_bits add sub mul div neg lt of_int round is_nan
chained_output = refl

chained_prices : bits_of chained (λ q. q.y) chained.call.problem.m ≡ chained.prices
unfolding field_at to_bits of_bits add sub mul div neg lt of_int round is_nan
chained_prices = refl

chained_holds : Holds chained
chained_holds = (chained_answer, chained_output, chained_prices)

pub examples_hold : All rows
examples_hold = (paper_accepted_holds, (paper_strict_holds, (divisors_holds, (strict_r_holds, (strict_g_holds, (layout_holds, (spent_holds, (empty_done_holds, (empty_spent_holds, (paper_nan_holds, (as_given_holds, (chained_holds, tt))))))))))))
