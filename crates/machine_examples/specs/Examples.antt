-- Worked examples, as rows: document 01's, and others that tell its rules from near misses. proofs/Examples.antt has the one theorem, `examples_hold`. Definitions only.
use Rattle.std.specs.Prelude.{◌≡◌, false, List, [], ◌∷◌, ◌++◌, map, ℕ, Float, replicate}
use Rattle.std.specs.Float.{nan, binary64}
use Rattle.std.specs.Float.Ieee.{to_bits, of_bits, round}
use Rattle.lanes.specs.Arithmetic.{◌⊘◌, whole, one, null}
use Rattle.machine.specs.Machine.{Problem, Settings, State, as_given, standard}
use Rattle.machine.specs.declared.Outcome.{Outcome}
use Rattle.machine.specs.declared.Outcome.TheVariants.{Accepted as accepted, NoAt11 as no_at11, NoAt12 as no_at12}
use Rattle.machine.specs.Outcome.{Call, solved}
use Rattle.machine.specs.Demand3.{output_after}

-- a call, a limit, the answer, and the bits of x and of y where it is accepted
pub record Row : Type 0 where
  pub call : Call
  pub limit : ℕ
  pub answer : Outcome
  pub output : List ℕ
  pub prices : List ℕ

-- the bits of one of the two outputs: a list of each machine, of `count` entries
abbrev pub bits_of : Row → (State → List Float) → ℕ → List ℕ
bits_of r f count = map (to_bits binary64) (output_after r.call f count r.answer [])

-- the answer to a row's call is the row's, and so are the outputs
abbrev pub Holds : Row → Type 0
Holds r =
    (solved r.call r.limit ≡ r.answer)
    × (bits_of r (λ q. q.x) r.call.problem.n ≡ r.output)
    × (bits_of r (λ q. q.y) r.call.problem.m ≡ r.prices)

abbrev pub All : List Row → Type 0
All [] = Unit {0}
All (r ∷ rs) = Holds r × All rs

-- ---- the calls

abbrev fraction : ℕ → ℕ → Float
fraction a b = round binary64 false a b

abbrev four : Float → List Float
four v = replicate 4 v

abbrev two : Float → List Float
two v = replicate 2 v

abbrev lanes : Float → Float → Float → Float → List Float
lanes p q r s = p ∷ q ∷ r ∷ s ∷ []

-- 1e9 and 1e-8
abbrev large : Float
large = whole 1000000000

abbrev small : Float
small = fraction 1 100000000

-- two lanes' tolerances, large but for lane 1
abbrev last : Float → List Float
last v = large ∷ v ∷ []

-- 1000.0
abbrev thousand : ℕ
thousand = 0x408f400000000000

-- row {0} with value 1 and s 1
abbrev one_row : Problem
one_row = record { m = 1; n = 1; s = 1; off = 0 ∷ 1 ∷ []; cols = 0 ∷ []; vals = one ∷ [] }

-- K lanes of it: b and c, the primal, dual and optimality tolerances
abbrev single_by : Settings → ℕ → List Float → Float → List Float → List Float → List Float → Call
single_by H K b c primal dual gap =
    record { K = K; problem = one_row; settings = H; b = b; c = replicate K c; tolerances = primal ++ (dual ++ gap) }

abbrev single : ℕ → List Float → Float → List Float → List Float → List Float → Call
single = single_by standard

-- rows {0}, {1}, two lanes
abbrev two_rows : Call
two_rows =
    record {
      K = 2;
      problem = record { m = 2; n = 2; s = 2; off = 0 ∷ 1 ∷ 2 ∷ []; cols = 0 ∷ 1 ∷ []; vals = one ∷ one ∷ [] };
      settings = standard;
      b = lanes (whole 2000) null (whole 2000) null;
      c = lanes null (whole 5) null (whole 5);
      tolerances = lanes small large small large ++ two large;
    }

-- no rows, no columns
abbrev empty : Float → Call
empty t =
    record {
      K = 4;
      problem = record { m = 0; n = 0; s = 0; off = 0 ∷ []; cols = []; vals = [] };
      settings = standard;
      b = [];
      c = [];
      tolerances = replicate 12 t;
    }

-- rows {0,1}, {0}, {1}, the last an equality: the factor has (2, 1) by the chain 2-0-1
abbrev star : Call
star =
    record {
      K = 1;
      problem =
          record {
            m = 3;
            n = 2;
            s = 2;
            off = 0 ∷ 2 ∷ 3 ∷ 4 ∷ [];
            cols = 0 ∷ 1 ∷ 0 ∷ 1 ∷ [];
            vals = one ∷ whole 2 ∷ whole 3 ∷ fraction 1 2 ∷ [];
          };
      settings = standard;
      b = one ∷ whole 2 ∷ whole 3 ∷ [];
      c = one ∷ fraction 1 2 ∷ [];
      tolerances = of_bits binary64 0x400765209857e0d7 ∷ of_bits binary64 0x3f9ad6a079075b4a ∷ of_bits binary64 0x4041738e6ea8618d ∷ [];
    }

-- ---- rows that one test decides

-- 'Row {0} with value, b, c all 1, s 1, N 1, tolerances 1e9'
abbrev pub paper_accepted : Row
paper_accepted = record { call = single 4 (four one) one (four large) (four large) (four large); limit = 1; answer = accepted 1; output = replicate 4 thousand; prices = replicate 4 thousand }

-- 'The same with c 0 and dual tolerances 0: refused 12 1 0, since 0 isn't below 0.'
abbrev pub paper_strict : Row
paper_strict = record { call = single 4 (four one) null (four large) (four null) (four large); limit = 1; answer = no_at12 1; output = []; prices = [] }

-- R is 1999/1001 and Q 1/1001; divided by max(‖b‖, 1) and max(‖c‖, 1) they would be 1999 and 1
abbrev pub divisors : Row
divisors = record { call = single 1 (one ∷ []) one (whole 2 ∷ []) (fraction 1 2 ∷ []) (large ∷ []); limit = 1; answer = accepted 1; output = thousand ∷ []; prices = thousand ∷ [] }

-- R is 0 and not below lane 1's tolerance 0; so with G, which is 2000000/2001
abbrev pub strict_r : Row
strict_r = record { call = single 2 (two (whole 2000)) one (last null) (two large) (two large); limit = 1; answer = no_at12 1; output = []; prices = [] }

abbrev pub strict_g : Row
strict_g = record { call = single 2 (two one) one (two large) (two large) (last (whole 2000000 ⊘ whole 2001)); limit = 1; answer = no_at12 1; output = []; prices = [] }

-- lane 0 has b 2000 and c 0, so that R and Q are 0, lane 1 has b 0 and c 5: lane l of entry k is at 2k + l
abbrev pub layout : Row
layout = record { call = two_rows; limit = 1; answer = accepted 1; output = replicate 4 thousand; prices = replicate 4 thousand }

-- lane 0 is done, lane 1 has to step: with the limit 1 there is no test after that step
abbrev pub spent : Row
spent = record { call = single 2 (two one) one (two large) (two large) (last (whole 900)); limit = 1; answer = no_at12 1; output = []; prices = [] }

-- sizes of 0
abbrev pub empty_done : Row
empty_done = record { call = empty one; limit = 2; answer = accepted 1; output = []; prices = [] }

abbrev pub empty_spent : Row
empty_spent = record { call = empty null; limit = 2; answer = no_at12 2; output = []; prices = [] }

-- ---- rows with steps

-- 'The first with b NaN in lane 2 and N 2, tolerances 1e-8: refused 11 2 2.'
abbrev pub paper_nan : Row
paper_nan = record { call = single 4 (lanes one one nan one) one (four small) (four small) (four small); limit = 2; answer = no_at11 2 2; output = []; prices = [] }

-- two steps, the tolerances being the least floats above R, Q and G of test 3
abbrev pub chained : Row
chained = record { call = star; limit = 3; answer = accepted 3; output = 0x40318bbcfab550d0 ∷ 0x403438ca154eeaf8 ∷ []; prices = 0x408df28fcb5b703a ∷ 0x407ace718fb356c2 ∷ 0xc09768737e25f1ae ∷ [] }

-- one step with centring 0.5 and damping 0.9: x is 100.9; with the two exchanged it would be 500.5, with 0.1 and 0.9995 1.4995
abbrev pub as_given_lem : Row
as_given_lem = record { call = single_by (as_given (fraction 1 2) (fraction 9 10)) 1 (one ∷ []) one (large ∷ []) (large ∷ []) (whole 900 ∷ []); limit = 2; answer = accepted 2; output = 0x4059399999999990 ∷ []; prices = 0x4096a80000000000 ∷ [] }

abbrev pub rows : List Row
rows = paper_accepted ∷ paper_strict ∷ divisors ∷ strict_r ∷ strict_g ∷ layout ∷ spent ∷ empty_done ∷ empty_spent ∷ paper_nan ∷ as_given_lem ∷ chained ∷ []
