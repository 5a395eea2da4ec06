-- An answer as one number, for callers in other languages. Definitions only.
use Rattle.std.specs.Prelude.{◌≡◌, List, ℕ, ◌+◌, ◌*◌, ◌^◌, ◌≤◌, ◌<◌, ltb, Option}
use Rattle.std.specs.Bool.{then_some}
use Rattle.csr.specs.Verdict.{Verdict, Told, passed, told, planned, accepted, sized, costs, written, refused}
use Rattle.machine.specs.declared.Outcome.{Outcome}
use Rattle.machine.specs.Demand3.{Buffers, Demand3}
use Rattle.ipm_simd.specs.Solve.{Given, call, words, room, price_count, planned_has, outcome_verdict, begun, solve_verdict, solve_buffers}

-- length · 2^48 + question · 2^40 + place · 2^8 + lane
abbrev pub in_one : ℕ → ℕ → ℕ → ℕ → ℕ
in_one length question place lane = length * 2 ^ 48 + question * 2 ^ 40 + place * 2 ^ 8 + lane

-- question 0 is a yes, and its place is W, or the bytes of a file, or the test with the number of y's numbers as its length; costliest names no place
abbrev pub packed_told : Told → ℕ
packed_told (planned w) = in_one 0 0 w 0
packed_told (accepted k count) = in_one count 0 k 0
packed_told (sized e s d w f) = in_one 0 0 w 0
packed_told (costs e d) = in_one 0 0 0 0
packed_told (written k) = in_one 0 0 k 0

abbrev pub packed : Verdict → ℕ
packed passed = in_one 0 0 0 0
packed (told a) = packed_told a
packed (refused q p l) = in_one 0 q p l

-- what packing asks of an answer
abbrev SmallTold : Told → Type 0
SmallTold (planned w) = w < 2 ^ 32
SmallTold (accepted k count) = (k < 2 ^ 32) × (count < 2 ^ 16)
SmallTold (sized e s d w f) = w < 2 ^ 32
SmallTold (costs e d) = Unit {0}
SmallTold (written k) = k < 2 ^ 32

abbrev pub Small : Verdict → Type 0
Small passed = Unit {0}
Small (told a) = SmallTold a
Small (refused q p l) = (q ≤ 16) × (p < 2 ^ 32) × (l < 2 ^ 8)

-- the bytes that are lent as a file, by a flag: 0 is no, anything else yes
abbrev pub lent_file : ℕ → List ℕ → Option (List ℕ)
lent_file flag file = then_some (ltb 0 flag) file

-- a solve with its answer in one number: the answer, the lent lists, and demand 3 whole once questions 1 to 10, 13 and, of a file that is lent, 14 to 16 got a yes
pub record SolvedInOne (a : Given) (B B' : Buffers) (r : ℕ) : Type 0 where
  pub answer : r ≡ packed (solve_verdict a B)
  pub buffers : B' ≡ solve_buffers a B
  pub demand3 : begun a B ≡ passed → (o : Outcome) × (r ≡ packed (outcome_verdict (price_count a) o)) × Demand3 (call a) (words a) (room a) (planned_has a) a.limit B B' o
