-- The marked examples on the pattern, the sizes and questions 1 to 5: rows under one theorem, `examples_hold` of proofs/Examples.antt. Definitions only.
use Rattle.std.specs.Prelude.{◌≡◌, Bool, true, false, List, [], ◌∷◌, map, ℕ, length}
use Rattle.csr.specs.Pattern.{neighbours}
use Rattle.csr.specs.Chain.{Chain}
use Rattle.csr.specs.Counts.{is_stored, count_e, count_s, count_d, size_w, size_f}
use Rattle.csr.specs.Verdict.{Verdict, passed, refused}
use Rattle.csr.specs.Questions.{first_no}

pub record Matrix : Type 0 where
  pub m : ℕ
  pub n : ℕ
  pub offsets : List ℕ
  pub columns : List ℕ

-- what is asked of a matrix
pub data Ask : Type 0 where
  E S D W : Ask
  -- F with so many slack rows
  F : ℕ → Ask
  -- is (i, j) stored?
  entry : ℕ → ℕ → Ask
  -- the first no of questions 1 to 5
  first : Ask

pub data Said : Type 0 where
  number : ℕ → Said
  there : Bool → Said
  verdict : Verdict → Said

unfoldable pub answer : Matrix → Ask → Said
unfolding count_e count_s count_d size_w size_f is_stored first_no
answer a E = number (count_e a.offsets a.columns a.m)
answer a S = number (count_s a.offsets a.columns a.m)
answer a D = number (count_d a.offsets a.columns a.m)
answer a W = number (size_w a.offsets a.columns a.m a.n)
answer a (F s) = number (size_f a.offsets a.columns a.m a.n s)
answer a (entry i j) = there (is_stored a.offsets a.columns i j)
answer a first = verdict (first_no a.m a.n a.offsets a.columns (length a.columns))

pub record Example : Type 0 where
  pub of : Matrix
  pub asks : Ask
  pub says : Said

abbrev row : Matrix → Ask → Said → Example
row a q s = record { of = a; asks = q; says = s }

-- one row {0}, n = 1
abbrev pub single : Matrix
single = record { m = 1; n = 1; offsets = 0 ∷ 1 ∷ []; columns = 0 ∷ [] }

-- rows {0, 1}, {0}, {1}
abbrev pub star : Matrix
star = record { m = 3; n = 2; offsets = 0 ∷ 2 ∷ 3 ∷ 4 ∷ []; columns = 0 ∷ 1 ∷ 0 ∷ 1 ∷ [] }

-- rows {0}, {1}, {0, 1}
abbrev pub late : Matrix
late = record { m = 3; n = 2; offsets = 0 ∷ 1 ∷ 2 ∷ 4 ∷ []; columns = 0 ∷ 1 ∷ 0 ∷ 1 ∷ [] }

-- rows {0, 1}, {1, 2}, {0}, {2}
abbrev pub four : Matrix
four = record { m = 4; n = 3; offsets = 0 ∷ 2 ∷ 4 ∷ 5 ∷ 6 ∷ []; columns = 0 ∷ 1 ∷ 1 ∷ 2 ∷ 0 ∷ 2 ∷ [] }

-- rows {}, {0}
abbrev pub gap : Matrix
gap = record { m = 2; n = 1; offsets = 0 ∷ 0 ∷ 1 ∷ []; columns = 0 ∷ [] }

-- row {1, 1}, n = 2
abbrev pub twice : Matrix
twice = record { m = 1; n = 2; offsets = 0 ∷ 2 ∷ []; columns = 1 ∷ 1 ∷ [] }

-- m rows with no lists: a yes at 1 shows as a no at 3
abbrev tall : ℕ → Matrix
tall m = record { m = m; n = 1; offsets = []; columns = [] }

unfoldable pub examples : List Example
unfolding answer
examples =
    row single E (number 1) ∷ row single S (number 1) ∷ row single D (number 0) ∷ row single W (number 19) ∷
    row star E (number 6) ∷ row star (entry 2 1) (there true) ∷ row star (entry 1 0) (there true) ∷ row star (entry 2 0) (there true) ∷
    row star S (number 6) ∷ row star D (number 4) ∷ row star W (number 80) ∷ row star (F 3) (number 124) ∷
    row late E (number 5) ∷ row late (entry 1 0) (there false) ∷ row late D (number 2) ∷ row late W (number 71) ∷
    row four E (number 9) ∷ row four (entry 3 2) (there true) ∷ row four (entry 3 0) (there false) ∷
    row gap first (verdict (refused 4 0 0)) ∷
    row twice first (verdict (refused 5 0 0)) ∷
    row (tall 256) first (verdict (refused 3 0 0)) ∷
    row (tall 257) first (verdict (refused 1 0 0)) ∷
    row star first (verdict passed) ∷ []

-- each example's answer is what it says, and (2, 1) of rows {0, 1}, {0}, {1} has the chain 2-0-1
abbrev pub Hold : Type 0
Hold =
    (map (λ (e : Example). answer e.of e.asks) examples ≡ map (λ (e : Example). e.says) examples)
    × ((chain : Chain (neighbours star.offsets star.columns) 2 1) × (chain.between ≡ 0 ∷ []))
