-- What the memories of the counting hold while row i is met along parents. Definitions only.
use Rattle.std.specs.Prelude.{◌≡◌, ◌⊎◌, Bool, true, cond, List, ℕ, suc, ◌+◌, ◌*◌, ◌≤◌, ◌<◌, eqb, length, get_or}
use Rattle.base.specs.Sums.{sum, one}
use Rattle.csr.specs.Questions.{max_rows}
use Rattle.csr.specs.Csr.{max_places}
use Rattle.pattern.specs.Links.{or_else}
use Rattle.parents.specs.Parent.{later_entry, parent_of}

-- the entries of column k below the diagonal in the rows below i
unfoldable pub entries_in : (ℕ → ℕ → Bool) → ℕ → ℕ → ℕ
unfolding sum
entries_in st i k = sum i (λ r. one (later_entry st k r))

-- row k is marked as met by row i
abbrev pub met : List ℕ → ℕ → ℕ → Bool
met mark i k = eqb (get_or mark k 0) (i + 1)

-- entry k of a memory gets a value if it had none, and no other entry changes
abbrev pub Adopts : List ℕ → List ℕ → ℕ → ℕ → Type 0
Adopts old new k v = (x : ℕ) → get_or new x 0 ≡ cond (eqb x k) (or_else (get_or old k 0) v) (get_or old x 0)

-- row i of the pattern st is being met along parents, from the counts E and D on: the rows met are marked, and the climb stands at row `at`
pub record Turn (st : ℕ → ℕ → Bool) (i at : ℕ) (mark parent column : List ℕ) (E D e d : ℕ) : Type 0 where
  pub few : i < max_rows
  pub room : i < length mark
  pub parents : length parent ≡ length mark
  pub columns : length column ≡ length mark
  pub small_e : E ≤ max_places
  pub small_d : D ≤ max_rows * max_places
  pub joins : (j k : ℕ) → j < i → k < j → st i k ≡ true → st j k ≡ true → st i j ≡ true
  pub up_to : at ≤ i
  pub here : at < i → st i at ≡ true
  pub old : (k : ℕ) → get_or mark k 0 ≤ i + 1
  pub sound : (k : ℕ) → met mark i k ≡ true → (k < i) × (st i k ≡ true)
  pub closed : (k p : ℕ) → met mark i k ≡ true → parent_of st i k ≡ suc p → (met mark i p ≡ true) ⊎ (p ≡ at)
  pub parent_at : (k : ℕ) → k < length mark → get_or parent k 0 ≡ or_else (parent_of st i k) (cond (met mark i k) (suc i) 0)
  pub column_at : (k : ℕ) → k < length mark → get_or column k 0 ≡ entries_in st i k + one (met mark i k)
  pub entries : e ≡ E + sum i (λ k. one (met mark i k))
  pub products : d ≡ D + sum i (λ k. cond (met mark i k) (entries_in st i k + 1) 0)

-- some row of some pattern is being met
pub record Climbing (i at : ℕ) (mark parent column : List ℕ) (e d : ℕ) : Type 0 where
  pub st : ℕ → ℕ → Bool
  pub E : ℕ
  pub D : ℕ
  pub turn : Turn st i at mark parent column E D e d

-- the climb from row `at` has come to row `to`
pub record Climbed (i at to : ℕ) (mark parent column mark' parent' column' : List ℕ) (e d e' d' : ℕ) : Type 0 where
  pub size : length mark' ≡ length mark
  pub turns : (st : ℕ → ℕ → Bool) (E D : ℕ) → Turn st i at mark parent column E D e d → Turn st i to mark' parent' column' E D e' d'
  pub keeps : (x : ℕ) → met mark i x ≡ true → met mark' i x ≡ true
  pub reaches : at < i → (met mark' i at ≡ true) ⊎ (at ≡ to)
