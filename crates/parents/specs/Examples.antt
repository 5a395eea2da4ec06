-- The parents of four matrices: rows under one theorem, `examples_hold` of proofs/Examples.antt. Definitions only.
use Rattle.std.specs.Prelude.{◌≡◌, List, [], ◌∷◌, map, ℕ}
use Rattle.csr.specs.Counts.{is_stored}
use Rattle.csr.specs.Examples.{Matrix, single, star, late, four}
use Rattle.parents.specs.Parent.{parent_of}

-- one more than the parent of each of four rows, or 0
unfoldable pub parents_of : Matrix → List ℕ
unfolding parent_of is_stored
parents_of a = map (λ (k : ℕ). parent_of (is_stored a.offsets a.columns) a.m k) (0 ∷ 1 ∷ 2 ∷ 3 ∷ [])

abbrev pub Hold : Type 0
Hold =
    map parents_of (single ∷ star ∷ late ∷ four ∷ [])
    ≡ (0 ∷ 0 ∷ 0 ∷ 0 ∷ [])
    ∷ (2 ∷ 3 ∷ 0 ∷ 0 ∷ [])
    ∷ (3 ∷ 3 ∷ 0 ∷ 0 ∷ [])
    ∷ (2 ∷ 3 ∷ 4 ∷ 0 ∷ [])
    ∷ []
