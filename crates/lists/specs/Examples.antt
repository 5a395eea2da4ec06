-- The marked examples on the sixteen lists: rows under one theorem, `examples_hold` of proofs/Examples.antt. Definitions only.
use Rattle.std.specs.Prelude.{◌≡◌, List, [], ◌∷◌, map, ℕ, length}
use Rattle.lists.specs.Lists.{Shape, shape, list_of, ends_of, columns_of, plan_words}
use Rattle.lists.specs.declared.Side.TheVariants.{Factor, Matrix}
use Rattle.lists.specs.declared.What.TheVariants.{Numbers, Places}
use Rattle.lists.specs.declared.Which.TheVariants.{AnormIndptr, AnormIndptrI, AnormIndptrJ, AnormIndices, LdecompIndptr, LdecompIndptrI, LdecompIndptrJ, Lindptr, LdiagIndptr, Lindices}

pub record Example : Type 0 where
  pub list : List ℕ
  pub says : List ℕ

abbrev row : List ℕ → List ℕ → Example
row l s = record { list = l; says = s }

-- rows {0, 1}, {0}, {1}
abbrev star_off : List ℕ
star_off = 0 ∷ 2 ∷ 3 ∷ 4 ∷ []

abbrev star_cols : List ℕ
star_cols = 0 ∷ 1 ∷ 0 ∷ 1 ∷ []

abbrev star : Shape
star = shape star_off star_cols

-- the plan of one row {0}, n = 1; then the sixteen lists of `star`
unfoldable pub examples : List Example
unfolding list_of ends_of columns_of
examples =
    row (plan_words (0 ∷ 1 ∷ []) (0 ∷ []) 1 1) (0 ∷ 1 ∷ 0 ∷ 0 ∷ 0 ∷ 0 ∷ 0 ∷ 0 ∷ 1 ∷ 0 ∷ 0 ∷ 0 ∷ 1 ∷ 0 ∷ 0 ∷ 0 ∷ 1 ∷ 0 ∷ 0 ∷ []) ∷
    row (list_of star AnormIndptr 3) (0 ∷ 2 ∷ 3 ∷ 4 ∷ 5 ∷ 5 ∷ 6 ∷ []) ∷
    row (list_of star AnormIndptrI 3) (0 ∷ 1 ∷ 2 ∷ 2 ∷ 3 ∷ 3 ∷ []) ∷
    row (list_of star AnormIndptrJ 3) (0 ∷ 1 ∷ 0 ∷ 2 ∷ 1 ∷ 3 ∷ []) ∷
    row (list_of star AnormIndices 3) (0 ∷ 1 ∷ 0 ∷ 0 ∷ 1 ∷ 1 ∷ []) ∷
    row (list_of star LdecompIndptr 3) (0 ∷ 0 ∷ 0 ∷ 1 ∷ 1 ∷ 2 ∷ 4 ∷ []) ∷
    row (list_of star LdecompIndptrI 3) (1 ∷ 3 ∷ 3 ∷ 4 ∷ []) ∷
    row (list_of star LdecompIndptrJ 3) (1 ∷ 1 ∷ 3 ∷ 4 ∷ []) ∷
    row (list_of star Lindptr 3) (0 ∷ 1 ∷ 3 ∷ 6 ∷ []) ∷
    row (list_of star LdiagIndptr 3) (0 ∷ 2 ∷ 5 ∷ []) ∷
    row (list_of star Lindices 3) (0 ∷ 0 ∷ 1 ∷ 0 ∷ 1 ∷ 2 ∷ []) ∷
    row (ends_of star Factor 3 3) (0 ∷ 3 ∷ 5 ∷ 6 ∷ []) ∷
    row (columns_of star Factor Numbers 3 3) (0 ∷ 1 ∷ 2 ∷ 1 ∷ 2 ∷ 2 ∷ []) ∷
    row (columns_of star Factor Places 3 3) (0 ∷ 1 ∷ 3 ∷ 2 ∷ 4 ∷ 5 ∷ []) ∷
    row (ends_of star Matrix 3 2) (0 ∷ 2 ∷ 4 ∷ []) ∷
    row (columns_of star Matrix Numbers 3 2) (0 ∷ 1 ∷ 0 ∷ 2 ∷ []) ∷
    row (columns_of star Matrix Places 3 2) (0 ∷ 2 ∷ 1 ∷ 3 ∷ []) ∷ []

-- each list is what its row says, and the plan of `star` has 80 words
abbrev pub Hold : Type 0
Hold = (map (λ (e : Example). e.list) examples ≡ map (λ (e : Example). e.says) examples) × (length (plan_words star_off star_cols 3 2) ≡ 80)
