-- The numbers of a body, compared with a list from a place on. Definitions only.
use Rattle.std.specs.Prelude.{Bool, true, ◌&&◌, List, [], ◌∷◌, ℕ, suc, eqb, get_or}
use Rattle.plan_file.specs.Bytes.{numbers, numbers_in}

-- the numbers of a body, of four bytes each
unfoldable pub numbers_of : List ℕ → List ℕ
unfolding numbers
numbers_of body = numbers_in 4 body

-- from place `at` on stand the numbers of a list
unfoldable pub agree : List ℕ → ℕ → List ℕ → Bool
agree s at [] = true
agree s at (x ∷ xs) = eqb (get_or s at 0) x && agree s (suc at) xs
