-- Examples that compute. Assumes nothing.
use Rattle.std.specs.Prelude.{◌≡◌, refl, true, false, [], ◌∷◌}
use Rattle.file_numbers.specs.Agree.{numbers_of, agree}

-- four bytes a number, the lowest first
numbers_word : numbers_of (1 ∷ 0 ∷ 2 ∷ 1 ∷ []) ≡ 16908289 ∷ []
unfolding numbers_of
numbers_word = refl

-- from place 1 on
agrees : agree (7 ∷ 8 ∷ 9 ∷ []) 1 (8 ∷ 9 ∷ []) ≡ true
unfolding agree
agrees = refl

differs : agree (7 ∷ 8 ∷ 9 ∷ []) 1 (8 ∷ 8 ∷ []) ≡ false
unfolding agree
differs = refl
