-- Bits of words, and a pattern of 256 rows of 256 bits, four words to a row.
-- Assumes nothing.
use Rattle.std.specs.Prelude.{◌≡◌, Bool, false, ◌&&◌, ◌||◌, List, ℕ, suc, ◌+◌, ◌*◌, ◌/◌, ◌%◌, ◌^◌, ◌<◌, eqb, leb, ltb, get_or, bit_and}
use Rattle.csr.specs.Pattern.{stored}
use Rattle.base.specs.Sums.{sum, one}
use Rattle.csr.specs.Questions.{max_rows}

-- four words of 64 bits for each row
abbrev pub pattern_words : ℕ
pattern_words = 1024

-- is digit k of a number set?
unfoldable pub digit : ℕ → ℕ → Bool
digit n k = eqb (n / 2 ^ k % 2) 1

-- bit j of row i
unfoldable pub bit : List ℕ → ℕ → ℕ → Bool
unfolding digit
bit p i j = digit (get_or p (i * 4 + j / 64) 0) (j % 64)

-- p is q with bit j of row i set, and no other bit changed
abbrev pub Put : List ℕ → List ℕ → ℕ → ℕ → Type 0
Put q p i j = (a b : ℕ) → a < max_rows → b < max_rows → bit p a b ≡ (eqb a i && eqb b j) || bit q a b

-- row i of p holds just what `stored` says
abbrev pub Done : (ℕ → ℕ → Bool) → List ℕ → ℕ → Type 0
Done nb p i = (b : ℕ) → b < max_rows → bit p i b ≡ leb b i && stored nb i b

-- the first m rows of p hold just what `stored` says, and the others nothing
abbrev pub Whole : (ℕ → ℕ → Bool) → List ℕ → ℕ → Type 0
Whole nb p m = (i b : ℕ) → i < max_rows → b < max_rows → bit p i b ≡ ltb i m && (leb b i && stored nb i b)

-- row i of p holds the diagonal and the neighbours below it
abbrev pub Seeded : (ℕ → ℕ → Bool) → List ℕ → ℕ → Type 0
Seeded nb p i = (b : ℕ) → b < max_rows → bit p i b ≡ eqb i b || (ltb b i && nb i b)

-- p and q agree but for row i
abbrev pub OtherRows : List ℕ → List ℕ → ℕ → Type 0
OtherRows q p i = (a b : ℕ) → a < max_rows → b < max_rows → (a ≡ i → ⊥) → bit p a b ≡ bit q a b

-- the number of bits set in row i
unfoldable pub row_ones : List ℕ → ℕ → ℕ
unfolding bit sum
row_ones p i = sum max_rows (λ j. one (bit p i j))

-- word w of what rows i and j have in common
abbrev pub common_word : List ℕ → ℕ → ℕ → ℕ → ℕ
common_word p i j w = bit_and (get_or p (i * 4 + w) 0) (get_or p (j * 4 + w) 0)

-- r is word w of what rows i and j have in common
abbrev pub CommonWord : List ℕ → ℕ → ℕ → ℕ → ℕ → Type 0
CommonWord p i j w r = (d : ℕ) → d < 64 → bit p i (w * 64 + d) && bit p j (w * 64 + d) ≡ digit r d

-- row i of p is clear
abbrev pub Clear : List ℕ → ℕ → Type 0
Clear p i = (b : ℕ) → b < max_rows → bit p i b ≡ false

-- p is q with bit f - 1 of row i set, if f is not 0
abbrev pub Linked : List ℕ → List ℕ → ℕ → ℕ → Type 0
Linked q p i f = (a b : ℕ) → a < max_rows → b < max_rows → bit p a b ≡ (eqb a i && eqb f (suc b)) || bit q a b
