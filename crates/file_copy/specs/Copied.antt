-- The words that one record gives. Definitions only.
use Rattle.std.specs.Prelude.{◌≡◌, List, [], ℕ}
use Rattle.plan_file.specs.Bytes.{numbers_in}
use Rattle.plan_file.specs.declared.Meaning.{Meaning}
use Rattle.plan_file.specs.declared.Meaning.TheVariants.{Listed, Note, Neither}

-- a list's numbers; nothing of a note
abbrev pub given_words : Meaning → List ℕ → List ℕ
given_words (Listed k w) body = numbers_in w body
given_words Note body = []
given_words Neither body = []

-- a list's numbers have four bytes each
abbrev pub Words : Meaning → Type 0
Words (Listed k w) = w ≡ 4
Words Note = Unit {0}
Words Neither = Unit {0}
