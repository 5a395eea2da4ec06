-- The meanings that question 16 can ask about. Definitions only.
use Rattle.std.specs.Prelude.{◌≡◌, ◌≤◌}
use Rattle.plan_file.specs.declared.Meaning.{Meaning}
use Rattle.plan_file.specs.declared.Meaning.TheVariants.{Listed, Note, Neither}

-- a list has one of the sixteen numbers, and four bytes a number
abbrev pub Takes : Meaning → Type 0
Takes (Listed k w) = (1 ≤ k) × (k ≤ 16) × (w ≡ 4)
Takes Note = Unit {0}
Takes Neither = Unit {0}
