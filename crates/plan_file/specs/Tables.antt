-- What the kinds of a file mean. Definitions only.
use Rattle.std.specs.Prelude.{Bool, cond, ◌&&◌, ℕ, leb}
use Rattle.plan_file.specs.declared.Meaning.{Meaning}
use Rattle.plan_file.specs.declared.Meaning.TheVariants.{Listed, Note, Neither}

-- for each kind: a list's number, 1 to 16, with the bytes of each of its numbers; a note; or neither
abbrev pub Table : Type 0
Table = ℕ → Meaning

-- 'Kinds from 8000 hexadecimal are notes'
abbrev pub first_note : ℕ
first_note = 0x8000

-- 'Kinds 1 to 16 are the lists, in order, each once'
abbrev pub is_list : ℕ → Bool
is_list k = leb 1 k && leb k 16

-- 'body of u32'
abbrev pub wide : Table
wide kind = cond (leb first_note kind) Note (cond (is_list kind) (Listed kind 4) Neither)

-- the bytes of each number; 1 where there are none
abbrev pub width_of : Meaning → ℕ
width_of (Listed k w) = w
width_of Note = 1
width_of Neither = 1
