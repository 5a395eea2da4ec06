-- Records: 'length u32 (bytes after it), kind u16, body'. Definitions only.
use Rattle.std.specs.Prelude.{Bool, cond, ◌&&◌, List, [], ◌∷◌, ◌++◌, ℕ, zero, suc, ◌+◌, ◌-◌, leb, length, take, drop}
use Rattle.plan_file.specs.Bytes.{bytes_of, number}

pub record Entry : Type 0 where
  pub kind : ℕ
  pub body : List ℕ

-- the length and the kind of a record with a body of so many bytes
abbrev pub head_of : ℕ → ℕ → List ℕ
head_of size kind = bytes_of 4 (2 + size) ++ bytes_of 2 kind

-- a record's bytes
unfoldable pub record_of : ℕ → List ℕ → List ℕ
unfolding bytes_of
record_of kind body = head_of (length body) kind ++ body

-- what stands at the start of some bytes: a record's length, kind and body, and what is left after it
abbrev pub length_at : List ℕ → ℕ
length_at s = number (take 4 s)

abbrev pub kind_at : List ℕ → ℕ
kind_at s = number (take 2 (drop 4 s))

abbrev pub body_at : List ℕ → List ℕ
body_at s = take (length_at s - 2) (drop 6 s)

abbrev pub rest_at : List ℕ → List ℕ
rest_at s = drop (length_at s) (drop 4 s)

abbrev pub first_at : List ℕ → Entry
first_at s = record { kind = kind_at s; body = body_at s }

-- the record there is neither cut short nor shorter than its kind
unfoldable pub starts_whole : List ℕ → Bool
unfolding number
starts_whole s = leb 4 (length s) && (leb (length_at s) (length s - 4) && leb 2 (length_at s))

-- the records of some bytes
pub data Cut : Type 0 where
  -- one of them is cut short, or shorter than its kind
  short : Cut
  whole : List Entry → Cut

abbrev pub also : Entry → Cut → Cut
also r short = short
also r (whole rs) = whole (r ∷ rs)

-- at most `fuel` records
unfoldable pub records_up_to : ℕ → List ℕ → Cut
unfolding number starts_whole
records_up_to zero [] = whole []
records_up_to zero (b ∷ s) = short
records_up_to (suc fuel) [] = whole []
records_up_to (suc fuel) (b ∷ s) =
    cond (starts_whole (b ∷ s)) (also (first_at (b ∷ s)) (records_up_to fuel (rest_at (b ∷ s)))) short

-- the records of a file: it has no more than bytes
abbrev pub records_of : List ℕ → Cut
records_of s = records_up_to (length s) s
