-- Questions 14, 15 and 16, each asked of the whole file before the next, and the files that get a yes. Definitions only.
use Rattle.std.specs.Prelude.{◌≡◌, Bool, true, false, ◌&&◌, List, [], ◌∷◌, ◌++◌, ℕ, zero, suc, ◌+◌, ◌*◌, ◌^◌, ◌%◌, ◌<◌, ◌≤◌, eqb, length}
use Rattle.base.specs.Numbers.{Below}
use Rattle.csr.specs.Verdict.{Verdict, passed, refused, ask}
use Rattle.plan_file.specs.Bytes.{words, numbers, numbers_in}
use Rattle.plan_file.specs.Records.{Entry, record_of, Cut, short, whole, records_up_to, records_of}
use Rattle.plan_file.specs.declared.Meaning.{Meaning}
use Rattle.plan_file.specs.declared.Meaning.TheVariants.{Listed, Note, Neither}
use Rattle.plan_file.specs.Tables.{Table, first_note}

-- 14: 'a list body isn't whole numbers of its width'; only a list has a width
abbrev pub whole_body : Meaning → ℕ → Bool
whole_body (Listed k w) size = eqb (size % w) 0
whole_body Note size = true
whole_body Neither size = true

unfoldable pub whole_bodies : Table → List Entry → Bool
whole_bodies t [] = true
whole_bodies t (r ∷ rs) = whole_body (t r.kind) (length r.body) && whole_bodies t rs

-- 15: 'a kind is neither the next list nor a note'
abbrev pub is_next : Meaning → ℕ → Bool
is_next (Listed k w) next = eqb k next
is_next Note next = true
is_next Neither next = false

abbrev pub after : Meaning → ℕ → ℕ
after (Listed k w) next = suc next
after Note next = next
after Neither next = next

-- .. 'or a list is missing at the end': the sixteenth is the last
unfoldable pub in_order : Table → ℕ → List Entry → Bool
in_order t next [] = eqb next 17
in_order t next (r ∷ rs) = is_next (t r.kind) next && in_order t (after (t r.kind) next) rs

-- 16: 'a list isn't that matrix's'
unfoldable pub same : List ℕ → List ℕ → Bool
same [] [] = true
same [] (y ∷ ys) = false
same (x ∷ xs) [] = false
same (x ∷ xs) (y ∷ ys) = eqb x y && same xs ys

abbrev pub is_matrixs : (ℕ → List ℕ) → Meaning → List ℕ → Bool
is_matrixs lists (Listed k w) body = same (numbers_in w body) (lists k)
is_matrixs lists Note body = true
is_matrixs lists Neither body = true

unfoldable pub are_matrixs : Table → (ℕ → List ℕ) → List Entry → Bool
unfolding same numbers
are_matrixs t lists [] = true
are_matrixs t lists (r ∷ rs) = is_matrixs lists (t r.kind) r.body && are_matrixs t lists rs

abbrev pub asked : Table → (ℕ → List ℕ) → Cut → Verdict
asked t lists short = refused 14 0 0
asked t lists (whole rs) =
    ask (whole_bodies t rs)
    (ask (in_order t 1 rs)
    (ask (are_matrixs t lists rs)
    passed
    (refused 16 0 0))
    (refused 15 0 0))
    (refused 14 0 0)

-- the first no of questions 14 to 16, for a matrix whose list number k, 1 to 16, is `lists k`
unfoldable pub file_verdict : Table → (ℕ → List ℕ) → List ℕ → Verdict
unfolding records_up_to whole_bodies in_order are_matrixs
file_verdict t lists file = asked t lists (records_of file)

-- question 14 alone
abbrev pub whole_cut : Table → Cut → Bool
whole_cut t short = false
whole_cut t (whole rs) = whole_bodies t rs

unfoldable pub whole_file : Table → List ℕ → Bool
unfolding records_up_to whole_bodies
whole_file t file = whole_cut t (records_of file)

-- question 15 alone, from list number `next` on
abbrev pub ordered_cut : Table → ℕ → Cut → Bool
ordered_cut t next short = false
ordered_cut t next (whole rs) = in_order t next rs

unfoldable pub ordered_file : Table → ℕ → List ℕ → Bool
unfolding records_up_to in_order
ordered_file t next file = ordered_cut t next (records_of file)

-- question 16 alone
abbrev pub matrixs_cut : Table → (ℕ → List ℕ) → Cut → Bool
matrixs_cut t lists short = false
matrixs_cut t lists (whole rs) = are_matrixs t lists rs

unfoldable pub matrixs_file : Table → (ℕ → List ℕ) → List ℕ → Bool
unfolding records_up_to are_matrixs
matrixs_file t lists file = matrixs_cut t lists (records_of file)

-- ---- the files that get a yes

-- from list number `next` on: the matrix's records in order, each under a kind of the table, with whole notes anywhere around them
pub data Around (t : Table) (lists : ℕ → List ℕ) : ℕ → List ℕ → Type 0 where
  ended : Around t lists 17 []
  noted : {next : ℕ} {file : List ℕ} (kind : ℕ) (body : List ℕ)
      → first_note ≤ kind → kind < 2 ^ 16 → 2 + length body < 2 ^ 32
      → Around t lists next file → Around t lists next (record_of kind body ++ file)
  held : {next : ℕ} {file : List ℕ} (kind w : ℕ)
      → t kind ≡ Listed next w
      → Around t lists (suc next) file → Around t lists next (record_of kind (words w (lists next)) ++ file)

-- the whole file: the matrix's sixteen records in order with whole notes around them
abbrev pub Filed : Table → (ℕ → List ℕ) → List ℕ → Type 0
Filed t lists file = Around t lists 1 file

-- ---- what is asked of a table, and of a matrix's lists

pub record Sound (t : Table) : Type 0 where
  -- the notes are the kinds from 8000 hexadecimal
  pub notes : (kind : ℕ) → first_note ≤ kind → t kind ≡ Note
  pub only : (kind : ℕ) → t kind ≡ Note → first_note ≤ kind
  -- a list's kind fits its two bytes, and its numbers have a width
  pub small : (kind k w : ℕ) → t kind ≡ Listed k w → kind < 2 ^ 16
  pub wide : (kind k w : ℕ) → t kind ≡ Listed k w → 0 < w

-- each list fits a record of each width that it may have
pub record Fitting (t : Table) (lists : ℕ → List ℕ) : Type 0 where
  pub size : (kind k w : ℕ) → t kind ≡ Listed k w → 2 + w * length (lists k) < 2 ^ 32
  pub below : (kind k w : ℕ) → t kind ≡ Listed k w → Below (256 ^ w) (lists k)

-- ---- the lists that a file gives

abbrev pub given : Meaning → List ℕ → List (List ℕ) → List (List ℕ)
given (Listed k w) body more = numbers_in w body ∷ more
given Note body more = more
given Neither body more = more

unfoldable pub given_by : Table → List Entry → List (List ℕ)
unfolding numbers
given_by t [] = []
given_by t (r ∷ rs) = given (t r.kind) r.body (given_by t rs)

abbrev pub given_cut : Table → Cut → List (List ℕ)
given_cut t short = []
given_cut t (whole rs) = given_by t rs

unfoldable pub lists_in : Table → List ℕ → List (List ℕ)
unfolding records_up_to given_by
lists_in t file = given_cut t (records_of file)

-- n of the matrix's lists, from number k on
unfoldable pub lists_from : (ℕ → List ℕ) → ℕ → ℕ → List (List ℕ)
lists_from lists k zero = []
lists_from lists k (suc n) = lists k ∷ lists_from lists (suc k) n
