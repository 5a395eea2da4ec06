-- The file that the writing call makes. Definitions only.
use Rattle.std.specs.Prelude.{List, [], ◌++◌, ℕ, zero, suc, ◌+◌, ◌^◌, ◌<◌, ◌≤◌, length}
use Rattle.plan_file.specs.Bytes.{words}
use Rattle.plan_file.specs.Records.{record_of}
use Rattle.plan_file.specs.Tables.{first_note}

-- the kind and the width that list k is written with
pub record Writer : Type 0 where
  pub kind : ℕ → ℕ
  pub width : ℕ → ℕ

-- list k as kind k, its numbers of four bytes
abbrev pub wide_writer : Writer
wide_writer = record { kind = λ k. k; width = λ k. 4 }

-- n records, from list number k on
unfoldable pub written_from : Writer → (ℕ → List ℕ) → ℕ → ℕ → List ℕ
unfolding record_of words
written_from wr lists k zero = []
written_from wr lists k (suc n) =
    record_of (wr.kind k) (words (wr.width k) (lists k)) ++ written_from wr lists (suc k) n

-- 'The writing call adds none': no note
abbrev pub written_file : Writer → (ℕ → List ℕ) → List ℕ
written_file wr lists = written_from wr lists 1 16

-- n records of these bodies, from kind k on
unfoldable pub records_with : (ℕ → List ℕ) → ℕ → ℕ → List ℕ
unfolding record_of
records_with bodies k zero = []
records_with bodies k (suc n) = record_of k (bodies k) ++ records_with bodies (suc k) n

-- 'whatever whole notes a newer writer adds around its records': the records from list number k on, with whole notes anywhere around them
pub data Noted (wr : Writer) (lists : ℕ → List ℕ) : ℕ → List ℕ → Type 0 where
  last : Noted wr lists 17 []
  note : {k : ℕ} {file : List ℕ} (kind : ℕ) (body : List ℕ)
      → first_note ≤ kind → kind < 2 ^ 16 → 2 + length body < 2 ^ 32
      → Noted wr lists k file → Noted wr lists k (record_of kind body ++ file)
  next : {k : ℕ} {file : List ℕ}
      → Noted wr lists (suc k) file → Noted wr lists k (record_of (wr.kind k) (words (wr.width k) (lists k)) ++ file)

-- the words of n lists, from number k on
unfoldable pub words_in : (ℕ → List ℕ) → ℕ → ℕ → ℕ
words_in lists k zero = 0
words_in lists k (suc n) = length (lists k) + words_in lists (suc k) n
