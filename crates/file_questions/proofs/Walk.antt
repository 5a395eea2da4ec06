-- Question 16, record by record, in a file that got a yes at 14. Assumes nothing.
use mathlib.Core.Path.{◌≡◌, refl, sym, ap, ap₂, ◌∙◌}
use mathlib.Core.Bool.{Bool, true, false, cond, ◌&&◌}
use mathlib.Core.List.{List, []}
use Prim.Native.Nat.{ℕ, ◌+◌, ◌<◌, ◌≤◌}
use lib.ListN.{length, drop, drop_of_length-le}
use Rattle.record.specs.Little.{le2, le4}
use Rattle.base.specs.Numbers.{cut}
use Rattle.plan_file.specs.Records.{Entry, kind_at, body_at, rest_at, first_at, starts_whole, Cut, short, whole, also, records_of}
use Rattle.plan_file.specs.declared.Meaning.{Meaning}
use Rattle.plan_file.specs.declared.Meaning.TheVariants.{Listed}
use Rattle.plan_file.specs.Tables.{Table}
use Rattle.plan_file.specs.Verdicts.{same, whole_file, is_matrixs, are_matrixs, matrixs_cut, matrixs_file}
use Rattle.plan_file.proofs.Parse.{records_first}
use Rattle.file_walk.proofs.Walks.{some_left, both_parts, meant, body_there, rest_there, good_there, within_there}
use Rattle.file_numbers.specs.Agree.{numbers_of}

-- ---- one record

pub listed_is : (lists : ℕ → List ℕ) (m : Meaning) (body : List ℕ) (k w : ℕ) (r : Bool) → m ≡ Listed k w → w ≡ 4 → r ≡ same (numbers_of body) (lists k) → r ≡ is_matrixs lists m body
unfolding numbers_of
listed_is lists m body k w r e b h = h ∙ ap (λ (x : ℕ). is_matrixs lists (Listed k x) body) (sym b) ∙ ap (λ (q : Meaning). is_matrixs lists q body) (sym e)

-- ---- the walk

module _ (t : Table) (lists : ℕ → List ℕ) where
  matrixs_also : (r : Entry) (c : Cut) → matrixs_cut t lists (also r c) ≡ is_matrixs lists (t r.kind) r.body && matrixs_cut t lists c
  unfolding are_matrixs
  matrixs_also r short = nowhere (is_matrixs lists (t r.kind) r.body)
    where
      nowhere : (b : Bool) → false ≡ b && false
      nowhere true = refl
      nowhere false = refl
  matrixs_also r (whole rs) = refl

  matrixs_first : (s : List ℕ) → 0 < length s → starts_whole s ≡ true → matrixs_file t lists s ≡ is_matrixs lists (t (kind_at s)) (body_at s) && matrixs_file t lists (rest_at s)
  unfolding matrixs_file
  matrixs_first s h e =
      ap (matrixs_cut t lists) (records_first s h ∙ ap (λ (b : Bool). cond b (also (first_at s) (records_of (rest_at s))) short) e)
      ∙ matrixs_also (first_at s) (records_of (rest_at s))

  matrixs_none : matrixs_file t lists [] ≡ true
  unfolding matrixs_file are_matrixs
  matrixs_none = refl

  -- the walk stands at a record's start, and what is left is as good as the whole
  pub record Asking (file : List ℕ) (at : ℕ) : Type 0 where
    pub within : at ≤ length file
    pub good : whole_file t (drop at file) ≡ true
    pub left : matrixs_file t lists (drop at file) ≡ matrixs_file t lists file

  module _ (file : List ℕ) where
    pub asking_all : (at : ℕ) → length file ≤ at → Asking file at → true ≡ matrixs_file t lists file
    asking_all at h w = sym matrixs_none ∙ sym (ap (matrixs_file t lists) (drop_of_length-le file {i = at} h)) ∙ w.left

    module _ (at : ℕ) (w : Asking file at) (more : at < length file) (m : Meaning) (means : m ≡ t (le2 file (at + 4)))
        (body : List ℕ) (stands : body ≡ cut (at + 6) (at + 4 + le4 file at) file) (b : Bool) (said : b ≡ is_matrixs lists m body) where
      onward : b && matrixs_file t lists (rest_at (drop at file)) ≡ matrixs_file t lists file
      onward =
          ap (λ (x : Bool). x && matrixs_file t lists (rest_at (drop at file)))
          (said ∙ ap₂ (is_matrixs lists) (meant t file at w.good more (le2 file (at + 4)) refl m means) (stands ∙ body_there t file at w.good more (le4 file at) refl))
          ∙ sym (matrixs_first (drop at file) (some_left t file at w.good more) (both_parts t file at w.good more).0) ∙ w.left

      pub asking_no : b ≡ false → false ≡ matrixs_file t lists file
      asking_no e = sym (ap (λ (x : Bool). x && matrixs_file t lists (rest_at (drop at file))) e) ∙ onward

      pub asking_on : b ≡ true → (end : ℕ) → end ≡ at + 4 + le4 file at → Asking file end
      asking_on e end q = rw q (record {
        within = within_there t file at w.good more (le4 file at) refl;
        good = good_there t file at w.good more (le4 file at) refl;
        left =
            ap (matrixs_file t lists) (sym (rest_there t file at w.good more (le4 file at) refl))
            ∙ sym (ap (λ (x : Bool). x && matrixs_file t lists (rest_at (drop at file))) e) ∙ onward;
      })
