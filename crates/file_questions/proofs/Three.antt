-- The verdict of questions 14 to 16 from the three answers. Assumes nothing.
use mathlib.Core.Path.{◌≡◌, refl, sym, ap, ◌∙◌, subst}
use mathlib.Core.Bool.{Bool, true, false}
use mathlib.Core.List.{List}
use Prim.Native.Nat.{ℕ}
use native.Mathlib.Omega.{arith}
use Rattle.std.specs.Prelude.{Option, Some, None, MatchOption}
use Rattle.file_walk.specs.declared.walk.WholeFile.{WholeFile}
use Rattle.csr.specs.Verdict.{Verdict, passed, told, refused, ask, and_then}
use Rattle.plan_file.specs.Tables.{Table, wide}
use Rattle.plan_file.specs.Verdicts.{whole_file, ordered_file, matrixs_file, file_verdict}
use Rattle.plan_file.proofs.Files.{one_by_one}
use lib.ListN.{length}
use Rattle.csr.specs.Csr.{Accepted}
use Rattle.csr.specs.Counts.{count_e, count_s, count_d}
use Rattle.layout.specs.declared.Plan.{Plan}
use Rattle.layout.specs.Layout.{plan_of}
use Rattle.file_questions.specs.Sized.{Sized}

-- ---- two parts of a verdict

-- a second part that passes adds nothing
pub then_passed : (v : Verdict) → and_then v passed ≡ v
then_passed passed = refl
then_passed (told a) = refl
then_passed (refused q p l) = refl

-- a pass of two parts is a pass of each
pub passes : (v w : Verdict) → and_then v w ≡ passed → (v ≡ passed) × (w ≡ passed)
passes passed w e = (refl, e)
passes (told a) w e = let z : ◌≡◌ {A = ℕ} 0 1 = cc in absurd (omega arith)
passes (refused q p l) w e = let z : ◌≡◌ {A = ℕ} 0 1 = cc in absurd (omega arith)

-- ---- the sizes of a matrix, as they are counted
pub sized_of : {off cols : List ℕ} {m n s : ℕ} {p : Plan} → Accepted off cols m n → p ≡ plan_of m n s (length cols) (count_e off cols m) (count_s off cols m) (count_d off cols m) → Sized off cols p
sized_of ok e = rw e (record { accepted = ok; counts = record { stored = refl; shared = refl; products = refl }; entries = refl })

-- ---- a file's answer at 14
module _ (file : List ℕ) (o : Option WholeFile) (says : MatchOption o (whole_file wide file ≡ false) (λ w. (whole_file wide file ≡ true) × (w.bytes.now ≡ file))) where
  pub cut_short : o ≡ None → whole_file wide file ≡ false
  cut_short e = subst (λ (x : Option WholeFile). MatchOption x (whole_file wide file ≡ false) (λ w. (whole_file wide file ≡ true) × (w.bytes.now ≡ file))) e says

  pub is_whole : (w : WholeFile) → o ≡ Some w → (whole_file wide file ≡ true) × (w.bytes.now ≡ file)
  is_whole w e = subst (λ (x : Option WholeFile). MatchOption x (whole_file wide file ≡ false) (λ v. (whole_file wide file ≡ true) × (v.bytes.now ≡ file))) e says

-- ---- the three answers
module _ (t : Table) (lists : ℕ → List ℕ) (file : List ℕ) where
  pub says_14 : whole_file t file ≡ false → refused 14 0 0 ≡ file_verdict t lists file
  says_14 a = sym (one_by_one t lists file ∙ ap (λ (b : Bool). ask b (ask (ordered_file t 1 file) (ask (matrixs_file t lists file) passed (refused 16 0 0)) (refused 15 0 0)) (refused 14 0 0)) a)

  module _ (a : whole_file t file ≡ true) where
    after_14 : file_verdict t lists file ≡ ask (ordered_file t 1 file) (ask (matrixs_file t lists file) passed (refused 16 0 0)) (refused 15 0 0)
    after_14 = one_by_one t lists file ∙ ap (λ (b : Bool). ask b (ask (ordered_file t 1 file) (ask (matrixs_file t lists file) passed (refused 16 0 0)) (refused 15 0 0)) (refused 14 0 0)) a

    pub says_15 : ordered_file t 1 file ≡ false → refused 15 0 0 ≡ file_verdict t lists file
    says_15 o = sym (after_14 ∙ ap (λ (b : Bool). ask b (ask (matrixs_file t lists file) passed (refused 16 0 0)) (refused 15 0 0)) o)

    module _ (o : ordered_file t 1 file ≡ true) where
      pub says_16 : (b : Bool) → matrixs_file t lists file ≡ b → ask b passed (refused 16 0 0) ≡ file_verdict t lists file
      says_16 b e =
          sym (after_14 ∙ ap (λ (x : Bool). ask x (ask (matrixs_file t lists file) passed (refused 16 0 0)) (refused 15 0 0)) o
          ∙ ap (λ (x : Bool). ask x passed (refused 16 0 0)) e)
