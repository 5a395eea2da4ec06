-- The sixteen lists together. Assumes nothing.
use mathlib.Core.Path.{◌≡◌, refl, sym, ap, ◌∙◌}
use mathlib.Core.List.{List, ◌++◌}
use Prim.Native.Nat.{ℕ, ◌+◌, ◌*◌, ◌<◌, ◌≤◌}
use native.Mathlib.Omega.{arith}
use lib.ListN.{length, drop}
use borrow.Author.Tests.{lt-leb, le-leb}
use Rattle.csr.specs.Counts.{size_w}
use Rattle.csr.specs.Verdict.{Verdict, told, planned, refused}
use Rattle.ipm_common.specs.Plan.{Tallied, room_verdict, left, Answered}
use Rattle.pattern.specs.Word.{bit}
use Rattle.base.specs.Cat.{Wrote}
use Rattle.lists.specs.Lists.{shape, ten_of, side_of, plan_of, plan_words}
use Rattle.lists.proofs.Whole.{plan_parts, three, three_length}
use Rattle.pattern.specs.Ready.{Ready}
use Rattle.lists.specs.declared.Side.TheVariants.{Factor, Matrix}
use Rattle.base.proofs.Write.{wrote_as}
use Rattle.transpose.specs.Bins.{side_in}
use Rattle.pair_lists.specs.Kept.{Rows}
use Rattle.pair_lists.proofs.Factor.{side_same}

module _ (off cols : List ℕ) (m n : ℕ) (p lindptr lindices : List ℕ) (ready : Ready off cols m p) (v : Rows (bit p) lindptr lindices m) where
  pub plan_long : length (plan_of (shape off cols) m n) ≡ length (ten_of (shape off cols) m 10) + length (side_in lindptr lindices m m) + length (side_in off cols m n)
  plan_long =
      ap length (plan_parts (shape off cols) m n)
      ∙ three_length (ten_of (shape off cols) m 10) (side_of (shape off cols) Factor m m) (side_of (shape off cols) Matrix m n)
      ∙ ap (λ (k : ℕ). length (ten_of (shape off cols) m 10) + k + length (side_in off cols m n)) (sym (ap length (side_same off cols m p ready lindptr lindices v)))

  pub plan_wrote : (a b c d : List ℕ) (s t u : ℕ) → Wrote a b 0 (ten_of (shape off cols) m 10) s → Wrote b c s (side_in lindptr lindices m m) t → Wrote c d t (side_in off cols m n) u → Wrote a d 0 (plan_of (shape off cols) m n) u
  plan_wrote a b c d s t u x y z =
      wrote_as a d 0 u _ _ (sym (plan_parts (shape off cols) m n))
      (three a b c d 0 s t u _ _ _ x (wrote_as b c s t _ _ (side_same off cols m p ready lindptr lindices v) y) z)

-- the lists of a side, of rows that are the same
pub side_as : {off off' cols cols' : List ℕ} {m m' n n' : ℕ} → (m ≡ m') × (n ≡ n') × (off ≡ off') × (cols ≡ cols') → side_in off cols m n ≡ side_in off' cols' m' n'
side_as e = rw (e.0, e.1, e.2, e.3) refl

-- W, from E, S and D
pub words_are : (off cols : List ℕ) (m n e s d : ℕ) → Tallied off cols m e s d → 5 * e + 3 * s + 2 * d + 3 * m + n + 2 * length cols + 5 ≡ size_w off cols m n
unfolding size_w
words_are off cols m n e s d t = omega (arith, t.counts.stored, t.counts.shared, t.counts.products)

-- question 6 of a memory that is too short, and of one that is long enough
module _ (m n : ℕ) (off cols index : List ℕ) where
  pub room_no : length index < size_w off cols m n → refused 6 0 0 ≡ room_verdict m n off cols (length index)
  unfolding room_verdict
  room_no h = rw (lt-leb (size_w off cols m n) (length index) h)

  pub room_yes : size_w off cols m n ≤ length index → told (planned (size_w off cols m n)) ≡ room_verdict m n off cols (length index)
  unfolding room_verdict
  room_yes h = rw (le-leb (size_w off cols m n) (length index) h)

-- a memory that is long enough begins with the plan
pub answered_yes : {m n : ℕ} {off cols old new : List ℕ} {v : Verdict} → Answered m n off cols old new v → size_w off cols m n ≤ length old → new ≡ plan_words off cols m n ++ drop (size_w off cols m n) old
answered_yes {m} {n} {off} {cols} {old} a h = a.words ∙ ap (λ (v : Verdict). left v (plan_words off cols m n ++ drop (size_w off cols m n) old) old) (a.says ∙ sym (room_yes m n off cols old h))

-- and gets no no
pub answered_no : {m n : ℕ} {off cols old new : List ℕ} {q p l : ℕ} → Answered m n off cols old new (refused q p l) → size_w off cols m n ≤ length old → ⊥
answered_no {m} {n} {off} {cols} {old} a h =
    let e = a.says ∙ sym (room_yes m n off cols old h) in
    let z : ◌≡◌ {A = ℕ} 0 1 = cc in
    omega arith
