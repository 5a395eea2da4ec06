-- The six questions of plan, its answer and what it leaves in the index memory. Definitions only.
use Rattle.std.specs.Prelude.{◌≡◌, List, ◌++◌, ℕ, suc, ◌<◌, ◌≤◌, ◌*◌, leb, length, drop, Result}
use Rattle.base.specs.Sums.{sum}
use Rattle.csr.specs.Verdict.{Verdict, passed, told, planned, refused, ask, and_then, told_by}
use Rattle.csr.specs.Questions.{first_no, max_rows}
use Rattle.csr.specs.Counts.{size_w, Counted}
use Rattle.lists.specs.Lists.{plan_words}
use Rattle.csr.specs.declared.Refusal.{Refusal}
use Rattle.csr.specs.Csr.{max_places}

-- the answer, by document 01's number and values
abbrev pub told_plan : Result ℕ Refusal → Verdict
told_plan r = told_by (λ w. told (planned w)) r

-- question 6: has the index memory at least W words?
unfoldable pub room_verdict : ℕ → ℕ → List ℕ → List ℕ → ℕ → Verdict
unfolding size_w
room_verdict m n offsets columns words = ask (leb (size_w offsets columns m n) words) (told (planned (size_w offsets columns m n))) (refused 6 0 0)

-- questions 1 to 6; plan is lent no values
unfoldable pub plan_verdict : ℕ → ℕ → List ℕ → List ℕ → ℕ → Verdict
unfolding first_no room_verdict
plan_verdict m n offsets columns words = and_then (first_no m n offsets columns (length columns)) (room_verdict m n offsets columns words)

-- a plan takes the place of what was there, a no leaves it
abbrev pub left : Verdict → List ℕ → List ℕ → List ℕ
left passed new old = old
left (told a) new old = new
left (refused q p l) new old = old

-- the index memory after plan: the W words and the old rest, or as before
unfoldable pub plan_index : ℕ → ℕ → List ℕ → List ℕ → List ℕ → List ℕ
unfolding plan_verdict size_w
plan_index m n offsets columns index =
    left (plan_verdict m n offsets columns (length index))
    (plan_words offsets columns m n ++ drop (size_w offsets columns m n) index)
    index

-- memories of such lengths do for a plan of m rows and n columns: where each row of the factor starts and the last ends, its pairs, and a word for each column.
-- None is longer than there are places
pub record Enough (m n starts pairs bins : ℕ) : Type 0 where
  pub rows : (m < starts) × (starts ≤ max_places)
  pub entries : (sum m suc ≤ pairs) × (pairs ≤ max_places)
  pub columns : (m < bins) × (n < bins) × (bins ≤ max_places)

-- E, S and D, and S is not too large to work with
pub record Tallied (offsets columns : List ℕ) (m e s d : ℕ) : Type 0 where
  pub counts : Counted offsets columns m e s d
  pub few : s ≤ max_rows * max_places

-- question 6 is answered, and the index memory is left so
pub record Answered (m n : ℕ) (offsets columns old new : List ℕ) (v : Verdict) : Type 0 where
  pub says : v ≡ room_verdict m n offsets columns (length old)
  pub words : new ≡ left v (plan_words offsets columns m n ++ drop (size_w offsets columns m n) old) old
