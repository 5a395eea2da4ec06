-- What an answer says. Definitions only.
use Rattle.std.specs.Prelude.{Bool, true, false, ℕ, Result, Ok, Err}
use Rattle.csr.specs.declared.Refusal.{Refusal}
use Rattle.csr.specs.declared.Refusal.TheVariants as refusals
use Rattle.csr.specs.declared.Numbered.{Numbered}

-- what a call tells after its yeses
pub data Told : Type 0 where
  -- plan: its W words
  planned : ℕ → Told
  -- solve: the test at which it accepts, and how many numbers y has
  accepted : ℕ → ℕ → Told
  -- sizes: E, S, D, W and F
  sized : ℕ → ℕ → ℕ → ℕ → ℕ → Told
  -- costliest: E and D
  costs : ℕ → ℕ → Told
  -- write_plan: the bytes of the file
  written : ℕ → Told

pub data Verdict : Type 0 where
  -- every question that was asked got a yes
  passed : Verdict
  -- and then this is the answer
  told : Told → Verdict
  -- the question, the place and the lane
  refused : ℕ → ℕ → ℕ → Verdict

-- a yes goes on, a no is the answer
abbrev pub ask : Bool → Verdict → Verdict → Verdict
ask true next other = next
ask false next other = other

-- the questions of a first part, then what follows them
abbrev pub and_then : Verdict → Verdict → Verdict
and_then passed next = next
and_then (told a) next = told a
and_then (refused q p l) next = refused q p l

-- document 01's number of each no, its place and its lane
abbrev pub at : ℕ → ℕ → Numbered
at question place = record { question = question; place = place; lane = 0 }

abbrev pub numbered : Refusal → Numbered
numbered refusals.Rows = at 1 0
numbered refusals.Columns = at 2 0
numbered refusals.Offsets = at 3 0
numbered (refusals.EmptyRow row) = at 4 row
numbered (refusals.ColumnOrder row) = at 5 row
numbered refusals.IndexMemory = at 6 0
numbered refusals.SlackRows = at 7 0
numbered refusals.Lengths = at 8 0
numbered refusals.WorkingMemory = at 9 0
numbered refusals.Limit = at 10 0
numbered (refusals.Spoilt test lane) = record { question = 11; place = test; lane = lane }
numbered (refusals.NotDone limit) = at 12 limit
numbered refusals.Fractions = at 13 0
numbered refusals.CutShort = at 14 0
numbered refusals.OutOfOrder = at 15 0
numbered refusals.OtherLists = at 16 0

abbrev pub refusal : Refusal → Verdict
refusal r = let n = numbered r in refused n.question n.place n.lane

-- a call's answer: what is told after the yeses, or the first no
abbrev pub told_by : {A : Type 0} → (A → Verdict) → Result A Refusal → Verdict
told_by tell (Ok a) = tell a
told_by tell (Err r) = refusal r

-- the answer to questions 1 to 5
abbrev pub told_asked : {A : Type 0} → Result A Refusal → Verdict
told_asked r = told_by (λ a. passed) r
