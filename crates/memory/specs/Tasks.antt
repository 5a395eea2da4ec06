-- What a block of lanes solves, by the definitions over lists. Definitions only.
use Rattle.std.specs.Prelude.{List, ℕ, Float}
use Rattle.machine.specs.Machine.{Problem, LaneData}
use Rattle.memory.specs.Numbers.{Lent}
use Rattle.memory.specs.Planned.{problem_in, data_in}
use Rattle.memory.specs.declared.Task.{Task}

-- its block's lanes are among those of b, c and the tolerances
-- a clause: it ties the task to the width
abbrev pub TaskLent : ℕ → Task → Type 0
TaskLent width t = Lent t.block width t.lists.plan.m t.lists.plan.n t.lists.plan.s t.b.now t.c.now t.tolerances.now

-- its problem, and what each lane is fed, by some tolerances
abbrev pub task_problem : Task → Problem
task_problem t = problem_in t.lists.plan t.rows.off.now t.rows.cols.now t.rows.vals.now

abbrev pub task_data : Task → List Float → ℕ → LaneData
task_data t tol = data_in t.lists.plan t.block t.b.now t.c.now tol
