-- What goes from the working memory to the two outputs of a solve. Definitions only.
use Rattle.std.specs.Prelude.{◌≡◌, List, ℕ, ◌*◌, ◌≤◌, Float}
use Rattle.lanes.specs.Lists.{at}
use Rattle.layout.specs.declared.Plan.{Plan}
use Rattle.layout.specs.Layout.{l_in, top_word}
use Rattle.machine.specs.Machine.{State}
use Rattle.machine.specs.declared.Outcome.{Outcome}
use Rattle.machine.specs.declared.Outcome.TheVariants.{Accepted as accepted, NoAt11 as no_at11, NoAt12 as no_at12}
use Rattle.machine.specs.Outcome.{interleaved}
use Rattle.machine.specs.Demand3.{Memory}

-- on acceptance the new list, else the old
abbrev pub written : Outcome → List Float → List Float → List Float
written (accepted k) new old = new
written (no_at11 k l) new old = old
written (no_at12 k) new old = old

-- an output of `count` entries that takes the list f of each of K lanes' numbers
abbrev pub output_of : ℕ → (State → List Float) → ℕ → Memory → Outcome → List Float → List Float
output_of K f count M o old = written o (interleaved K count (λ l e. at (f (M l)) e)) old

-- the outputs are as long as stated, and the memory has room for every region before the factor
pub record Lent (p : Plan) (K output prices work : ℕ) : Type 0 where
  pub lanes : 1 ≤ K
  pub few : l_in p ≤ top_word
  pub output_long : output ≡ K * p.n
  pub prices_long : prices ≡ K * p.m
  pub room : K * l_in p ≤ work
