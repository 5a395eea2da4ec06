-- A block's lanes as a call of their own: what they are fed, and the numbers that they have. Definitions only.
use Rattle.std.specs.Prelude.{List, ℕ, ◌+◌, ◌*◌, Float}
use Rattle.lanes.specs.Lists.{at}
use Rattle.machine.specs.Machine.{Settings}
use Rattle.machine.specs.Outcome.{Call, interleaved}
use Rattle.machine.specs.Demand3.{Memory}
use Rattle.layout.specs.declared.Block.{Block}
use Rattle.layout.specs.declared.Plan.{Plan}
use Rattle.memory.specs.Numbers.{numbers_at}
use Rattle.memory.specs.Planned.{problem_in}

-- the block's lanes of a list of k entries: lane l of an entry is lane first + l of the list's
unfoldable pub lanes_of : Block → ℕ → ℕ → List Float → List Float
unfolding interleaved
lanes_of block width k v = interleaved width k (λ l e. at v (block.total * e + (block.first + l)))

-- the call of a block's lanes; the tolerances are three entries
abbrev pub call_in : Settings → Plan → Block → ℕ → List ℕ → List ℕ → List Float → List Float → List Float → List Float → Call
call_in H p block width off cols vals b c tol =
    record {
      K = width;
      problem = problem_in p off cols vals;
      settings = H;
      b = lanes_of block width p.m b;
      c = lanes_of block width p.n c;
      tolerances = lanes_of block width 3 tol;
    }

-- the lanes' numbers, in the block's working memory
abbrev pub memory_in : Plan → ℕ → List Float → Memory
memory_in p width ws = numbers_at width p.m p.n p.s ws
