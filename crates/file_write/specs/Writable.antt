-- Lists of these sizes that stand one after the other in an index memory, and room for their records in a file. Definitions only.
use Rattle.std.specs.Prelude.{◌≡◌, List, ◌++◌, ℕ, suc, ◌+◌, ◌*◌, ◌^◌, ◌<◌, ◌≤◌, length, get_or}
use Rattle.base.specs.Cat.{join}
use Rattle.plan_file.specs.Verdicts.{lists_from}

pub record Writable (lists : ℕ → List ℕ) (sizes index : List ℕ) (bytes : ℕ) : Type 0 where
  pub sized : (k : ℕ) → k < 16 → get_or sizes k 0 ≡ length (lists (suc k))
  pub rest : List ℕ
  pub is : index ≡ join (lists_from lists 1 16) ++ rest
  pub room : 4 * length (join (lists_from lists 1 16)) + 96 ≤ bytes
  pub low : (k : ℕ) → k < 16 → 2 + 4 * length (lists (suc k)) < 2 ^ 32
