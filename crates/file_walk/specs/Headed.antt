-- A record that stands at a place of a file. Definitions only.
use Rattle.std.specs.Prelude.{◌≡◌, List, ℕ, ◌+◌, ◌≤◌, length}
use Rattle.base.specs.Numbers.{cut}
use Rattle.record.specs.Little.{le2, le4}
use Rattle.plan_file.specs.Tables.{wide}
use Rattle.file_walk.specs.declared.walk.Record.{Record}

-- its length, its kind and its body are within the file
pub record Headed (file : List ℕ) (at : ℕ) : Type 0 where
  pub four : at + 4 ≤ length file
  pub six : at + 4 + 2 ≤ length file
  pub kinded : 2 ≤ le4 file at
  pub room : at + 4 + le4 file at ≤ length file

-- what its kind means, its body, and where it ends
pub record RecordAt (file : List ℕ) (at : ℕ) (r : Record) : Type 0 where
  pub meaning : r.meaning ≡ wide (le2 file (at + 4))
  pub body : r.body.now ≡ cut (at + 6) (at + 4 + le4 file at) file
  pub end : r.end ≡ at + 4 + le4 file at
