use Prim.Native.Nat.{ℕ, ◌≤◌, ◌<◌}
use Rattle.pattern.specs.Word.{Done, Clear}
use Rattle.pattern.specs.Links.{first_of, links, Firsts}
use Rattle.pattern.proofs.pattern.Given as goal

abbrev pub invariant-loop-i : goal.invariant-loop-i
invariant-loop-i l = ((a : ℕ) → a < l.i → Done (links l.rows.offsets.now l.rows.columns.now) l.p a) × ((a : ℕ) → l.i ≤ a → a < 256 → Clear l.p a) × Firsts l.first (first_of l.rows.offsets.now l.rows.columns.now l.i)
