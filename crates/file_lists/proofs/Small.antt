-- What a pair adds to a list is short, and what was just written to the front of a memory. Assumes nothing.
use mathlib.Core.Path.{◌≡◌, refl, ap, ap₂, ◌∙◌}
use mathlib.Core.Bool.{Bool, ◌&&◌}
use mathlib.Core.List.{List}
use Prim.Native.Nat.{ℕ, suc, ◌<◌, ◌≤◌}
use native.Mathlib.Omega.{arith}
use lib.Dec.{eqb}
use lib.ListN.{length, take, drop, length-map}
use lib.Seq.{take_at}
use Rattle.base.specs.Cat.{kept, pick, Wrote}
use Rattle.std.specs.Prelude.{Option}
use Rattle.std.specs.Bool.{then_some}
use Rattle.base.proofs.Sums.{one_le, count_le}
use Rattle.base.proofs.Write.{length_pick}
use Rattle.csr.specs.Pattern.{has, row}
use Rattle.csr.proofs.Has.{common_le}
use Rattle.lists.specs.Lists.{shape, piece, place, lplace, shared, products, weight, before, begins}
use Rattle.lists.specs.declared.Which.{Which}
use Rattle.lists.specs.declared.Which.TheVariants.{AnormIndptr, AnormIndptrI, AnormIndptrJ, AnormIndices, LdecompIndptr, LdecompIndptrI, LdecompIndptrJ, Lindptr, LdiagIndptr, Lindices}
use Rattle.lists.proofs.Merge.{length_both}
use Rattle.lists.proofs.Sizes.{row_ones_lem}
use Rattle.lists.proofs.Whole.{as_written}
use Rattle.transpose.specs.Bins.{Grid, Room}
use Rattle.pair_lists.specs.Kept as rows
use Rattle.pair_lists.proofs.Lists.{kept_short}
use Rattle.file_lists.specs.Sizes.{PieceRoom}

pub pick_le : (t : Bool) (x : ℕ) → length (pick t x) ≤ 1
pick_le t x = omega (arith, length_pick t x, one_le t)

-- a memory with a word for each row and each column has room for what a pair adds
pub piece_room : (off cols : List ℕ) (m n i : ℕ) (made : List ℕ) → Grid off cols m n → i < m → Room m n made → PieceRoom off cols i made
piece_room off cols m n i made g l r = record {
  rows = omega (arith, r.rows);
  columns = omega (arith, r.columns, row_ones_lem n (row off cols i) (g.csr.rising i l) (g.within i l), count_le n (λ e. has (row off cols i) e));
}

-- .. after a write too
pub room_kept : (off cols : List ℕ) (i : ℕ) (a b : List ℕ) → length b ≡ length a → PieceRoom off cols i a → PieceRoom off cols i b
room_kept off cols i a b e r = record { rows = omega (arith, r.rows); columns = omega (arith, r.columns) }

module _ (off cols : List ℕ) (i j : ℕ) (hj : j ≤ i) (made : List ℕ) (room : PieceRoom off cols i made) where
  shared_fits : length (shared (shape off cols) i j) ≤ length made
  unfolding shared
  shared_fits = omega (arith, length_both (row off cols i) (row off cols j), common_le (row off cols i) (row off cols j), room.columns)

  products_fits : length (products (shape off cols) i j) ≤ length made
  unfolding products rows.kept
  products_fits = omega (arith, kept_short (λ k. (shape off cols).held i k && (shape off cols).held j k) j, room.rows)

  pub piece_fits : (w : Which) → length (piece (shape off cols) w i j) ≤ length made
  unfolding piece
  piece_fits AnormIndptr = omega (arith, pick_le ((shape off cols).held i j) (before (weight (shape off cols) AnormIndptr) i (suc j)), room.rows)
  piece_fits AnormIndptrI = omega (arith, length-map (shared (shape off cols) i j) (place (shape off cols) i), shared_fits)
  piece_fits AnormIndptrJ = omega (arith, length-map (shared (shape off cols) i j) (place (shape off cols) j), shared_fits)
  piece_fits AnormIndices = shared_fits
  piece_fits LdecompIndptr = omega (arith, pick_le ((shape off cols).held i j) (before (weight (shape off cols) LdecompIndptr) i (suc j)), room.rows)
  piece_fits LdecompIndptrI = omega (arith, length-map (products (shape off cols) i j) (lplace (shape off cols) i), products_fits)
  piece_fits LdecompIndptrJ = omega (arith, length-map (products (shape off cols) i j) (lplace (shape off cols) j), products_fits)
  piece_fits Lindptr = omega (arith, pick_le (eqb j i) (lplace (shape off cols) (suc i) 0), room.rows)
  piece_fits LdiagIndptr = omega (arith, pick_le (eqb j i) (lplace (shape off cols) i i), room.rows)
  piece_fits Lindices = omega (arith, pick_le ((shape off cols).held i j) j, room.rows)

-- ---- what was just written to the front of a memory

pub front : (a b l : List ℕ) (r : ℕ) → length l ≤ length a → Wrote a b 0 l r → take r b ≡ l
front a b l r h w =
    let e = as_written a b l r h w in
    ap₂ (λ (k : ℕ) (x : List ℕ). take k x) e.1 e.0 ∙ take_at l (drop (length l) a) (length l) refl

-- the 0 that some lists have in front
pub head_front : (w : Which) (a b : List ℕ) (t : Bool) (o : Option ℕ) (r : ℕ) → t ≡ begins w → o ≡ then_some t 0 → 0 < length a → Wrote a b 0 (kept o) r → (r ≡ length (pick (begins w) 0)) × (take r b ≡ pick (begins w) 0)
head_front w a b t o r e f h v =
    let z : kept o ≡ pick (begins w) 0 = ap kept f ∙ ap (λ (x : Bool). pick x 0) e in
    (omega (arith, v.next, ap length z), front a b (kept o) r (omega (arith, ap length z, pick_le (begins w) 0)) v ∙ z)
