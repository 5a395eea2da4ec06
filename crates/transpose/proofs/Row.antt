-- The turns of the scatter of a row. Assumes nothing.
use mathlib.Core.Path.{◌≡◌, refl, sym, ap, ◌∙◌, subst}
use mathlib.Core.List.{List}
use Prim.Native.Nat.{ℕ, ◌+◌, ◌-◌, ◌<◌, ◌≤◌}
use native.Mathlib.Omega.{arith}
use lib.ListN.{length, get_or, set}
use lib.Seq.{get_or-set_other}
use Rattle.csr.specs.Pattern.{row}
use Rattle.base.specs.Sums.{sum}
use Rattle.lists.specs.Lists.{shape, entry, by_what, place}
use Rattle.base.specs.Numbers.{find}
use Rattle.lists.specs.declared.What.{What}
use Rattle.lists.specs.declared.What.TheVariants.{Numbers, Places}
use Rattle.lists.specs.declared.Side.TheVariants.{Matrix}
use Rattle.base.proofs.Numbers.{find_at}
use Rattle.transpose.specs.Bins.{Bins, rows_of, room_of, in_row, Outside, Scattering, Scattered}
use Rattle.transpose.proofs.Fill.{turn, in_room, in_start, in_end, bins_ext}
use Rattle.base.proofs.Sums.{sum_room}
use Rattle.csr.specs.Csr.{RowOf}
use Rattle.csr.proofs.RowParts.{row_of, row_long, in_row_lem, entry_at, entry_below}

place_of : (off cols : List ℕ) (i e k q : ℕ) → find e (row off cols i) ≡ q → k ≡ get_or off i 0 + q → k ≡ place (shape off cols) i e
unfolding place
place_of off cols i e k q f g = g ∙ ap (λ (y : ℕ). get_or off i 0 + y) (sym f)

-- row i up to its entry at k stands in its bins, and nothing else has changed
pub record Passing (off cols : List ℕ) (m n : ℕ) (w : What) (i k : ℕ) (old index next : List ℕ) (start : ℕ) : Type 0 where
  pub bins : Bins index next start n (room_of off cols m) (in_row off cols w i (k - get_or off i 0))
  pub outside : Outside old index start (start + sum n (room_of off cols m))

module _ (off cols : List ℕ) (m n : ℕ) (w : What) (i : ℕ) (old first : List ℕ) (start : ℕ) (r : Scattering off cols m n w i old first start) where
  ok : RowOf off cols i n
  ok = row_of off cols m i n r.grid.csr r.inside (r.grid.within i r.inside)

  pub passing_start : (k : ℕ) → k ≡ get_or off i 0 → Passing off cols m n w i k old old first start
  passing_start k e =
      let z : 0 ≡ k - get_or off i 0 = omega arith in record {
        bins =
            subst (λ (y : ℕ). Bins old first start n (room_of off cols m) (in_row off cols w i y)) z
            (bins_ext old first start n (room_of off cols m) (rows_of off cols w i) (in_row off cols w i 0) (λ c h. in_start off cols w i c) r.bins);
        outside = record { low = λ q h. refl; high = λ q h. refl };
      }

  pub passing_end : (k : ℕ) (index next : List ℕ) → get_or off (i + 1) 0 ≤ k → Passing off cols m n w i k old index next start → Scattered off cols m n w (i + 1) old index next start
  passing_end k index next h p = record {
    bins = bins_ext index next start n (room_of off cols m) (in_row off cols w i (k - get_or off i 0)) (rows_of off cols w (i + 1)) (λ c l. in_end off cols w i (k - get_or off i 0) c (omega (arith, row_long off cols i n ok))) p.bins;
    outside = p.outside;
  }

  -- a turn: entry k of the columns is one of row i
  module _ (k e x : ℕ) (lo : get_or off i 0 ≤ k) (hk : k < get_or off (i + 1) 0) (he : e ≡ get_or cols k 0) (hx : x ≡ by_what w i k)
      (index next : List ℕ) (li : length index ≡ length old) (ln : length next ≡ length first) (p : Passing off cols m n w i k old index next start) where
    in_q : k - get_or off i 0 < length (row off cols i)
    in_q = in_row_lem off cols i n ok k e lo hk he

    e_at : e ≡ get_or (row off cols i) (k - get_or off i 0) 0
    e_at = entry_at off cols i n ok k e lo hk he

    e_below : e < n
    e_below = entry_below off cols i n ok k e lo hk he

    pub x_is : x ≡ entry (shape off cols) Matrix w i e
    x_is = hx ∙ go w
      where
        go : (v : What) → by_what v i k ≡ entry (shape off cols) Matrix v i e
        go Numbers = refl
        go Places = place_of off cols i e k (k - get_or off i 0) (ap (λ (y : ℕ). find y (row off cols i)) e_at ∙ find_at (row off cols i) (k - get_or off i 0) ok.rising in_q) (omega arith)

    spot_in : start + get_or next e 0 < start + sum n (room_of off cols m)
    spot_in = omega (arith, p.bins.cursor e e_below, in_room off cols w i (k - get_or off i 0) e x ok.rising in_q e_at x_is m r.inside, sum_room n e (room_of off cols m) e_below)

    pub passing_asks : (e < length next) × (start + get_or next e 0 < length index) × (get_or next e 0 < 262144)
    passing_asks = (omega (arith, e_below, r.long), omega (arith, spot_in, r.room), omega (arith, spot_in, r.few))

    pub passing_turn : (index' next' : List ℕ) → index' ≡ set index (start + get_or next e 0) x → next' ≡ set next e (get_or next e 0 + 1) → Passing off cols m n w i (k + 1) old index' next' start
    passing_turn index' next' ei en =
        let z : k - get_or off i 0 + 1 ≡ k + 1 - get_or off i 0 = omega arith in
        rw (ei, en) (record {
          bins =
              subst (λ (y : ℕ). Bins (set index (start + get_or next e 0) x) (set next e (get_or next e 0 + 1)) start n (room_of off cols m) (in_row off cols w i y)) z
              (turn off cols w i (k - get_or off i 0) e x ok.rising in_q e_at x_is index next start n m r.inside e_below passing_asks.0 (omega (arith, r.room)) p.bins);
          outside = record {
            low = λ y h. get_or-set_other index (start + get_or next e 0) y x 0 (λ q. omega arith) ∙ p.outside.low y h;
            high = λ y h. get_or-set_other index (start + get_or next e 0) y x 0 (λ q. omega (arith, spot_in)) ∙ p.outside.high y h;
          };
        })
