-- How many columns of a list are marked. Assumes nothing.
use mathlib.Core.Path.{◌≡◌, refl, sym, ap, ap₂, ◌∙◌}
use mathlib.Core.Bool.{Bool, true, false, cond}
use mathlib.Core.List.{List, [], ◌∷◌}
use Prim.Native.Nat.{ℕ, ◌+◌, ◌<◌}
use native.Mathlib.Omega.{arith}
use lib.Dec.{ltb}
use lib.ListN.{length, get_or}
use borrow.Author.Tests.{lt-ltb, le-ltb}
use Rattle.csr.specs.Pattern.{has, row}
use Rattle.base.specs.Numbers.{Below, Rising}
use Rattle.base.specs.Sums.{one}
use Rattle.csr.specs.Counts.{common}
use Rattle.lists.proofs.Merge.{length_both}
use Rattle.std.specs.List.{count_by}
use Rattle.std.proofs.lemmas.List.Sums.{sum_by-cons}
use Rattle.shared_columns.specs.Marked.{Marked, marked, RowMarked}
use Rattle.shared_columns.proofs.Marks.{both_sym}

-- ---- a marked row
module _ (mark : List ℕ) (lo n : ℕ) (xs : List ℕ) (k : Marked mark lo xs n) where
  marked_has : (v : ℕ) → v < n → marked mark lo v ≡ has xs v
  marked_has v l = go (has xs v) refl
    where
      go : (t : Bool) → has xs v ≡ t → ltb lo (get_or mark v 0) ≡ t
      go true e = lt-ltb lo (get_or mark v 0) (omega (arith, k.into v l e))
      go false e = le-ltb lo (get_or mark v 0) (k.out v l e)

  count_has : (ys : List ℕ) → Below n ys → count_by (marked mark lo) ys ≡ common ys xs
  unfolding common
  count_has [] b = refl
  count_has (y ∷ ys) b =
      sum_by-cons (λ v. cond (marked mark lo v) 1 0) y ys
      ∙ ap₂ (λ (t : Bool) (s : ℕ). cond t 1 0 + s) (marked_has y b.0) (count_has ys b.1)
      ∙ go (has xs y)
    where
      go : (t : Bool) → cond t 1 0 + common ys xs ≡ one t + common ys xs
      go true = refl
      go false = refl

common_sym : (xs ys : List ℕ) → Rising xs → Rising ys → common xs ys ≡ common ys xs
common_sym xs ys u v = sym (length_both xs ys) ∙ ap length (both_sym xs ys u v) ∙ length_both ys xs

-- a marked row and another share as many columns as are marked
pub count_common : {off cols mark : List ℕ} {i j : ℕ} → RowMarked off cols mark i j → count_by (marked mark (get_or off i 0)) (row off cols j) ≡ common (row off cols i) (row off cols j)
count_common {off} {cols} {mark} {i} {j} r =
    count_has mark (get_or off i 0) r.wide (row off cols i) r.marks (row off cols j) (r.grid.within j r.other)
    ∙ common_sym (row off cols j) (row off cols i) (r.grid.csr.rising j r.other) (r.grid.csr.rising i r.inside)
