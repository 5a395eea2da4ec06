-- A list of the diagonal has nothing to the left of it. Assumes nothing.
use mathlib.Core.Path.{◌≡◌, refl, sym, ap, ap₂}
use mathlib.Core.Bool.{Bool, true, false, true≢false}
use mathlib.Core.List.{List, [], ◌++◌}
use Prim.Native.Nat.{ℕ, zero, suc, ◌<◌}
use native.Mathlib.Omega.{arith}
use lib.Dec.{eqb}
use borrow.Author.Tests.{ne_eqb}
use Rattle.base.specs.Cat.{cat, pick}
use Rattle.lists.specs.Lists.{shape, weight, piece, lplace}
use Rattle.lists.specs.declared.Which.{Which}
use Rattle.lists.specs.declared.Which.TheVariants.{AnormIndptr, AnormIndptrI, AnormIndptrJ, AnormIndices, LdecompIndptr, LdecompIndptrI, LdecompIndptrJ, Lindptr, LdiagIndptr, Lindices}
use Rattle.pair_lists.specs.Kept.{diagonal_only}

pub cat_none : (n : ℕ) (f : ℕ → List ℕ) → ((k : ℕ) → k < n → f k ≡ []) → cat n f ≡ []
unfolding cat
cat_none zero f h = refl
cat_none (suc n) f h = ap₂ ◌++◌ (cat_none n f (λ k l. h k (omega arith))) (h n (omega arith))

module _ (off cols : List ℕ) (i k : ℕ) (less : k < i) where
  apart : eqb k i ≡ false
  apart = ne_eqb k i (λ e. omega arith)

  pub left_silent : (w : Which) → diagonal_only w ≡ true → piece (shape off cols) w i k ≡ []
  unfolding piece
  left_silent AnormIndptr e = absurd (true≢false (sym e))
  left_silent AnormIndptrI e = absurd (true≢false (sym e))
  left_silent AnormIndptrJ e = absurd (true≢false (sym e))
  left_silent AnormIndices e = absurd (true≢false (sym e))
  left_silent LdecompIndptr e = absurd (true≢false (sym e))
  left_silent LdecompIndptrI e = absurd (true≢false (sym e))
  left_silent LdecompIndptrJ e = absurd (true≢false (sym e))
  left_silent Lindptr e = ap (λ (t : Bool). pick t (lplace (shape off cols) (suc i) 0)) apart
  left_silent LdiagIndptr e = ap (λ (t : Bool). pick t (lplace (shape off cols) i i)) apart
  left_silent Lindices e = absurd (true≢false (sym e))

  pub left_weightless : (w : Which) → diagonal_only w ≡ true → weight (shape off cols) w i k ≡ 0
  unfolding weight
  left_weightless AnormIndptr e = absurd (true≢false (sym e))
  left_weightless AnormIndptrI e = absurd (true≢false (sym e))
  left_weightless AnormIndptrJ e = absurd (true≢false (sym e))
  left_weightless AnormIndices e = absurd (true≢false (sym e))
  left_weightless LdecompIndptr e = absurd (true≢false (sym e))
  left_weightless LdecompIndptrI e = absurd (true≢false (sym e))
  left_weightless LdecompIndptrJ e = absurd (true≢false (sym e))
  left_weightless Lindptr e = refl
  left_weightless LdiagIndptr e = refl
  left_weightless Lindices e = absurd (true≢false (sym e))
