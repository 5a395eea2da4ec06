-- W and F of a plan's sizes. Assumes nothing.
use mathlib.Core.Path.{◌≡◌, refl}
use mathlib.Core.List.{List}
use Prim.Native.Nat.{ℕ, ◌≤◌}
use native.Mathlib.Omega.{arith}
use lib.ListN.{length}
use Rattle.layout.specs.declared.Plan.{Plan}
use Rattle.layout.specs.Layout.{plan_of, numbers_of, top_word}
use Rattle.layout.specs.Lists.{words_at}
use Rattle.csr.specs.Csr.{Accepted}
use Rattle.csr.specs.Counts.{count_e, count_s, count_d, size_w, size_f}
use Rattle.lists.proofs.Few.{few_stored, few_shared, few_products}

module _ (off cols : List ℕ) (m n s : ℕ) where
  -- what `plan_sizes` gives
  abbrev pub planned_sizes : Plan
  planned_sizes = plan_of m n s (length cols) (count_e off cols m) (count_s off cols m) (count_d off cols m)

  pub words_are : words_at planned_sizes ≡ size_w off cols m n
  unfolding size_w
  words_are = omega arith

  pub numbers_are : numbers_of planned_sizes 4 ≡ size_f off cols m n s
  unfolding size_f
  numbers_are = refl

  module _ (ok : Accepted off cols m n) where
    pub words_fit : words_at planned_sizes ≤ top_word
    words_fit =
        omega (arith, ok.csr.few, ok.offsets.few, ok.wide, few_stored off cols m ok.csr, few_shared off cols m ok.csr ok.offsets.few, few_products off cols m ok.csr)
