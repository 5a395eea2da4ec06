-- When a record's bytes match, and when not. Assumes nothing.
use mathlib.Core.Path.{◌≡◌}
use mathlib.Core.Bool.{true, false}
use mathlib.Core.List.{List}
use Prim.Native.Nat.{ℕ, ◌+◌}
use borrow.Author.Tests.{eq-eqb, ne_eqb}
use lib.Dec.{eqb}
use lib.ListN.{length}
use Rattle.base.proofs.Bools.{and_false}
use Rattle.record.specs.declared.RecordSizes.{RecordSizes}
use Rattle.record.specs.Record.{length_of, kind_of, end_at, within, well_formed, sizes_of}

module _ (s : List ℕ) where
  pub wrong_length : (length s ≡ 4 + length_of s → ⊥) → false ≡ well_formed s
  unfolding well_formed
  wrong_length h = simp (ne_eqb _ _ h)

  pub wrong_kind : (kind_of s ≡ 1 → ⊥) → false ≡ well_formed s
  unfolding well_formed
  wrong_kind h = simp (ne_eqb _ _ h, and_false)

  -- by the sizes that were read
  module _ (z : RecordSizes) (is : z ≡ sizes_of s) where
    pub wrong_sizes : within z.m z.n z.t ≡ false → false ≡ well_formed s
    unfolding well_formed
    wrong_sizes h = let w = rw is at h in simp (w, and_false)

    pub last_test : (e : ℕ) → e ≡ end_at z.m z.n z.t → length s ≡ 4 + length_of s → kind_of s ≡ 1 → within z.m z.n z.t ≡ true → eqb (length s) e ≡ well_formed s
    unfolding well_formed
    last_test e q a b h = let w = rw is at h in let p = rw is at q in rw p (simp (eq-eqb _ _ a, eq-eqb _ _ b, w))
