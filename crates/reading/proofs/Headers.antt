-- What a header that matches says, and what is printed for it. Assumes nothing.
use mathlib.Core.Path.{◌≡◌, refl, sym, subst}
use mathlib.Core.Bool.{Bool, true, false, cond}
use mathlib.Core.List.{List}
use Prim.Native.Nat.{ℕ, ◌+◌, ◌≤◌}
use native.Mathlib.Omega.{arith}
use borrow.Author.Tests.{eqb-true, leb-true}
use lib.Dec.{eqb, leb}
use lib.ListN.{length}
use Rattle.record.specs.declared.RecordSizes.{RecordSizes}
use Rattle.std.specs.Prelude.{Some, None}
use Rattle.std.specs.Bool.{then_some}
use Rattle.record.specs.Record.{most_rows, most_columns, most_entries, length_of, kind_of, m_of, n_of, t_of, within, well_formed, sizes_of, header_of}
use Rattle.answer_text.specs.Text.{input_text}
use Rattle.reading.specs.Parts.{Whole}
use Rattle.reading.specs.Answer.{solve_text, given_of, lent_for, answer_text}
use Rattle.base.proofs.Bools.{and_left, and_right}

module _ (s : List ℕ) where
  pub own_whole : well_formed s ≡ true → Whole s (sizes_of s)
  unfolding well_formed
  own_whole w =
      let rest = and_right (eqb (kind_of s) 1) _ (and_right (eqb (length s) (4 + length_of s)) _ w) in
      let sized = and_left (within (m_of s) (n_of s) (t_of s)) _ rest in
      let less = and_right (leb (m_of s) most_rows) _ sized in
      record {
        sizes = refl;
        rows = leb-true (m_of s) most_rows (and_left (leb (m_of s) most_rows) _ sized);
        columns = leb-true (n_of s) most_columns (and_left (leb (n_of s) most_columns) _ less);
        entries = leb-true (t_of s) most_entries (and_right (leb (n_of s) most_columns) _ less);
        ends = eqb-true (length s) _ (and_right (within (m_of s) (n_of s) (t_of s)) _ rest);
      }

  matched : (z : RecordSizes) → header_of s ≡ Some z → (well_formed s ≡ true) × (z ≡ sizes_of s)
  matched z h = go (well_formed s) refl h
    where
      go : (t : Bool) → well_formed s ≡ t → then_some t (sizes_of s) ≡ Some z → (well_formed s ≡ true) × (z ≡ sizes_of s)
      go true e k = (e, cc)
      go false e k = let q : ◌≡◌ {A = ℕ} 0 1 = cc in absurd (omega arith)

  pub whole : (z : RecordSizes) → header_of s ≡ Some z → Whole s z
  whole z h = let k = matched z h in subst (λ (y : RecordSizes). Whole s y) (sym k.1) (own_whole k.0)

  pub narrow : (z : RecordSizes) → header_of s ≡ Some z → n_of s ≤ most_columns
  narrow z h = (own_whole (matched z h).0).columns

  pub matched_text : (z : RecordSizes) → header_of s ≡ Some z → solve_text (given_of s) (lent_for (m_of s) (n_of s)) ≡ answer_text s
  unfolding answer_text
  matched_text z h = rw (matched z h).0

  pub mismatch_text : header_of s ≡ None → input_text ≡ answer_text s
  unfolding answer_text
  mismatch_text h = go (well_formed s) refl h
    where
      go : (t : Bool) → well_formed s ≡ t → then_some t (sizes_of s) ≡ None → input_text ≡ cond (well_formed s) (solve_text (given_of s) (lent_for (m_of s) (n_of s))) input_text
      go true e k = let q : ◌≡◌ {A = ℕ} 0 1 = cc in absurd (omega arith)
      go false e k = rw e
