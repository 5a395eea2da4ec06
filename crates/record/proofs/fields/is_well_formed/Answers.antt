use native.Mathlib.Omega.{arith}
use mathlib.Core.Path.{sym, ◌∙◌}
use mathlib.Core.Bool.{false≢true}
use borrow.Author.Tests.{eq-eqb, eqb-true}
use Rattle.record.proofs.Headers.{wrong_length, wrong_kind, wrong_sizes, last_test}
use Rattle.record.proofs.fields.is_well_formed.Goals as goal
use Rattle.record.proofs.fields.is_well_formed.Goals.{then-bytes-le32, else-bytes-le32, then-le16-eq-KIND, else-le16-eq-KIND}

pub returns-then-is_within : goal.returns-then-is_within
returns-then-is_within c = elim c.if-le16-eq-KIND.branch [
  | then-le16-eq-KIND w ↦ elim c.if-bytes-le32.branch [
    | then-bytes-le32 v ↦
        last_test _ _ c.requires.is _ c.record_bytes.ensures (omega (arith, v.if-bytes-le32.true, c.le32.ensures.0))
        (sym v.le16.ensures.0 ∙ eqb-true _ _ (sym v.value-is ∙ w.if-le16-eq-KIND.true))
        (sym w.is_within.ensures ∙ sym w.value-is ∙ c.if-is_within.true)
    | else-bytes-le32 v ↦ absurd (v.if-bytes-le32.false (eqb-true _ _ (sym v.value-is ∙ w.if-le16-eq-KIND.true)))
  ]
  | else-le16-eq-KIND w ↦ absurd (false≢true (sym w.if-le16-eq-KIND.false ∙ sym w.value-is ∙ c.if-is_within.true))
]

pub returns-else-is_within : goal.returns-else-is_within
returns-else-is_within c = c.if-is_within.false ∙ elim c.if-le16-eq-KIND.branch [
  | then-le16-eq-KIND w ↦ wrong_sizes _ _ c.requires.is (sym w.is_within.ensures ∙ sym w.value-is ∙ c.if-is_within.false)
  | else-le16-eq-KIND w ↦ elim c.if-bytes-le32.branch [
    | then-bytes-le32 v ↦ wrong_kind _ (λ e. false≢true (sym w.if-le16-eq-KIND.false ∙ v.value-is ∙ eq-eqb _ _ (v.le16.ensures.0 ∙ e)))
    | else-bytes-le32 v ↦ wrong_length _ (λ e. v.if-bytes-le32.false (omega (arith, e, c.le32.ensures.0)))
  ]
]
