-- One list by its number. Assumes nothing.
use mathlib.Core.Path.{◌≡◌, refl, ap, ◌∙◌}
use mathlib.Core.Bool.{Bool, true, false}
use mathlib.Core.List.{List}
use Prim.Native.Nat.{ℕ, suc, ◌-◌, ◌<◌, ◌≤◌}
use native.Mathlib.Omega.{arith}
use lib.ListN.{length, get_or}
use Rattle.pattern.specs.Word.{bit}
use Rattle.lists.specs.Lists.{shape}
use Rattle.pattern.specs.Ready.{Ready}
use Rattle.lists.specs.declared.Side.TheVariants.{Factor, Matrix}
use Rattle.lists.proofs.Few.{few_stored, few_shared, few_products}
use Rattle.layout.specs.declared.Plan.{Plan}
use Rattle.layout.specs.Layout.{top_word}
use Rattle.layout.specs.Lists.{sizes_of, words_at}
use Rattle.transpose.specs.Bins.{Room, cols_of}
use Rattle.transpose.specs.declared.SparseRows.{SparseRows}
use Rattle.lists.specs.declared.Side.{Side}
use Rattle.transpose.proofs.Count.{cols_are}
use Rattle.pair_lists.specs.Kept.{Rows}
use Rattle.pair_lists.proofs.Factor.{ends_same, columns_same}
use Rattle.plan_file.specs.Verdicts.{same}
use Rattle.plan_file.specs.Matrix.{matrix_lists}
use Rattle.plan_file.proofs.Yes.{same_out}
use Rattle.plan_file.proofs.Plans.{sizes_are}
use Rattle.file_lists.specs.Known.{Known}
use Rattle.file_lists.specs.Sizes.{side_list, of_kind}
use Rattle.file_lists.specs.declared.Part.{Part}
use Rattle.file_lists.specs.declared.Part.TheVariants.{Ends, Entries}
use Rattle.file_lists.specs.declared.Kind.TheVariants.{Columns}

pub not_long : (s l : List ℕ) → (length s ≡ length l → ⊥) → false ≡ same s l
not_long s l n = go (same s l) refl
  where
    go : (b : Bool) → same s l ≡ b → false ≡ b
    go false e = refl
    go true e = absurd (n (ap length (same_out s l e)))

-- ---- the three lists of a transpose

matrix_side : (off cols : List ℕ) (m n : ℕ) (part : Part) → side_list off cols m n part ≡ of_kind (shape off cols) m n (Columns Matrix part)
matrix_side off cols m n Ends = refl
matrix_side off cols m n (Entries w) = cols_are off cols m n w

factor_side : (off cols : List ℕ) (m n : ℕ) (p : List ℕ) → Ready off cols m p → (lindptr lindices : List ℕ) → Rows (bit p) lindptr lindices m → (part : Part) → side_list lindptr lindices m m part ≡ of_kind (shape off cols) m n (Columns Factor part)
factor_side off cols m n p ready lindptr lindices v Ends = ends_same off cols m p ready lindptr lindices v
factor_side off cols m n p ready lindptr lindices v (Entries w) = cols_are lindptr lindices m m w ∙ columns_same off cols m p ready lindptr lindices v w

-- the rows of a side are narrower than a memory with a word for each row and each column, and one more; their list is the side's
pub record Sided (off cols : List ℕ) (m n : ℕ) (side : Side) (part : Part) (rows : SparseRows) : Type 0 where
  pub fits : (s : List ℕ) → Room m n s → rows.n < length s
  pub list : side_list rows.offsets.now (cols_of rows.columns) rows.m rows.n part ≡ of_kind (shape off cols) m n (Columns side part)

module _ {off cols : List ℕ} {plan : Plan} {p lindptr lindices : List ℕ} (known : Known off cols plan p lindptr lindices) (part : Part) (rows made : SparseRows) (is : rows ≡ made) where
  pub factor_sided : (side : Side) → side ≡ Factor → made.m ≡ plan.m → made.n ≡ plan.m → made.offsets.now ≡ lindptr → cols_of made.columns ≡ lindices → Sided off cols plan.m plan.n side part rows
  factor_sided side s x y u v = rw (is, s) (record {
    fits = λ l r. omega (arith, y, r.rows);
    list = rw (x, y, u, v) (factor_side off cols plan.m plan.n p known.ready lindptr lindices known.rows part);
  })

  pub matrix_sided : (side : Side) → side ≡ Matrix → made.m ≡ plan.m → made.n ≡ plan.n → made.offsets.now ≡ off → cols_of made.columns ≡ cols → Sided off cols plan.m plan.n side part rows
  matrix_sided side s x y u v = rw (is, s) (record {
    fits = λ l r. omega (arith, y, r.columns);
    list = rw (x, y, u, v) (matrix_side off cols plan.m plan.n part);
  })

-- ---- the sizes of the lists

module _ {off cols : List ℕ} {plan : Plan} {p lindptr lindices : List ℕ} (known : Known off cols plan p lindptr lindices) where
  pub words_fit : words_at plan ≤ top_word
  words_fit =
      let ok = known.accepted in
      omega (arith, ok.csr.few, ok.offsets.few, ok.wide, known.entries, known.counts.stored, known.counts.shared, known.counts.products, few_stored off cols plan.m ok.csr, few_shared off cols plan.m ok.csr ok.offsets.few, few_products off cols plan.m ok.csr)

  pub size_at : (k : ℕ) → 1 ≤ k → k ≤ 16 → get_or (sizes_of plan) (k - 1) 0 ≡ length (matrix_lists off cols plan.m plan.n k)
  size_at k l h =
      let z : suc (k - 1) ≡ k = omega arith in
      sizes_are off cols plan.m plan.n known.accepted plan known.counts refl refl known.entries (k - 1) (omega arith)
      ∙ ap (λ (j : ℕ). length (matrix_lists off cols plan.m plan.n j)) z
