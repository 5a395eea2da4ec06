-- Counting the columns that pairs of rows share, by a count for each column. Assumes nothing.
use mathlib.Core.Path.{◌≡◌, refl, sym, ap, ap₂, ◌∙◌}
use mathlib.Core.List.{List, [], ◌∷◌}
use Prim.Native.Nat.{ℕ, suc, ◌+◌, ◌-◌, ◌<◌, ◌≤◌}
use native.Mathlib.Omega.{arith}
use native.Mathlib.Numerals.{add-one}
use lib.ListN.{length, get_or, take}
use lib.Seq.{take-suc, take_all}
use Rattle.csr.specs.Pattern.{has, row}
use Rattle.std.specs.List.{sum_by}
use Rattle.std.proofs.lemmas.List.Sums.{sum_by-cons, sum_by_push}
use Rattle.base.specs.Sums.{sum, one}
use Rattle.csr.specs.Counts.{common}
use Rattle.lists.specs.Lists.{in_column}
use Rattle.lists.specs.declared.What.TheVariants.{Numbers}
use Rattle.transpose.specs.Bins.{seen}
use Rattle.csr.specs.Csr.{RowOf}
use Rattle.csr.proofs.RowParts.{row_long, in_row_lem, entry_at}
use Rattle.transpose.proofs.Count.{column_long}
use Rattle.base.proofs.Sums.{sum_zero, sum_plus}

sum_by_next : (f : ℕ → ℕ) (l : List ℕ) (q : ℕ) → q < length l → sum_by f (take (q + 1) l) ≡ sum_by f (take q l) + f (get_or l q 0)
sum_by_next f l q h = ap (λ (k : ℕ). sum_by f (take k l)) (add-one q) ∙ ap (sum_by f) (take-suc l q 0 h) ∙ sum_by_push f (take q l) (get_or l q 0)

sum_by_ext : (f g : ℕ → ℕ) (xs : List ℕ) → ((x : ℕ) → f x ≡ g x) → sum_by f xs ≡ sum_by g xs
sum_by_ext f g [] e = refl
sum_by_ext f g (x ∷ xs) e = sum_by-cons f x xs ∙ ap₂ ◌+◌ (e x) (sum_by_ext f g xs e) ∙ sym (sum_by-cons g x xs)

-- ---- counted by row or by column
by_column : (n : ℕ) (r : ℕ → List ℕ) (xs : List ℕ) → sum_by (λ x. sum n (λ j. one (has (r j) x))) xs ≡ sum n (λ j. common xs (r j))
unfolding common
by_column n r [] = sym (sum_zero n (λ j. 0) (λ k l. refl))
by_column n r (x ∷ xs) =
    sum_by-cons (λ e. sum n (λ j. one (has (r j) e))) x xs
    ∙ ap (λ (k : ℕ). sum n (λ j. one (has (r j) x)) + k) (by_column n r xs)
    ∙ sym (sum_plus n (λ j. one (has (r j) x)) (λ j. common xs (r j)))

-- ---- the counts while row i is passed
-- how many of the rows up to i hold column c
abbrev pub up_to : List ℕ → List ℕ → ℕ → ℕ → ℕ
up_to off cols i c = length (seen off cols (i + 1) c)

module _ (off cols : List ℕ) (i n : ℕ) (ok : RowOf off cols i n) where
  -- row i shares so many columns with the rows up to it
  pub row_pairs : sum_by (up_to off cols i) (row off cols i) ≡ sum (suc i) (λ j. common (row off cols i) (row off cols j))
  unfolding in_column
  row_pairs =
      sum_by_ext (up_to off cols i) (λ x. sum (suc i) (λ j. one (has (row off cols j) x))) (row off cols i)
      (λ x. column_long off cols Numbers (i + 1) x ∙ ap (λ (k : ℕ). sum k (λ j. one (has (row off cols j) x))) (add-one i))
      ∙ by_column (suc i) (row off cols) (row off cols i)

  module _ (k e : ℕ) (lo : get_or off i 0 ≤ k) (hk : k < get_or off (i + 1) 0) (he : e ≡ get_or cols k 0) where
    pub pairs_turn : (s x : ℕ) → s ≡ sum_by (up_to off cols i) (take (k - get_or off i 0) (row off cols i)) → x ≡ up_to off cols i e → s + x ≡ sum_by (up_to off cols i) (take (k + 1 - get_or off i 0) (row off cols i))
    pairs_turn s x hs hx =
        let z : k - get_or off i 0 + 1 ≡ k + 1 - get_or off i 0 = omega arith in
        ap₂ ◌+◌ hs (hx ∙ ap (up_to off cols i) (entry_at off cols i n ok k e lo hk he))
        ∙ sym (sum_by_next (up_to off cols i) (row off cols i) (k - get_or off i 0) (in_row_lem off cols i n ok k e lo hk he))
        ∙ ap (λ (y : ℕ). sum_by (up_to off cols i) (take y (row off cols i))) z

  pub pairs_start : (k : ℕ) → k ≡ get_or off i 0 → 0 ≡ sum_by (up_to off cols i) (take (k - get_or off i 0) (row off cols i))
  pairs_start k e = let z : 0 ≡ k - get_or off i 0 = omega arith in ap (λ (y : ℕ). sum_by (up_to off cols i) (take y (row off cols i))) z

  pub pairs_end : (k s : ℕ) → get_or off (i + 1) 0 ≤ k → s ≡ sum_by (up_to off cols i) (take (k - get_or off i 0) (row off cols i)) → s ≡ sum (suc i) (λ j. common (row off cols i) (row off cols j))
  pairs_end k s h e = e ∙ ap (sum_by (up_to off cols i)) (take_all (k - get_or off i 0) (row off cols i) (omega (arith, row_long off cols i n ok))) ∙ row_pairs
