-- The entries of a row, for a program that goes through the stored lists from one offset to the next. Assumes nothing.
use mathlib.Core.Path.{◌≡◌, refl, sym, ap, ◌∙◌}
use mathlib.Core.Bool.{Bool, cond}
use mathlib.Core.List.{List, [], ◌∷◌}
use Prim.Native.Nat.{ℕ, zero, suc, ◌+◌, ◌-◌, ◌≤◌, ◌<◌}
use native.Mathlib.Omega.{arith}
use borrow.Author.Tests.{ne_eqb, eq-eqb}
use lib.ListN.{get_or, length, take}
use lib.Seq.{take-suc, take-length}
use lib.Ieee.{Float}
use Rattle.csr.specs.Pattern.{has, row}
use Rattle.lanes.specs.Lists.{at, fold, each, Between}
use Rattle.machine.specs.Machine.{Problem, holds, entry}
use Rattle.machine.proofs.Walks.{walk, walk_more, each_walk}
use Rattle.lanes.proofs.Lists.{fold_same}
use Rattle.base.specs.Numbers.{find}
use Rattle.csr.proofs.RowParts.{row_length, row_at}

-- a walk through a list, as a loop over its places
walk_take : (es : List ℕ) (f : ℕ → Float → Float) (v : Float) (k : ℕ) → k ≤ length es → walk (take k es) f v ≡ fold k (λ j r. f (get_or es j 0) r) v
unfolding walk fold
walk_take es f v zero h = refl
walk_take es f v (suc k) h =
    ap (λ (l : List ℕ). walk l f v) (take-suc es k 0 h)
    ∙ walk_more (take k es) (get_or es k 0) f v
    ∙ ap (f (get_or es k 0)) (walk_take es f v k (omega arith))

pub walk_fold : (es : List ℕ) (f : ℕ → Float → Float) (v : Float) → walk es f v ≡ fold (length es) (λ j r. f (get_or es j 0) r) v
walk_fold es f v = ap (λ (l : List ℕ). walk l f v) (sym (take-length es)) ∙ walk_take es f v (length es) (omega arith)

-- in a rising list each number has its own place
above : (b n : ℕ) (es : List ℕ) → Between b n es → (j : ℕ) → j < length es → b ≤ get_or es j 0
above b n [] r j h = absurd (omega arith)
above b n (e ∷ es) r zero h = r.0
above b n (e ∷ es) r (suc j) h = let a : suc e ≤ get_or es j 0 = above (suc e) n es r.2 j (omega arith) in omega (arith, a, r.0)

under : (b n : ℕ) (es : List ℕ) → Between b n es → (j : ℕ) → j < length es → get_or es j 0 < n
under b n [] r j h = absurd (omega arith)
under b n (e ∷ es) r zero h = r.1
under b n (e ∷ es) r (suc j) h = under (suc e) n es r.2 j (omega arith)

pub find_between : (b n : ℕ) (es : List ℕ) → Between b n es → (j : ℕ) → j < length es → find (get_or es j 0) es ≡ j
unfolding find
find_between b n [] r j h = absurd (omega arith)
find_between b n (e ∷ es) r zero h = ap (λ (t : Bool). cond t 0 (suc (find e es))) (eq-eqb e e refl)
find_between b n (e ∷ es) r (suc j) h =
    let a : suc e ≤ get_or es j 0 = above (suc e) n es r.2 j (omega arith) in
    ap (λ (t : Bool). cond t 0 (suc (find (get_or es j 0) es))) (ne_eqb (get_or es j 0) e (λ z. omega (arith, a)))
    ∙ ap suc (find_between (suc e) n es r.2 j (omega arith))

module _ (A : Problem) (i : ℕ) where
  -- row i's first place, and how many entries it has
  abbrev pub from : ℕ
  from = get_or A.off i 0

  abbrev pub many : ℕ
  many = get_or A.off (i + 1) 0 - get_or A.off i 0

  module _ (rising : Between 0 A.n (row A.off A.cols i)) (ends : from + many ≤ length A.cols) where
    row_many : length (row A.off A.cols i) ≡ many
    row_many = row_length A.off A.cols i (omega arith)

    pub entry_at : (j : ℕ) → j < many → entry A i (get_or A.cols (from + j) 0) ≡ at A.vals (from + j)
    unfolding entry
    entry_at j h =
        ap (λ (e : ℕ). at A.vals (from + find e (row A.off A.cols i))) (sym (row_at A.off A.cols i j h))
        ∙ ap (λ (k : ℕ). at A.vals (from + k)) (find_between 0 A.n (row A.off A.cols i) rising j (omega (arith, row_many)))

    -- THROUGH A ROW: what the machine does for each column of row i, a loop does from the row's offset on
    pub along : (F : ℕ → Float → Float → Float) (v : Float)
        → each A.n (holds A i) (λ e r. F e (entry A i e) r) v ≡ fold many (λ j r. F (get_or A.cols (from + j) 0) (at A.vals (from + j)) r) v
    unfolding holds
    along F v =
        let es = row A.off A.cols i in
        each_walk (λ e r. F e (entry A i e) r) 0 A.n es v rising
        ∙ walk_fold es (λ e r. F e (entry A i e) r) v
        ∙ ap (λ (k : ℕ). fold k (λ j r. F (get_or es j 0) (entry A i (get_or es j 0)) r) v) row_many
        ∙ fold_same many (λ j r. F (get_or es j 0) (entry A i (get_or es j 0)) r) (λ j r. F (get_or A.cols (from + j) 0) (at A.vals (from + j)) r) v
        (λ j h r.
        ap (λ (e : ℕ). F e (entry A i e) r) (row_at A.off A.cols i j h) ∙ ap (λ (a : Float). F (get_or A.cols (from + j) 0) a r) (entry_at j h))

-- ---- through any list: a column's rows, the columns that two rows share, the k of D, a row or a column of the factor

pub each_pick : (n : ℕ) (p q : ℕ → Bool) (f : ℕ → Float → Float) (v : Float) → ((k : ℕ) → k < n → p k ≡ q k) → each n p f v ≡ each n q f v
unfolding each
each_pick n p q f v h = fold_same n (λ k r. cond (p k) (f k r) r) (λ k r. cond (q k) (f k r) r) v (λ k b r. ap (λ (t : Bool). cond t (f k r) r) (h k b))

pub through : (n : ℕ) (p : ℕ → Bool) (es : List ℕ) (f : ℕ → Float → Float) (v : Float) → Between 0 n es → ((k : ℕ) → k < n → p k ≡ has es k)
    → each n p f v ≡ fold (length es) (λ j r. f (get_or es j 0) r) v
through n p es f v r h = each_pick n p (has es) f v h ∙ each_walk f 0 n es v r ∙ walk_fold es f v
