-- What the plan's lists say of the matrix and of its factor. Definitions only.
use Rattle.std.specs.Prelude.{ℕ, ◌+◌, ◌-◌, ◌≤◌, ◌<◌, ◌≡◌, ◌&&◌, List, ltb, get_or, length, Float}
use Rattle.csr.specs.Pattern.{has}
use Rattle.lanes.specs.Lists.{at, Between}
use Rattle.machine.specs.Machine.{Problem, holds, entry, in_factor}
use Rattle.base.specs.Numbers.{cut, span}
use Rattle.sparse.specs.Sparse.{Low, High}
use Rattle.sparse.specs.Parts.{Rows, Cols}

module _ (A : Problem) where
  -- the rows' columns rise
  pub record RowsOf : Type 0 where
    pub ranges : Rows A.m A.n A.off A.cols A.vals
    pub rising : (i : ℕ) → i < A.m → Between 0 A.n (span A.off A.cols i)

  -- the transposed lists: for each column its rows rising, and where those entries stand
  pub record ColsOf (atindptr atindices atmap : List ℕ) : Type 0 where
    pub ranges : Cols A.n A.m atindptr atindices atmap A.vals
    pub rising : (e : ℕ) → e < A.n → Between 0 A.m (span atindptr atindices e)
    pub holding : (e : ℕ) → e < A.n → (i : ℕ) → i < A.m → holds A i e ≡ has (span atindptr atindices e) i
    pub entries :
        (e : ℕ)
        → e < A.n
        → (k : ℕ)
        → k < length (span atindptr atindices e)
        → at A.vals (get_or (span atindptr atmap e) k 0) ≡ entry A (get_or (span atindptr atindices e) k 0) e

  -- the factor's rows: in each the lower ones rising, and last its own
  pub record LowOf (ptr ind : List ℕ) : Type 0 where
    pub ranges : Low A.m ptr ind
    pub rising : (i : ℕ) → i < A.m → Between 0 i (cut (get_or ptr i 0) (get_or ptr (i + 1) 0 - 1) ind)
    pub holding : (i : ℕ) → i < A.m → (j : ℕ) → j < i → in_factor A i j ≡ has (cut (get_or ptr i 0) (get_or ptr (i + 1) 0 - 1) ind) j
    pub last : (i : ℕ) → i < A.m → get_or ind (get_or ptr (i + 1) 0 - 1) 0 ≡ i

  -- the factor's columns: in each first its own, then the higher rising, and where those entries stand
  pub record HighOf (ptr ind tptr tind tmap : List ℕ) : Type 0 where
    pub ranges : High A.m (length ind) tptr tind tmap
    pub rising : (i : ℕ) → i < A.m → Between 0 A.m (cut (get_or tptr i 0 + 1) (get_or tptr (i + 1) 0) tind)
    pub holding : (i : ℕ) → i < A.m → (j : ℕ) → j < A.m → (ltb i j && in_factor A j i) ≡ has (cut (get_or tptr i 0 + 1) (get_or tptr (i + 1) 0) tind) j
    pub above :
        (i : ℕ)
        → i < A.m
        → (k : ℕ)
        → k < length (cut (get_or tptr i 0 + 1) (get_or tptr (i + 1) 0) tind)
        → get_or (cut (get_or tptr i 0 + 1) (get_or tptr (i + 1) 0) tind) k 0 < A.m
    pub places :
        (i : ℕ)
        → i < A.m
        → (k : ℕ)
        → k < length (cut (get_or tptr i 0 + 1) (get_or tptr (i + 1) 0) tind)
        → let j = get_or (cut (get_or tptr i 0 + 1) (get_or tptr (i + 1) 0) tind) k 0 in
        let p = get_or (cut (get_or tptr i 0 + 1) (get_or tptr (i + 1) 0) tmap) k 0 in
        (get_or ptr j 0 ≤ p) × (p < get_or ptr (j + 1) 0) × (get_or ind p 0 ≡ i)

  -- the numbers `lv`, in the order of the factor's rows, are those of `L`
  pub record Holds (ptr ind : List ℕ) (lv : List Float) (L : ℕ → ℕ → Float) : Type 0 where
    pub reads : (i : ℕ) → i < A.m → (k : ℕ) → get_or ptr i 0 ≤ k → k < get_or ptr (i + 1) 0 → at lv k ≡ L i (get_or ind k 0)
