-- A row and a column of the matrix, by the lists that the program reads. Definitions only.
use Rattle.std.specs.Prelude.{ℕ, ◌≡◌, List, get_or, length, Float}
use Rattle.lanes.specs.Lists.{at}
use Rattle.base.specs.Numbers.{span}
use Rattle.sparse.specs.Sparse.{plus_all, less_all, Names, Ranges}

-- v plus, or less, each a·u_e of row i
unfoldable pub plus_row : List ℕ → List ℕ → List Float → (ℕ → Float) → ℕ → Float → Float
unfolding plus_all
plus_row off cols vals u i v = plus_all (span off cols i) (at (span off vals i)) u v

unfoldable pub less_row : List ℕ → List ℕ → List Float → (ℕ → Float) → ℕ → Float → Float
unfolding less_all
less_row off cols vals u i v = less_all (span off cols i) (at (span off vals i)) u v

-- v plus, or less, each a·y_i of column e, by the transposed lists
unfoldable pub plus_col : List ℕ → List ℕ → List ℕ → List Float → (ℕ → Float) → ℕ → Float → Float
unfolding plus_all
plus_col atindptr atindices atmap vals y e v = plus_all (span atindptr atindices e) (λ k. at vals (get_or (span atindptr atmap e) k 0)) y v

unfoldable pub less_col : List ℕ → List ℕ → List ℕ → List Float → (ℕ → Float) → ℕ → Float → Float
unfolding less_all
less_col atindptr atindices atmap vals y e v = less_all (span atindptr atindices e) (λ k. at vals (get_or (span atindptr atmap e) k 0)) y v

-- the ranges of the two
pub record Rows (m n : ℕ) (off cols : List ℕ) (vals : List Float) : Type 0 where
  pub csr : Ranges m n off cols
  pub sizes : length vals ≡ length cols

-- a clause: it ties the lists to sizes that the regions have
pub record Cols (n m : ℕ) (atindptr atindices atmap : List ℕ) (vals : List Float) : Type 0 where
  pub csr : Ranges n m atindptr atindices
  pub sizes : length atmap ≡ length atindices
  pub range : Names (length vals) atmap
