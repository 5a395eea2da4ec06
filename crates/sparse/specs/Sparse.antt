-- Sums over the places that a list names, and the ranges of lists of offsets and places. Definitions only.
use Rattle.std.specs.Prelude.{ℕ, zero, suc, ◌+◌, ◌-◌, ◌≤◌, ◌<◌, ◌≡◌, List, get_or, length, set, Float}
use Rattle.base.specs.Numbers.{cut}
use Rattle.lanes.specs.Lists.{at, fold, grow}
use Rattle.lanes.specs.Arithmetic.{◌⊕◌, ◌⊖◌, ◌⊗◌, ◌⊘◌}

-- v, and in turn plus or less a number for the turn times u at the place that the list names
unfoldable pub plus_all : List ℕ → (ℕ → Float) → (ℕ → Float) → Float → Float
unfolding fold
plus_all es a u v = fold (length es) (λ k r. r ⊕ a k ⊗ u (get_or es k 0)) v

unfoldable pub less_all : List ℕ → (ℕ → Float) → (ℕ → Float) → Float → Float
unfolding fold
less_all es a u v = fold (length es) (λ k r. r ⊖ a k ⊗ u (get_or es k 0)) v

unfoldable pub less_each : List ℕ → (ℕ → Float) → (ℕ → Float) → Float → Float
unfolding fold
less_each es a u v = fold (length es) (λ k r. r ⊖ u (get_or es k 0) ⊗ a k) v

-- ---- substitution, by the lists: lv are the factor's numbers, row after row

unfoldable pub front_at : List ℕ → List ℕ → List Float → List Float → List Float → ℕ → Float
unfolding less_each
front_at ptr ind lv f d i =
    less_each (cut (get_or ptr i 0) (get_or ptr (i + 1) 0 - 1) ind) (λ k. at lv (get_or ptr i 0 + k)) (at d) (at f i) ⊘ at lv (get_or ptr (i + 1) 0 - 1)

unfoldable pub front : List ℕ → List ℕ → ℕ → List Float → List Float → List Float
unfolding grow front_at
front ptr ind m lv f = grow m (front_at ptr ind lv f)

unfoldable pub back_at : List ℕ → List ℕ → List ℕ → List ℕ → List Float → List Float → ℕ → Float
unfolding less_each
back_at ptr tptr tind tmap lv d i =
    less_each (cut (get_or tptr i 0 + 1) (get_or tptr (i + 1) 0) tind) (λ k. at lv (get_or (cut (get_or tptr i 0 + 1) (get_or tptr (i + 1) 0) tmap) k 0)) (at d) (at d i)
    ⊘ at lv (get_or ptr (i + 1) 0 - 1)

unfoldable pub back : List ℕ → List ℕ → List ℕ → List ℕ → List Float → ℕ → List Float → List Float
unfolding back_at
back ptr tptr tind tmap lv zero d = d
back ptr tptr tind tmap lv (suc i) d = back ptr tptr tind tmap lv i (set d i (back_at ptr tptr tind tmap lv d i))

-- ---- ranges

-- every number of the list is below n
abbrev pub Names : ℕ → List ℕ → Type 0
Names n es = (k : ℕ) → k < length es → get_or es k 0 < n

-- each place that the list names, counted from entry o, is among this many entries
abbrev pub Fits : ℕ → ℕ → List ℕ → Type 0
Fits size o es = (k : ℕ) → k < length es → o + get_or es k 0 < size

-- m parts in a list of numbers below n
pub record Ranges (m n : ℕ) (off cols : List ℕ) : Type 0 where
  pub rows : m < length off
  pub rises : (i : ℕ) → i < m → get_or off i 0 ≤ get_or off (i + 1) 0
  pub ends : (i : ℕ) → i < m → get_or off (i + 1) 0 ≤ length cols
  pub below : (k : ℕ) → k < length cols → get_or cols k 0 < n

-- the factor's rows: each ends with its own number and has only lower ones before it
pub record Low (m : ℕ) (ptr ind : List ℕ) : Type 0 where
  pub rows : m < length ptr
  pub rises : (i : ℕ) → i < m → get_or ptr i 0 < get_or ptr (i + 1) 0
  pub ends : (i : ℕ) → i < m → get_or ptr (i + 1) 0 ≤ length ind
  pub below : (i : ℕ) → i < m → (k : ℕ) → get_or ptr i 0 ≤ k → k < get_or ptr (i + 1) 0 - 1 → get_or ind k 0 < i

-- the factor's columns, and where their entries stand among E
pub record High (m E : ℕ) (tptr tind tmap : List ℕ) : Type 0 where
  pub rows : m < length tptr
  pub rises : (i : ℕ) → i < m → get_or tptr i 0 < get_or tptr (i + 1) 0
  pub ends : (i : ℕ) → i < m → get_or tptr (i + 1) 0 ≤ length tind
  pub sizes : length tmap ≡ length tind
  pub below : (k : ℕ) → k < length tind → get_or tind k 0 < m
  pub places : (k : ℕ) → k < length tmap → get_or tmap k 0 < E
