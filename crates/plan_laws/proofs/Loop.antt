-- The entries in their order: which entry is which, and how an entry follows from those before it. Assumes nothing.
use mathlib.Core.Path.{◌≡◌, sym, ap, ◌∙◌, subst}
use mathlib.Core.Logic.{inl, inr}
use mathlib.Core.Bool.{true}
use mathlib.Core.List.{List}
use Prim.Native.Nat.{ℕ, zero, suc, ◌+◌, ◌<◌, ◌≤◌}
use native.Mathlib.Omega.{arith}
use native.Mathlib.Numerals.{add-one}
use lib.ListN.{length, get_or}
use lib.Ieee.{Float}
use Rattle.lists.specs.Lists.{Shape, shape, lplace, piece, list_of}
use Rattle.lists.specs.declared.Which.TheVariants.{Lindptr, Lindices}
use Rattle.lanes.specs.Lanes.{cell as here, On}
use Rattle.lanes.proofs.Quads.{◌▹◌}
use Rattle.machine.specs.Machine.{Problem, State, in_factor, factor_entry, factor, cell}
use Rattle.machine.specs.Work.{problem_of}
use Rattle.machine.proofs.Factor.{entry_same, factor_is, Before}
use Rattle.plan_laws.specs.Factoring.{Stands, Factored}
use Rattle.plan_laws.proofs.Ranks.{ranked, ranked_in, lplace_lt, lplace_lt_row, lplace_along, lplace_start, by_entry, by_row_at, by_row_in, entry_of}
use Rattle.plan_laws.proofs.Picks.{held_factor}

-- ---- which entry is which

pub row_start : (off cols : List ℕ) (m i : ℕ) → i ≤ m → get_or (list_of (shape off cols) Lindptr m) i 0 ≡ lplace (shape off cols) i 0
unfolding list_of piece
row_start off cols m zero h = sym (lplace_start (shape off cols) m)
row_start off cols m (suc i) h = by_row_at m (λ a. lplace (shape off cols) (suc a) 0) i (omega arith)

module _ (off cols : List ℕ) (m i : ℕ) (h : i < m) where
  abbrev g : Shape
  g = shape off cols

  pub row_end : get_or (list_of g Lindptr m) (i + 1) 0 ≡ lplace g (suc i) 0
  unfolding list_of piece
  row_end = rw (add-one i) (by_row_at m (λ a. lplace g (suc a) 0) i h)

  pub row_end_in : i + 1 < length (list_of g Lindptr m)
  unfolding list_of piece
  row_end_in = omega (arith, by_row_in m (λ a. lplace g (suc a) 0) i h)

  -- the column of entry e of row i is on the list
  pub stands : (e : ℕ) → lplace g i 0 ≤ e → e < lplace g (suc i) 0 → Stands off cols m i (get_or (list_of g Lindices m) e 0) e
  unfolding list_of piece
  stands e a b =
      let q = entry_of g i e a b in
      let z : get_or (list_of g Lindices m) e 0 ≡ q.j = ap (λ (k : ℕ). get_or (list_of g Lindices m) k 0) (sym q.at) ∙ ranked g m (λ a b. b) i q.j h q.low q.held in
      subst (λ (c : ℕ). Stands off cols m i c e) (sym z) (record { row = h; low = q.low; held = q.held; at = sym q.at })

  pub stands_in : (e : ℕ) → lplace g i 0 ≤ e → e < lplace g (suc i) 0 → e < length (list_of g Lindices m)
  unfolding list_of piece
  stands_in e a b = let q = entry_of g i e a b in omega (arith, q.at, ranked_in g m (λ a b. b) i q.j h q.low q.held)

-- two stored pairs at one place are one pair
pub same_pair : (g : Shape) (m a b i j : ℕ) → a < m → b ≤ a → g.held a b ≡ true → i < m → j ≤ i → g.held i j ≡ true → lplace g a b ≡ lplace g i j
    → (a ≡ i) × (b ≡ j)
same_pair g m a b i j h c t h' c' t' e = (along (λ p q. p), along (λ p q. q))
  where
    along : (v : ℕ → ℕ → ℕ) → v a b ≡ v i j
    along v = sym (ranked g m v a b h c t) ∙ ap (λ (k : ℕ). get_or (by_entry g m v) k 0) e ∙ ranked g m v i j h' c' t'

-- ---- THE TURN: an entry that is worked out of a memory where those before it are the machine's is the machine's
module _ (m n s : ℕ) (off cols : List ℕ) (vals : List Float) (width : ℕ) (q : ℕ → State) (work : List Float) (lo i j e : ℕ) (st : Stands off cols m i j e)
    (F : Factored width (problem_of m n s off cols vals) q lo e work) where
  abbrev h : Shape
  h = shape off cols

  abbrev A : Problem
  A = problem_of m n s off cols vals

  earlier : (l a b : ℕ) → b ≤ a → h.held a b ≡ true → Before A (q l) i j a b → (a < m) × (lplace h a b < e)
  earlier l a b c t (inl u) = (omega (arith, st.row), omega (arith, lplace_lt h a b i u c t, lplace_along h i 0 j (omega arith), st.at))
  earlier l a b c t (inr u) =
      let k : h.held i b ≡ true = subst (λ (r : ℕ). h.held r b ≡ true) u.0 t in
      (omega (arith, u.0, st.row), omega (arith, ap (λ (r : ℕ). lplace h r b) u.0, lplace_lt_row h i b j u.1 k, st.at))

  there : (l : ℕ) → l < width → (a b : ℕ) → b ≤ a → in_factor A a b ≡ true → Before A (q l) i j a b → here width work (lo + lplace h a b) l ≡ cell (factor A (q l)) a b
  there l c a b d t u =
      let k : h.held a b ≡ true = sym (held_factor off cols a b d) ∙ (unfold in_factor in t) in
      let p = earlier l a b d k u in
      F.within l a b c p.0 d t p.1

  pub turn : (v : List Float) → On width v (λ l. factor_entry A (q l) (λ a b. here width work (lo + lplace h a b) l) i j) → On width v (λ l. cell (factor A (q l)) i j)
  turn v z =
      z ▹
      (λ l c.
      entry_same A (q l) (λ a b. here width work (lo + lplace h a b) l) (cell (factor A (q l))) i j st.low (there l c)
      ∙ sym (factor_is A (q l) i j st.row st.low (unfold in_factor in held_factor off cols i j st.low ∙ st.held)))
