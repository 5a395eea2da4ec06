-- The sixteen lists one after the other, and each cut out of a memory between its bounds. Assumes nothing.
use mathlib.Core.Path.{◌≡◌, refl, sym, ap, ◌∙◌}
use mathlib.Core.List.{List, [], ◌∷◌, ◌++◌, append_assoc, append-nil}
use Prim.Native.Nat.{ℕ, ◌+◌, ◌-◌}
use native.Mathlib.Omega.{arith}
use lib.ListN.{length, take, drop}
use lib.Seq.{take_at, drop_at, drop-drop}
use Rattle.base.specs.Cat.{join}
use Rattle.base.specs.Numbers.{cut}
use Rattle.lists.specs.Lists.{Shape, shape, list_of, ends_of, columns_of, plan_of, plan_words}
use Rattle.lists.specs.declared.Side.TheVariants.{Factor, Matrix}
use Rattle.lists.specs.declared.What.TheVariants.{Numbers, Places}
use Rattle.lists.specs.declared.Which.TheVariants.{AnormIndptr, AnormIndptrI, AnormIndptrJ, AnormIndices, LdecompIndptr, LdecompIndptrI, LdecompIndptrJ, Lindptr, LdiagIndptr, Lindices}

-- ---- one list of many

-- the lists xs stand in a memory from place b on
pub record From (index : List ℕ) (b : ℕ) (xs : List (List ℕ)) : Type 0 where
  pub rest : List ℕ
  pub is : drop b index ≡ join xs ++ rest

module _ {index : List ℕ} {b : ℕ} {x : List ℕ} {xs : List (List ℕ)} (f : From index b (x ∷ xs)) (e : ℕ) (q : e ≡ b + length x) where
  regrouped : drop b index ≡ x ++ (join xs ++ f.rest)
  regrouped = f.is ∙ append_assoc x (join xs) f.rest

  -- THE CUT: the first of them stands between its bounds
  pub first_is : cut b e index ≡ x
  first_is = ap (take (e - b)) regrouped ∙ take_at x (join xs ++ f.rest) (e - b) (omega arith)

  -- and the others from there on
  pub behind : From index e xs
  behind = record {
    rest = f.rest;
    is = ap (λ (k : ℕ). drop k index) q ∙ sym (drop-drop (length x) b index) ∙ ap (drop (length x)) regrouped ∙ drop_at x (join xs ++ f.rest) (length x) refl;
  }

-- ---- the sixteen

regroup : (a0 a1 a2 a3 a4 a5 a6 a7 a8 a9 a10 a11 a12 a13 a14 a15 : List ℕ)
    → a0 ++ a1 ++ a2 ++ a3 ++ a4 ++ a5 ++ a6 ++ a7 ++ a8 ++ a9 ++ a10 ++ a11 ++ a12 ++ a13 ++ a14 ++ a15
    ≡ join (a0 ∷ a1 ∷ a2 ∷ a3 ∷ a4 ∷ a5 ∷ a6 ∷ a7 ∷ a8 ∷ a9 ∷ a10 ∷ a11 ∷ a12 ∷ a13 ∷ a14 ∷ a15 ∷ [])
regroup a0 a1 a2 a3 a4 a5 a6 a7 a8 a9 a10 a11 a12 a13 a14 a15 = simp (append_assoc, append-nil)

module _ (off cols : List ℕ) (m n : ℕ) where
  abbrev g : Shape
  g = shape off cols

  abbrev pub sixteen : List (List ℕ)
  sixteen =
      list_of g AnormIndptr m
      ∷ list_of g AnormIndptrI m
      ∷ list_of g AnormIndptrJ m
      ∷ list_of g AnormIndices m
      ∷ list_of g LdecompIndptr m
      ∷ list_of g LdecompIndptrI m
      ∷ list_of g LdecompIndptrJ m
      ∷ list_of g Lindptr m
      ∷ list_of g LdiagIndptr m
      ∷ list_of g Lindices m
      ∷ ends_of g Factor m m
      ∷ columns_of g Factor Numbers m m
      ∷ columns_of g Factor Places m m
      ∷ ends_of g Matrix m n
      ∷ columns_of g Matrix Numbers m n
      ∷ columns_of g Matrix Places m n
      ∷ []

  pub plan_joined : plan_words off cols m n ≡ join sixteen
  unfolding plan_of
  plan_joined =
      regroup (list_of g AnormIndptr m) (list_of g AnormIndptrI m) (list_of g AnormIndptrJ m) (list_of g AnormIndices m) (list_of g LdecompIndptr m) (list_of g LdecompIndptrI m) (list_of g LdecompIndptrJ m) (list_of g Lindptr m) (list_of g LdiagIndptr m) (list_of g Lindices m)
      (ends_of g Factor m m) (columns_of g Factor Numbers m m) (columns_of g Factor Places m m)
      (ends_of g Matrix m n) (columns_of g Matrix Numbers m n) (columns_of g Matrix Places m n)

  pub plan_from : (index rest : List ℕ) → index ≡ plan_words off cols m n ++ rest → From index 0 sixteen
  plan_from index rest e = record { rest = rest; is = e ∙ ap (λ (l : List ℕ). l ++ rest) plan_joined }
