-- Laws of a row seeded with its links. Assumes nothing.
use mathlib.Core.Path.{◌≡◌, refl, sym, ap, ap₂, ◌∙◌}
use mathlib.Core.Bool.{Bool, true, false, cond, ◌&&◌, ◌||◌}
use mathlib.Core.List.{List, [], ◌∷◌, ◌++◌}
use Prim.Native.Nat.{ℕ, zero, suc, ◌+◌, ◌<◌, ◌≤◌}
use native.Mathlib.Omega.{arith}
use native.Mathlib.Decide.{ℕ_discrete, dec_lt}
use native.Mathlib.Numerals.{add-one}
use lib.Dec.{eqb, ltb, leb}
use lib.ListN.{length, get_or, take, replicate}
use lib.Seq.{take-suc, take-length}
use borrow.Author.Tests.{ne_eqb, eq-eqb, lt-ltb, le-ltb, lt-leb}
use Rattle.csr.specs.Pattern.{has, row, neighbours, stored}
use Rattle.csr.proofs.Rule.{stored_diag}
use Rattle.pattern.specs.Word.{bit, Put, Done, Seeded, OtherRows, Linked, Clear}
use Rattle.pattern.specs.Links.{or_else, linked, first_of, links, Firsts}
use Rattle.pattern.proofs.Links.{first_has, links_stored}
use Rattle.base.proofs.Bools.{or_nil, or_assoc, or_comm}
use Rattle.csr.proofs.Has.{has_last}
use Rattle.pattern.proofs.Whole.{zeros}

-- one more column
pub linked_last : (F : ℕ → ℕ) (xs : List ℕ) (e j : ℕ) → linked F (xs ++ (e ∷ [])) j ≡ linked F xs j || eqb (F e) (suc j)
unfolding linked
linked_last F [] e j = or_nil (eqb (F e) (suc j))
linked_last F (x ∷ xs) e j =
    ap (λ (t : Bool). eqb (F x) (suc j) || t) (linked_last F xs e j) ∙ sym (or_assoc (eqb (F x) (suc j)) (linked F xs j) (eqb (F e) (suc j)))

-- ---- a row, column by column

module _ (off cols : List ℕ) (i : ℕ) where
  -- the links of the first q columns of row i are set, and their first rows noted
  pub record Linking (p₀ p first : List ℕ) (q : ℕ) : Type 0 where
    pub other : OtherRows p₀ p i
    pub below : (b : ℕ) → b < i → bit p i b ≡ linked (first_of off cols i) (take q (row off cols i)) b
    pub above : (b : ℕ) → i < b → b < 256 → bit p i b ≡ false
    pub firsts : (e : ℕ) → e < 1024 → get_or first e 0 ≡ or_else (first_of off cols i e) (cond (has (take q (row off cols i)) e) (suc i) 0)

  else_none : (x : ℕ) → x ≡ or_else x 0
  else_none zero = refl
  else_none (suc x) = refl

  pub linking_start : (p first : List ℕ) → i < 256 → Clear p i → Firsts first (first_of off cols i) → Linking p p first 0
  unfolding linked has
  linking_start p first hi c f = record {
    other = λ a b _ _ _. refl;
    below = λ b l. c b (omega arith);
    above = λ b _ h. c b h;
    firsts = λ e h. f e h ∙ else_none (first_of off cols i e);
  }

  -- what `first` holds of a column: at most i + 1, and by its value what it says of a row below
  else_most : (x : ℕ) (t : Bool) → ((f : ℕ) → x ≡ suc f → f < i) → or_else x (cond t (suc i) 0) ≤ i + 1
  else_most zero true h = omega arith
  else_most zero false h = omega arith
  else_most (suc x) t h = omega (arith, h x refl)

  pub first_most : {p₀ p first : List ℕ} {q : ℕ} → Linking p₀ p first q → (e : ℕ) → e < 1024 → get_or first e 0 ≤ i + 1
  first_most {p₀} {p} {first} {q} v e h =
      let m = else_most (first_of off cols i e) (has (take q (row off cols i)) e) (λ f z. (first_has off cols i e f z).1) in
      omega (arith, m, v.firsts e h)

  else_below : (x : ℕ) (t : Bool) (b : ℕ) → b < i → eqb (or_else x (cond t (suc i) 0)) (suc b) ≡ eqb x (suc b)
  else_below zero true b l = ne_eqb (suc i) (suc b) (λ e. omega arith) ∙ sym (ne_eqb 0 (suc b) (λ e. omega arith))
  else_below zero false b l = refl
  else_below (suc x) t b l = refl

  else_above : (x : ℕ) (t : Bool) (b : ℕ) → i < b → ((f : ℕ) → x ≡ suc f → f < i) → eqb (or_else x (cond t (suc i) 0)) (suc b) ≡ false
  else_above zero true b l h = ne_eqb (suc i) (suc b) (λ e. omega arith)
  else_above zero false b l h = ne_eqb 0 (suc b) (λ e. omega arith)
  else_above (suc x) t b l h = ne_eqb (suc x) (suc b) (λ e. omega (arith, h x refl))

  else_again : (x : ℕ) (t : Bool) → or_else (or_else x (cond t (suc i) 0)) (i + 1) ≡ or_else x (cond (t || true) (suc i) 0)
  else_again zero true = refl
  else_again zero false = add-one i
  else_again (suc x) t = refl

  module _ {p₀ p first : List ℕ} {q : ℕ} (p' first' : List ℕ) (e : ℕ) (v : Linking p₀ p first q) (hi : i < 256) (hq : q < length (row off cols i))
      (is : e ≡ get_or (row off cols i) q 0) (he : e < 1024)
      (noted : (x : ℕ) → get_or first' x 0 ≡ cond (eqb x e) (or_else (get_or first e 0) (i + 1)) (get_or first x 0))
      (set-bits : Linked p p' i (get_or first e 0)) where
    longer : take (q + 1) (row off cols i) ≡ take q (row off cols i) ++ (e ∷ [])
    longer = ap (λ (k : ℕ). take k (row off cols i)) (add-one q) ∙ take-suc (row off cols i) q 0 hq ∙ ap (λ (x : ℕ). take q (row off cols i) ++ (x ∷ [])) (sym is)

    in_row_lem : (b : ℕ) → b < 256 → bit p' i b ≡ eqb (get_or first e 0) (suc b) || bit p i b
    in_row_lem b h = set-bits i b hi h ∙ rw (eq-eqb i i refl)

    pub linking_turn : Linking p₀ p' first' (q + 1)
    linking_turn = record {
      other = λ a b ha hb n. set-bits a b ha hb ∙ rw (ne_eqb a i n) (v.other a b ha hb n);
      below = λ b l.
          in_row_lem b (omega arith)
          ∙ ap₂ ◌||◌ (ap (λ (x : ℕ). eqb x (suc b)) (v.firsts e he) ∙ else_below (first_of off cols i e) (has (take q (row off cols i)) e) b l) (v.below b l)
          ∙ or_comm (eqb (first_of off cols i e) (suc b)) (linked (first_of off cols i) (take q (row off cols i)) b)
          ∙ sym (linked_last (first_of off cols i) (take q (row off cols i)) e b)
          ∙ sym (ap (λ (xs : List ℕ). linked (first_of off cols i) xs b) longer);
      above = λ b l h.
          in_row_lem b h
          ∙ ap₂ ◌||◌
          (ap (λ (x : ℕ). eqb x (suc b)) (v.firsts e he) ∙ else_above (first_of off cols i e) (has (take q (row off cols i)) e) b l (λ f z. (first_has off cols i e f z).1))
          (v.above b l h);
      firsts = λ x hx. noted x ∙ go x hx (ℕ_discrete x e) ∙ sym (ap (λ (xs : List ℕ). or_else (first_of off cols i x) (cond (has xs x) (suc i) 0)) longer);
    }
      where
        go : (x : ℕ) → x < 1024 → Dec (x ≡ e) → cond (eqb x e) (or_else (get_or first e 0) (i + 1)) (get_or first x 0)
            ≡ or_else (first_of off cols i x) (cond (has (take q (row off cols i) ++ (e ∷ [])) x) (suc i) 0)
        go x hx (yes z) =
            rw (z, eq-eqb e e refl)
            (ap (λ (y : ℕ). or_else y (i + 1)) (v.firsts e he)
            ∙ else_again (first_of off cols i e) (has (take q (row off cols i)) e)
            ∙ sym (ap (λ (t : Bool). or_else (first_of off cols i e) (cond t (suc i) 0)) (has_last (take q (row off cols i)) e e ∙ ap (λ (t : Bool). has (take q (row off cols i)) e || t) (eq-eqb e e refl))))
        go x hx (no z) =
            rw (ne_eqb x e z)
            (v.firsts x hx
            ∙ sym (ap (λ (t : Bool). or_else (first_of off cols i x) (cond t (suc i) 0)) (has_last (take q (row off cols i)) e x ∙ ap (λ (t : Bool). has (take q (row off cols i)) x || t) (ne_eqb x e z) ∙ or_nil (has (take q (row off cols i)) x))))

  -- the diagonal last
  module _ {p₀ p first : List ℕ} {q : ℕ} (v : Linking p₀ p first q) (hi : i < 256) (all : q ≡ length (row off cols i)) where
    whole : take q (row off cols i) ≡ row off cols i
    whole = ap (λ (k : ℕ). take k (row off cols i)) all ∙ take-length (row off cols i)

    pub linking_row : (p' : List ℕ) → Put p p' i i → Seeded (links off cols) p' i
    unfolding links
    linking_row p' u b h = go (ℕ_discrete i b) (dec_lt b i)
      where
        go : Dec (i ≡ b) → Dec (b < i) → bit p' i b ≡ eqb i b || (ltb b i && linked (first_of off cols i) (row off cols i) b)
        go (yes e) l = u i b hi h ∙ rw (eq-eqb i i refl, eq-eqb b i (sym e), eq-eqb i b e)
        go (no n) (yes l) =
            u i b hi h
            ∙ rw (eq-eqb i i refl, ne_eqb b i (λ e. n (sym e)), ne_eqb i b n, lt-ltb b i l)
            (v.below b l ∙ ap (λ (xs : List ℕ). linked (first_of off cols i) xs b) whole)
        go (no n) (no l) = u i b hi h ∙ rw (eq-eqb i i refl, ne_eqb b i (λ e. n (sym e)), ne_eqb i b n, le-ltb b i (omega arith)) (v.above b (omega arith) h)

    pub linking_firsts : Firsts first (first_of off cols (i + 1))
    unfolding first_of
    linking_firsts e h =
        v.firsts e h
        ∙ ap (λ (xs : List ℕ). or_else (first_of off cols i e) (cond (has xs e) (suc i) 0)) whole
        ∙ sym (ap (λ (k : ℕ). first_of off cols k e) (add-one i))

-- ---- all rows

pub firsts_start : (off cols : List ℕ) → Firsts (replicate 1024 0) (first_of off cols 0)
unfolding first_of
firsts_start off cols e h = zeros 1024 e

-- what is stored by links is what is stored
pub done_links : (off cols p : List ℕ) (i : ℕ) → Done (links off cols) p i → Done (neighbours off cols) p i
done_links off cols p i d b h = d b h ∙ go (ℕ_discrete i b) (dec_lt b i)
  where
    go : Dec (i ≡ b) → Dec (b < i) → leb b i && stored (links off cols) i b ≡ leb b i && stored (neighbours off cols) i b
    go (yes e) l = ap (λ (t : Bool). leb b i && t) (stored_diag (links off cols) i b e ∙ sym (stored_diag (neighbours off cols) i b e))
    go (no n) (yes l) = ap (λ (t : Bool). leb b i && t) (links_stored off cols i b l)
    go (no n) (no l) = rw (lt-leb b i (omega arith))
