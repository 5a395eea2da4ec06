-- A walk through one row over the marks of another. Assumes nothing.
use mathlib.Core.Path.{◌≡◌, refl, sym, ap, ap₂, ◌∙◌, subst}
use mathlib.Core.Bool.{Bool, true, false, ◌||◌, true≢false, false≢true}
use mathlib.Core.List.{List, [], ◌∷◌, ◌++◌, append_assoc, append-nil, map}
use Prim.Native.Nat.{ℕ, zero, suc, ◌+◌, ◌-◌, ◌<◌, ◌≤◌}
use native.Mathlib.Omega.{arith}
use native.Mathlib.Decide.{ℕ_discrete, dec_lt}
use native.Mathlib.Numerals.{add-one}
use lib.Dec.{eqb, ltb}
use borrow.Author.Tests.{eq-eqb, ne_eqb, lt-ltb, le-ltb}
use lib.ListN.{length, get_or, set, take, drop, length-append, take-append-drop}
use lib.Seq.{take-suc, take_all, get_or-set_same, get_or-set_other}
use Rattle.csr.specs.Pattern.{has, row}
use Rattle.base.specs.Numbers.{Under, Rising, Below, Part, find}
use Rattle.base.specs.Cat.{pick}
use Rattle.lists.specs.Lists.{both, chosen, shared_as, shared_of, shared, place, shape}
use Rattle.lists.specs.declared.Take.{Take}
use Rattle.lists.proofs.Merge.{both_eq, both_lt, both_gt, both_nil}
use Rattle.base.proofs.Numbers.{find_at, below_at, length_takes, below_more}
use Rattle.base.proofs.Maps.{map_join, map_pick}
use Rattle.csr.proofs.Has.{has_last, find_lt}
use Rattle.shared_columns.specs.Marked.{along_of, Marked, MarkedOver, RowMarked, hit}
use Rattle.base.proofs.Bools.{or_nil, or_true}
use Rattle.csr.specs.Csr.{RowOf}
use Rattle.csr.proofs.RowParts.{row_length, row_long, in_row_lem, entry_at, entry_below}

-- ---- along a list
module _ (f : ℕ → ℕ → List ℕ) where
  pub along_join : (xs ys : List ℕ) (base : ℕ) → along_of f base (xs ++ ys) ≡ along_of f base xs ++ along_of f (base + length xs) ys
  along_join [] ys base = let z : base ≡ base + 0 = omega arith in ap (λ (b : ℕ). along_of f b ys) z
  along_join (x ∷ xs) ys base =
      let z : suc base + length xs ≡ base + suc (length xs) = omega arith in
      ap (λ (l : List ℕ). f base x ++ l) (along_join xs ys (suc base) ∙ ap (λ (b : ℕ). along_of f (suc base) xs ++ along_of f b ys) z)
      ∙ sym (append_assoc (f base x) (along_of f (suc base) xs) (along_of f (base + suc (length xs)) ys))

  along_one : (x base : ℕ) → along_of f base (x ∷ []) ≡ f base x
  along_one x base = append-nil (f base x)

  pub along_next : (l : List ℕ) (q base : ℕ) → q < length l → along_of f base (take (q + 1) l) ≡ along_of f base (take q l) ++ f (base + q) (get_or l q 0)
  along_next l q base b =
      ap (λ (k : ℕ). along_of f base (take k l)) (add-one q) ∙ ap (along_of f base) (take-suc l q 0 b)
      ∙ along_join (take q l) (get_or l q 0 ∷ []) base
      ∙ ap (λ (x : List ℕ). along_of f base (take q l) ++ x) (along_one (get_or l q 0) (base + length (take q l)) ∙ ap (λ (k : ℕ). f (base + k) (get_or l q 0)) (length_takes q l (omega arith)))

  -- what one of its numbers adds has room
  pub along_fits : (l : List ℕ) (q base : ℕ) → q < length l → length (along_of f base (take q l)) + length (f (base + q) (get_or l q 0)) ≤ length (along_of f base l)
  along_fits l q base b =
      omega (
        arith,
        ap length (along_next l q base b),
        length-append (along_of f base (take q l)) (f (base + q) (get_or l q 0)),
        ap (λ (k : List ℕ). length (along_of f base k)) (take-append-drop (q + 1) l),
        ap length (along_join (take (q + 1) l) (drop (q + 1) l) base),
        length-append (along_of f base (take (q + 1) l)) (along_of f (base + length (take (q + 1) l)) (drop (q + 1) l)),
      )

-- ---- what two rows share is the same either way
pub both_sym : (xs ys : List ℕ) → Rising xs → Rising ys → both xs ys ≡ both ys xs
unfolding both
both_sym [] ys r s = sym (both_nil ys)
both_sym (x ∷ xs) ys r s = inner ys s (λ zs q. both_sym xs zs r.1 q)
  where
    inner : (zs : List ℕ) → Rising zs → ((us : List ℕ) → Rising us → both xs us ≡ both us xs) → both (x ∷ xs) zs ≡ both zs (x ∷ xs)
    inner [] q ih = both_nil (x ∷ xs)
    inner (z ∷ zs) q ih = go (ℕ_discrete x z) (dec_lt x z) (inner zs q.1 ih)
      where
        go : Dec (x ≡ z) → Dec (x < z) → both (x ∷ xs) zs ≡ both zs (x ∷ xs) → both (x ∷ xs) (z ∷ zs) ≡ both (z ∷ zs) (x ∷ xs)
        go (yes e) d again =
            ap (λ (k : ℕ). both (x ∷ xs) (k ∷ zs)) (sym e) ∙ both_eq x xs zs r.0
            ∙ ap (λ (l : List ℕ). x ∷ l) (ih zs q.1)
            ∙ sym (ap (λ (k : ℕ). both (k ∷ zs) (x ∷ xs)) (sym e) ∙ both_eq x zs xs (subst (λ (k : ℕ). Under k zs) (sym e) q.0))
        go (no e) (yes d) again = both_lt x xs z zs d q.0 ∙ ih (z ∷ zs) q ∙ sym (both_gt z zs x xs d q.0)
        go (no e) (no d) again = both_gt x xs z zs (omega arith) r.0 ∙ again ∙ sym (both_lt z zs x xs (omega arith) r.0)

-- ---- a marked row
both_snoc : (l xs : List ℕ) (v : ℕ) → both (l ++ (v ∷ [])) xs ≡ both l xs ++ pick (has xs v) v
unfolding both
both_snoc [] xs v = append-nil (pick (has xs v) v)
both_snoc (x ∷ l) xs v = ap (λ (z : List ℕ). pick (has xs x) x ++ z) (both_snoc l xs v) ∙ sym (append_assoc (pick (has xs x) x) (both l xs) (pick (has xs v) v))

module _ (t : Take) (mark : List ℕ) (lo n : ℕ) (xs : List ℕ) (k : Marked mark lo xs n) where
  hit_is : (y v : ℕ) → v < n → hit t mark lo y v ≡ pick (has xs v) (chosen t (lo + find v xs) y v)
  hit_is y v l = go (has xs v) refl
    where
      go : (b : Bool) → has xs v ≡ b → pick (ltb lo (get_or mark v 0)) (chosen t (get_or mark v 0 - 1) y v) ≡ pick b (chosen t (lo + find v xs) y v)
      go true e =
          let z : get_or mark v 0 - 1 ≡ lo + find v xs = omega (arith, k.into v l e) in
          ap₂ (λ (b : Bool) (x : ℕ). pick b (chosen t x y v)) (lt-ltb lo (get_or mark v 0) (omega (arith, k.into v l e))) z
      go false e = ap (λ (b : Bool). pick b (chosen t (get_or mark v 0 - 1) y v)) (le-ltb lo (get_or mark v 0) (k.out v l e))

  module _ (y : ℕ) (ys : List ℕ) (up : Rising ys) (in-n : Below n ys) where
    value : ℕ → ℕ
    value e = chosen t (lo + find e xs) (y + find e ys) e

    along_both : (q : ℕ) → q ≤ length ys → along_of (hit t mark lo) y (take q ys) ≡ map value (both (take q ys) xs)
    unfolding both value
    along_both zero l = refl
    along_both (suc q) l =
        ap (λ (i : ℕ). along_of (hit t mark lo) y (take i ys)) (sym (add-one q))
        ∙ along_next (hit t mark lo) ys q y (omega arith)
        ∙ ap₂ ◌++◌ (along_both q (omega arith))
        (hit_is (y + q) (get_or ys q 0) (below_at n ys q in-n (omega arith))
        ∙ ap (λ (i : ℕ). pick (has xs (get_or ys q 0)) (chosen t (lo + find (get_or ys q 0) xs) (y + i) (get_or ys q 0))) (sym (find_at ys q up (omega arith)))
        ∙ sym (map_pick value (has xs (get_or ys q 0)) (get_or ys q 0)))
        ∙ sym (ap (λ (i : List ℕ). map value (both i xs)) (take-suc ys q 0 (omega arith)) ∙ ap (map value) (both_snoc (take q ys) xs (get_or ys q 0)) ∙ map_join value (both (take q ys) xs) (pick (has xs (get_or ys q 0)) (get_or ys q 0)))

    -- THE MARKS FIND WHAT TWO ROWS SHARE
    pub along_shared : Rising xs → along_of (hit t mark lo) y ys ≡ shared_as t lo y xs ys
    unfolding shared_as value
    along_shared ux =
        ap (along_of (hit t mark lo) y) (sym (take_all (length ys) ys (omega arith)))
        ∙ along_both (length ys) (omega arith)
        ∙ ap (λ (i : List ℕ). map value (both i xs)) (take_all (length ys) ys (omega arith))
        ∙ ap (map value) (both_sym ys xs up ux)

-- ---- marking a row: its first q columns are marked
pub record Marking (old mark : List ℕ) (lo : ℕ) (xs : List ℕ) (q : ℕ) : Type 0 where
  pub into : (c : ℕ) → has (take q xs) c ≡ true → get_or mark c 0 ≡ lo + find c xs + 1
  pub out : (c : ℕ) → has (take q xs) c ≡ false → get_or mark c 0 ≡ get_or old c 0

marking_start : (mark : List ℕ) (lo : ℕ) (xs : List ℕ) → Marking mark mark lo xs 0
unfolding has
marking_start mark lo xs = record {
  into = λ c z. absurd (false≢true z);
  out = λ c z. refl;
}

marking_next : (old mark : List ℕ) (lo : ℕ) (xs : List ℕ) (q : ℕ) → Rising xs → q < length xs → get_or xs q 0 < length mark → Marking old mark lo xs q → Marking old (set mark (get_or xs q 0) (lo + q + 1)) lo xs (q + 1)
marking_next old mark lo xs q up l long k = record {
  into = λ c h. in_go c h (ℕ_discrete c e);
  out = λ c h. out_go c h (ℕ_discrete c e);
}
  where
    e : ℕ
    e = get_or xs q 0

    x : ℕ
    x = lo + q + 1

    more : (c : ℕ) → has (take (q + 1) xs) c ≡ has (take q xs) c || eqb c e
    more c =
        ap (λ (i : ℕ). has (take i xs) c) (add-one q) ∙ ap (λ (i : List ℕ). has i c) (take-suc xs q 0 l)
        ∙ has_last (take q xs) e c

    other : (c : ℕ) → (c ≡ e → ⊥) → has (take (q + 1) xs) c ≡ has (take q xs) c
    other c d = more c ∙ ap (λ (b : Bool). has (take q xs) c || b) (ne_eqb c e d) ∙ or_nil (has (take q xs) c)

    in_go : (c : ℕ) → has (take (q + 1) xs) c ≡ true → Dec (c ≡ e) → get_or (set mark e x) c 0 ≡ lo + find c xs + 1
    in_go c h (yes d) =
        ap (λ (i : ℕ). get_or (set mark e x) i 0) d ∙ get_or-set_same mark e x 0 long
        ∙ ap (λ (i : ℕ). lo + i + 1) (sym (ap (λ (i : ℕ). find i xs) d ∙ find_at xs q up l))
    in_go c h (no d) = get_or-set_other mark e c x 0 d ∙ k.into c (sym (other c d) ∙ h)

    out_go : (c : ℕ) → has (take (q + 1) xs) c ≡ false → Dec (c ≡ e) → get_or (set mark e x) c 0 ≡ get_or old c 0
    out_go c h (yes d) = absurd (true≢false (sym (more c ∙ ap (λ (i : Bool). has (take q xs) c || i) (eq-eqb c e d) ∙ or_true (has (take q xs) c)) ∙ h))
    out_go c h (no d) = get_or-set_other mark e c x 0 d ∙ k.out c (sym (other c d) ∙ h)

-- ---- row i marked, one entry after the other
module _ (off cols : List ℕ) (i n : ℕ) (ok : RowOf off cols i n) where
  pub row_start : (mark : List ℕ) (k : ℕ) → k ≡ get_or off i 0 → Marking mark mark (get_or off i 0) (row off cols i) (k - get_or off i 0)
  row_start mark k e =
      let z : 0 ≡ k - get_or off i 0 = omega arith in
      subst (λ (y : ℕ). Marking mark mark (get_or off i 0) (row off cols i) y) z (marking_start mark (get_or off i 0) (row off cols i))

  pub row_turn : (k e : ℕ) → get_or off i 0 ≤ k → k < get_or off (i + 1) 0 → e ≡ get_or cols k 0 → (old mark : List ℕ) → n ≤ length mark
      → Marking old mark (get_or off i 0) (row off cols i) (k - get_or off i 0) → Marking old (set mark e (k + 1)) (get_or off i 0) (row off cols i) (k + 1 - get_or off i 0)
  row_turn k e lo hk he old mark long p =
      let z : k - get_or off i 0 + 1 ≡ k + 1 - get_or off i 0 = omega arith in
      let w : get_or off i 0 + (k - get_or off i 0) + 1 ≡ k + 1 = omega arith in
      let at : e ≡ get_or (row off cols i) (k - get_or off i 0) 0 = entry_at off cols i n ok k e lo hk he in
      let below : e < n = entry_below off cols i n ok k e lo hk he in
      subst (λ (y : ℕ). Marking old (set mark e (k + 1)) (get_or off i 0) (row off cols i) y) z
      (subst (λ (y : ℕ). Marking old (set mark e y) (get_or off i 0) (row off cols i) (k - get_or off i 0 + 1)) w
      (subst (λ (y : ℕ). Marking old (set mark y (get_or off i 0 + (k - get_or off i 0) + 1)) (get_or off i 0) (row off cols i) (k - get_or off i 0 + 1)) (sym at)
      (marking_next old mark (get_or off i 0) (row off cols i) (k - get_or off i 0) ok.rising (in_row_lem off cols i n ok k e lo hk he) (omega (arith, at, below)) p)))

  pub row_end : (k : ℕ) → get_or off (i + 1) 0 ≤ k → (old mark : List ℕ) → Marking old mark (get_or off i 0) (row off cols i) (k - get_or off i 0) → MarkedOver old mark (get_or off i 0) (row off cols i)
  row_end k h old mark p =
      let all : take (k - get_or off i 0) (row off cols i) ≡ row off cols i = take_all (k - get_or off i 0) (row off cols i) (omega (arith, row_long off cols i n ok)) in
      record {
        into = λ c z. p.into c (ap (λ (l : List ℕ). has l c) all ∙ z);
        out = λ c z. p.out c (ap (λ (l : List ℕ). has l c) all ∙ z);
      }

-- ---- what marking a row says of marks that were low
module _ (old mark : List ℕ) (lo : ℕ) (xs : List ℕ) (k : MarkedOver old mark lo xs) where
  pub over_low : (n : ℕ) → ((c : ℕ) → c < n → get_or old c 0 ≤ lo) → Marked mark lo xs n
  over_low n low = record {
    into = λ c l h. k.into c h;
    out = λ c l h. omega (arith, k.out c h, low c l);
  }

  pub over_next : (c : ℕ) → get_or old c 0 ≤ lo → get_or mark c 0 ≤ lo + length xs
  over_next c l = go (has xs c) refl
    where
      go : (t : Bool) → has xs c ≡ t → get_or mark c 0 ≤ lo + length xs
      go true h = omega (arith, k.into c h, find_lt c xs h)
      go false h = omega (arith, k.out c h)

-- ---- rows i and j of a grid, row i marked
module _ {off cols mark : List ℕ} {i j : ℕ} (r : RowMarked off cols mark i j) where
  pub other_part : Part off j (length cols)
  other_part = record { here = omega (arith, r.grid.csr.offsets, r.other); rises = r.grid.csr.order j r.other; ends = r.grid.csr.ends (j + 1) (omega (arith, r.other)) }

  pub other_below : Below (length mark) (row off cols j)
  other_below = below_more r.wide (length mark) (row off cols j) r.long (r.grid.within j r.other)

  pub other_short : get_or off j 0 + length (row off cols j) ≤ 65536
  other_short = omega (arith, row_length off cols j other_part.ends, other_part.rises, other_part.ends, r.grid.short)

  pub other_is : (t : Take) → along_of (hit t mark (get_or off i 0)) (get_or off j 0) (row off cols j) ≡ shared_of (shape off cols) t i j
  unfolding shared_of shared_as shared place
  other_is t = along_shared t mark (get_or off i 0) r.wide (row off cols i) r.marks (get_or off j 0) (row off cols j) (r.grid.csr.rising j r.other) (r.grid.within j r.other) (r.grid.csr.rising i r.inside)
