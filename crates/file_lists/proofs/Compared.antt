-- The turns of a row's loop over its stored pairs, what each adds compared. Assumes nothing.
use mathlib.Core.Path.{◌≡◌, refl, sym, ap, ◌∙◌}
use mathlib.Core.Bool.{true, false}
use mathlib.Core.List.{List, [], ◌∷◌, ◌++◌, append_assoc, append-nil}
use Prim.Native.Nat.{ℕ, suc, ◌+◌, ◌-◌, ◌<◌, ◌≤◌}
use native.Mathlib.Omega.{arith}
use native.Mathlib.Numerals.{add-one}
use lib.ListN.{length, get_or, take, length-append}
use lib.Seq.{sets, take_all}
use Rattle.pattern.specs.Word.{bit}
use Rattle.pattern.specs.Ready.{Ready}
use Rattle.base.specs.Cat.{cat, pick, pairs}
use Rattle.base.proofs.Write.{pairs_next, cat_room, cat_split}
use Rattle.lists.specs.Lists.{Shape, shape, weight, piece, before, list_of, begins}
use Rattle.lists.specs.declared.Which.{Which}
use Rattle.pair_lists.specs.Kept.{kept, Rows, diagonal_only}
use Rattle.pair_lists.specs.Listing.{Counting}
use Rattle.pair_lists.proofs.Lists.{rows_up}
use Rattle.pair_lists.proofs.Through.{over, over_snoc, over_kept, part_kept, entry_below}
use Rattle.pair_lists.proofs.Turns.{Turned, turned_from, turn_count, turn_room, turn_few, turn_next, turned_end, one_more, empty}
use Rattle.file_numbers.specs.Agree.{agree}
use Rattle.file_numbers.proofs.Agrees.{agree_none, agree_more, agree_not}

-- in row i, after q of its stored pairs: the writer's turn with a memory that nobody has, and what was compared
pub record Met (off cols p : List ℕ) (w : Which) (i : ℕ) (s : List ℕ) (start at n₀ n q : ℕ) : Type 0 where
  pub none : List ℕ
  pub turned : Turned off cols p w i [] none start at n₀ n q
  pub says : agree s start (over (take q (kept (bit p i) (i + 1))) (piece (shape off cols) w i)) ≡ true

no_words : (l : List ℕ) → length l ≡ 0 → [] ≡ l
no_words [] e = refl
no_words (x ∷ l) e = absurd (omega arith)

module _ (off cols : List ℕ) (m : ℕ) (p : List ℕ) (ready : Ready off cols m p) (lindptr lindices : List ℕ) (v : Rows (bit p) lindptr lindices m) (w : Which) (i : ℕ) (hi : i < m) where
  abbrev f : ℕ → List ℕ
  f = piece (shape off cols) w i

  abbrev l : List ℕ
  l = kept (bit p i) (i + 1)

  pub met_from : (s : List ℕ) (start n t : ℕ) → (diagonal_only w ≡ true → t ≡ get_or lindptr (i + 1) 0 - 1) → (diagonal_only w ≡ false → t ≡ get_or lindptr i 0)
      → (get_or lindptr i 0 ≤ t) × (t ≤ get_or lindptr (i + 1) 0) × Met off cols p w i s start start n n (t - get_or lindptr i 0)
  met_from s start n t x y =
      let h = turned_from off cols m p ready lindptr lindices v w i hi [] start n t x y in
      let z : length (over (take (t - get_or lindptr i 0) l) f) ≡ 0 = omega (arith, h.2.wrote.next) in
      (h.0, h.1, record { none = []; turned = h.2; says = sym (agree_none s start ∙ ap (agree s start) (no_words (over (take (t - get_or lindptr i 0) l) f) z)) })

  module _ (t j : ℕ) (lo : get_or lindptr i 0 ≤ t) (up : t < get_or lindptr (i + 1) 0) (e : j ≡ get_or lindices t 0) where
    module _ (s : List ℕ) (start at n₀ n : ℕ) (u : Met off cols p w i s start at n₀ n (t - get_or lindptr i 0)) where
      pub met_count : (x : ℕ) → n₀ ≡ before (weight (shape off cols) w) i 0 → x ≡ weight (shape off cols) w i j → n + x ≡ before (weight (shape off cols) w) i (suc j)
      met_count x q r = turn_count off cols m p ready lindptr lindices v w i hi t j lo up e [] u.none start at n₀ n u.turned x q r

      pub met_room : start + length (cat (i + 1) f) ≤ length s → at + length (f j) ≤ length s
      met_room r = turn_room off cols m p ready lindptr lindices v w i hi t j lo up e [] u.none start at n₀ n u.turned (length s) r

      pub met_few : i < 256 → t - get_or lindptr i 0 ≤ 256
      met_few q = turn_few off cols m p ready lindptr lindices v w i hi t j lo up e [] u.none start at n₀ n u.turned q

      pub met_next : (x r : ℕ) → x ≡ weight (shape off cols) w i j → x ≤ 16384 → r ≡ at + length (f j) → agree s at (f j) ≡ true → Met off cols p w i s start r n₀ (n + x) (t + 1 - get_or lindptr i 0)
      met_next x r q z h d = record {
        none = sets u.none at (f j);
        turned = turn_next off cols m p ready lindptr lindices v w i hi t j lo up e [] u.none start at n₀ n u.turned (sets u.none at (f j)) x r q z (record { is = refl; next = h });
        says =
            ap (agree s start) (ap (λ (y : List ℕ). over y f) (one_more off cols m p ready lindptr lindices v w i hi t j lo up e) ∙ over_snoc (take (t - get_or lindptr i 0) l) j f)
            ∙ agree_more s start at (over (take (t - get_or lindptr i 0) l) f) (f j) u.turned.wrote.next u.says d;
      }

      pub met_not : agree s at (f j) ≡ false → agree s start (cat (i + 1) f) ≡ false
      met_not h =
          ap (agree s start) (cat_split (i + 1) j f (omega (arith, below)))
          ∙ agree_not s start at (cat j f) (f j) (cat (i + 1 - suc j) (λ k. f (suc j + k))) (u.turned.wrote.next ∙ ap (λ (x : List ℕ). start + length x) so_far) h
        where
          below : j ≤ i
          below = omega (arith, entry_below (bit p) lindptr lindices m v i t hi lo up)

          so_far : over (take (t - get_or lindptr i 0) l) f ≡ cat j f
          so_far =
              ap (λ (x : List ℕ). over x f) (part_kept (bit p) lindptr lindices m v i t hi lo up ∙ ap (kept (bit p i)) (sym e))
              ∙ over_kept (bit p i) j f (λ k b. empty off cols m p ready lindptr lindices v w i hi k (omega (arith, below)))

  pub met_end : (s : List ℕ) (start at n₀ n t : ℕ) → t ≡ get_or lindptr (i + 1) 0 → Counting w off cols i n₀ → Met off cols p w i s start at n₀ n (t - get_or lindptr i 0)
      → (agree s start (cat (i + 1) f) ≡ true) × (at ≡ start + length (cat (i + 1) f)) × Counting w off cols (i + 1) n
  met_end s start at n₀ n t q k u =
      let h = turned_end off cols m p ready lindptr lindices v w i hi [] u.none start at n₀ n t q k.count k.few u.turned in
      let all : take (t - get_or lindptr i 0) l ≡ l = take_all (t - get_or lindptr i 0) l (omega (arith, rows_up (bit p) lindptr lindices m v i hi)) in
      (sym (ap (agree s start) (ap (λ (x : List ℕ). over x f) all ∙ over_kept (bit p i) (i + 1) f (empty off cols m p ready lindptr lindices v w i hi))) ∙ u.says, h.0.next, record { count = h.1; few = h.2 })

-- ---- row after row
module _ (g : Shape) (w : Which) (s : List ℕ) where
  abbrev head : List ℕ
  head = pick (begins w) 0

  pub record Passed (i at : ℕ) : Type 0 where
    pub next : at ≡ length (head ++ pairs i (piece g w))
    pub says : agree s 0 (head ++ pairs i (piece g w)) ≡ true

  pub passed_start : (at : ℕ) → at ≡ length head → agree s 0 head ≡ true → Passed 0 at
  unfolding pairs cat
  passed_start at h q = record {
    next = h ∙ ap length (sym (append-nil head));
    says = ap (agree s 0) (append-nil head) ∙ q;
  }

  more : (i : ℕ) → (head ++ pairs i (piece g w)) ++ cat (i + 1) (piece g w i) ≡ head ++ pairs (i + 1) (piece g w)
  more i = append_assoc head (pairs i (piece g w)) (cat (i + 1) (piece g w i)) ∙ ap (λ (l : List ℕ). head ++ l) (sym (pairs_next i (piece g w)))

  pub passed_next : (i at r : ℕ) → Passed i at → agree s at (cat (i + 1) (piece g w i)) ≡ true → r ≡ at + length (cat (i + 1) (piece g w i)) → Passed (i + 1) r
  passed_next i at r u q z = record {
    next = omega (arith, u.next, length-append (head ++ pairs i (piece g w)) (cat (i + 1) (piece g w i)), ap length (more i));
    says = ap (agree s 0) (sym (more i)) ∙ agree_more s 0 at (head ++ pairs i (piece g w)) (cat (i + 1) (piece g w i)) (u.next ∙ omega arith) u.says q;
  }

  pub passed_room : (m i at : ℕ) → Passed i at → i < m → length (list_of g w m) ≤ length s → at + length (cat (i + 1) (piece g w i)) ≤ length s
  unfolding list_of pairs
  passed_room m i at u h r =
      omega (
        arith,
        u.next,
        length-append head (pairs m (piece g w)),
        length-append head (pairs i (piece g w)),
        cat_room m i (λ a. cat (suc a) (λ k. piece g w a k)) h,
        ap (λ (k : ℕ). length (cat k (piece g w i))) (add-one i),
      )

  -- a row that differs, or what stands in front
  pub passed_not : (m i at : ℕ) → Passed i at → i < m → agree s at (cat (i + 1) (piece g w i)) ≡ false → agree s 0 (list_of g w m) ≡ false
  unfolding list_of pairs
  passed_not m i at u h q =
      let r : ℕ → List ℕ = λ (a : ℕ). cat (suc a) (λ k. piece g w a k) in
      let rest : List ℕ = cat (m - suc i) (λ k. r (suc i + k)) in
      ap (λ (l : List ℕ). agree s 0 (head ++ l)) (cat_split m i r h)
      ∙ ap (agree s 0) (sym (append_assoc head (cat i r) (r i ++ rest)))
      ∙ agree_not s 0 at (head ++ cat i r) (r i) rest (u.next ∙ omega arith) (ap (λ (k : ℕ). agree s at (cat k (piece g w i))) (sym (add-one i)) ∙ q)

  pub head_not : (m : ℕ) → agree s 0 head ≡ false → agree s 0 (list_of g w m) ≡ false
  unfolding list_of
  head_not m h = agree_not s 0 0 [] head (pairs m (piece g w)) refl h

  pub passed_all : (m i at : ℕ) → Passed i at → i ≡ m → agree s 0 (list_of g w m) ≡ true
  unfolding list_of
  passed_all m i at u e = ap (λ (k : ℕ). agree s 0 (head ++ pairs k (piece g w))) (sym e) ∙ u.says
