-- Laws of a pattern's rows: a bit set, two rows that meet, a row filled, a row counted. Assumes nothing.
use mathlib.Core.Path.{◌≡◌, refl, sym, ap, ap₂, ◌∙◌, subst}
use mathlib.Core.Logic.{◌⊎◌, inl, inr, ◌≢◌}
use mathlib.Core.Bool.{Bool, true, false, ◌&&◌, ◌||◌, not, false≢true}
use mathlib.Core.List.{List, [], ◌∷◌, map}
use Prim.Native.Nat.{ℕ, zero, suc, ◌+◌, ◌*◌, ◌/◌, ◌%◌, ◌^◌, ◌<◌, ◌≤◌}
use native.Mathlib.Omega.{arith}
use native.Mathlib.Decide.{ℕ_discrete, dec_lt}
use native.Mathlib.Numerals.{add-one}
use lib.Dec.{eqb, ltb, leb}
use lib.Bits.{bit_or}
use Rattle.std.specs.Int.Bits.{and_lt}
use Rattle.std.specs.List.{fold, list_any, range_with_len, sum as sum_list}
use Rattle.std.proofs.Math.Bool.{and_self}
use Rattle.std.proofs.lemmas.Bool.{false_from_ne_true}
use Rattle.std.proofs.lemmas.List.Folds.{list_any_at}
use Rattle.std.proofs.lemmas.List.FromFn.{get_or-range_with_len, sum_by-map-range_with_len_more}
use lib.Count.{ones}
use lib.ListN.{length, get_or, set}
use lib.Seq.{get_or-set_same, get_or-set_other}
use borrow.Author.Tests.{ne_eqb, eq-eqb, eqb-true, eqb-false, not-true, not-false, le-leb, lt-leb, lt-ltb, le-ltb, leb-true}
use Rattle.base.proofs.Bools.{and_out, or_assoc, or_comm, or_nil, or_out, same_if}
use Rattle.csr.specs.Pattern.{stored, fill}
use Rattle.csr.specs.Chain.{Meets}
use Rattle.csr.proofs.Rule.{stored_diag, fill_out, fill_in, off_diag}
use Rattle.csr.specs.Walks.{fill_nb}
use Rattle.base.specs.Sums.{sum, one}
use Rattle.pattern.specs.Word.{digit, bit, Put, Done, OtherRows, row_ones, common_word, CommonWord}
use Rattle.pattern.proofs.Digits.{digit_and, digit_or, digit_zero, digit_pow, shl_one, set_digit, ones_sum}
use Rattle.base.proofs.Sums.{sum_ext, sum_add, sum_times, count_le}

-- ---- a bit set

bit_is : (p : List ℕ) (i j : ℕ) → bit p i j ≡ digit (get_or p (i * 4 + j / 64) 0) (j % 64)
unfolding bit
bit_is p i j = refl

-- the store of `put`
pub put_law : (p : List ℕ) (i j : ℕ) → length p ≡ 1024 → i < 256 → j < 256
    → Put p (set p (i * 4 + j / 64) (bit_or (get_or p (i * 4 + j / 64) 0) ((1 * 2 ^ (j % 64)) % 2 ^ 64))) i j
unfolding bit
put_law p i j hp hi hj a b ha hb = go (ℕ_discrete (a * 4 + b / 64) at)
  where
    at : ℕ
    at = i * 4 + j / 64

    w : ℕ
    w = get_or p at 0

    v : ℕ
    v = bit_or w ((1 * 2 ^ (j % 64)) % 2 ^ 64)

    -- the word is another
    tests : (s t : Bool) → (s ≡ true → t ≡ true → ⊥) → s && t ≡ false
    tests true true h = absurd (h refl refl)
    tests true false h = refl
    tests false t h = refl

    same_word : a * 4 + b / 64 ≡ i * 4 + j / 64 → eqb (b % 64) (j % 64) ≡ eqb a i && eqb b j
    same_word e = words (ℕ_discrete b j)
      where
        words : Dec (b ≡ j) → eqb (b % 64) (j % 64) ≡ eqb a i && eqb b j
        words (yes q) = rw (eq-eqb a i (omega arith), eq-eqb b j q, eq-eqb (b % 64) (j % 64) (omega arith))
        words (no q) = rw (eq-eqb a i (omega arith), ne_eqb b j q, ne_eqb (b % 64) (j % 64) (λ r. q (omega arith)))

    go : Dec (a * 4 + b / 64 ≡ i * 4 + j / 64)
        → digit (get_or (set p at v) (a * 4 + b / 64) 0) (b % 64) ≡ (eqb a i && eqb b j) || digit (get_or p (a * 4 + b / 64) 0) (b % 64)
    go (yes e) =
        ap (λ (x : ℕ). digit (get_or (set p at v) x 0) (b % 64)) e
        ∙ ap (λ (x : ℕ). digit x (b % 64)) (get_or-set_same p at v 0 (omega arith) ∙ ap (bit_or w) (shl_one (j % 64) (omega arith)))
        ∙ digit_or w (1 * 2 ^ (j % 64)) (b % 64)
        ∙ or_comm (digit w (b % 64)) (digit (1 * 2 ^ (j % 64)) (b % 64))
        ∙ ap₂ ◌||◌ (digit_pow (j % 64) (b % 64) ∙ same_word e) (ap (λ (x : ℕ). digit (get_or p x 0) (b % 64)) (sym e))
    go (no n) =
        ap (λ (x : ℕ). digit x (b % 64)) (get_or-set_other p at (a * 4 + b / 64) v 0 n)
        ∙ ap (λ (t : Bool). t || digit (get_or p (a * 4 + b / 64) 0) (b % 64))
        (sym (tests (eqb a i) (eqb b j) (λ s t. n (ap₂ (λ (x y : ℕ). x * 4 + y / 64) (eqb-true a i s) (eqb-true b j t)))))

-- ---- two rows that meet

-- digit d of word w of a row is bit 64 w + d
at_word : (p : List ℕ) (i w d : ℕ) → d < 64 → bit p i (w * 64 + d) ≡ digit (get_or p (i * 4 + w) 0) d
at_word p i w d h = bit_is p i (w * 64 + d) ∙ ap₂ (λ (y z : ℕ). digit (get_or p y 0) z) (omega arith) (omega arith)

pub common_law : (p : List ℕ) (i j w : ℕ) → CommonWord p i j w (common_word p i j w)
common_law p i j w d h = ap₂ ◌&&◌ (at_word p i w d h) (at_word p j w d h) ∙ sym (digit_and (get_or p (i * 4 + w) 0) (get_or p (j * 4 + w) 0) d)

-- rows i and j have bit k in common
abbrev pub Common : List ℕ → ℕ → ℕ → Type 0
Common p i j = (k : ℕ) × (k < 256) × (bit p i k ≡ true) × (bit p j k ≡ true)

-- a digit of numbers joined by `|` is a digit of one of them
or_digit : (f : ℕ → ℕ) (d a : ℕ) (ws : List ℕ) → digit (fold (λ x w. bit_or x (f w)) a ws) d ≡ digit a d || list_any (λ w. digit (f w) d) ws
or_digit f d a [] = sym (or_nil (digit a d))
or_digit f d a (w ∷ ws) =
    or_digit f d (bit_or a (f w)) ws
    ∙ ap (λ (t : Bool). t || list_any (λ w. digit (f w) d) ws) (digit_or a (f w) d)
    ∙ or_assoc (digit a d) (digit (f w) d) (list_any (λ w. digit (f w) d) ws)

any_found : (f : ℕ → Bool) (a n : ℕ) → list_any f (range_with_len a n) ≡ true → (w : ℕ) × (w < a + n) × (f w ≡ true)
any_found f a zero e = absurd (false≢true e)
any_found f a (suc n) e =
    elim (or_out (f a) (list_any f (range_with_len (a + 1) n)) e) [
      | inl q ↦ (a, omega arith, q)
      | inr q ↦ let s = any_found f (a + 1) n q in (s.0, omega (arith, s.1), s.2)
    ]

module _ (p : List ℕ) (i j : ℕ) where
  -- what `meets` works out of the four words that rows i and j have in common
  abbrev pub meet_word : ℕ
  meet_word = fold (λ a w. bit_or a (common_word p i j w)) 0 (range_with_len 0 4)

  meet_digit : (d : ℕ) → digit meet_word d ≡ list_any (λ w. digit (common_word p i j w) d) (range_with_len 0 4)
  meet_digit d =
      or_digit (common_word p i j) d 0 (range_with_len 0 4)
      ∙ ap (λ (t : Bool). t || list_any (λ w. digit (common_word p i j w) d) (range_with_len 0 4)) (digit_zero d)

  pub meet_yes : meet_word < 2 ^ 64 → not (eqb meet_word 0) ≡ true → Common p i j
  meet_yes l e = go (set_digit 64 meet_word l)
    where
      go : (meet_word ≡ 0) ⊎ ((d : ℕ) × (d < 64) × (digit meet_word d ≡ true)) → Common p i j
      go (inl o) = absurd (eqb-false meet_word 0 (not-true (eqb meet_word 0) e) o)
      go (inr f) =
          let s = any_found (λ w. digit (common_word p i j w) f.0) 0 4 (sym (meet_digit f.0) ∙ f.2) in
          let k : ℕ = s.0 * 64 + f.0 in
          let b = and_out (bit p i k) (bit p j k) (common_law p i j s.0 f.0 f.1 ∙ s.2) in
          (k, omega (arith, s.1, f.1), b.0, b.1)

  pub meet_no : not (eqb meet_word 0) ≡ false → (k : ℕ) → k < 256 → bit p i k && bit p j k ≡ false
  meet_no e k h =
      let at : get_or (range_with_len 0 4) (k / 64) 0 ≡ k / 64 = omega (arith, get_or-range_with_len 0 4 (k / 64) 0 (omega arith)) in
      ap (λ (b : ℕ). bit p i b && bit p j b) (omega arith)
      ∙ common_law p i j (k / 64) (k % 64) (omega arith)
      ∙ false_from_ne_true (D (k / 64)) (λ q. false≢true (sym none ∙ list_any_at D (range_with_len 0 4) (k / 64) 0 (omega arith) (ap D at ∙ q)))
    where
      D : ℕ → Bool
      D w = digit (common_word p i j w) (k % 64)

      none : list_any D (range_with_len 0 4) ≡ false
      none =
          sym (meet_digit (k % 64))
          ∙ ap (λ (v : ℕ). digit v (k % 64)) (eqb-true meet_word 0 (not-false (eqb meet_word 0) e))
          ∙ digit_zero (k % 64)

-- ---- a row counted

-- a sum over a range
pub sum_range : (n : ℕ) (f : ℕ → ℕ) → sum_list (map f (range_with_len 0 n)) ≡ sum n f
unfolding sum
sum_range zero f = refl
sum_range (suc n) f =
    ap (λ (k : ℕ). sum_list (map f (range_with_len 0 k))) (sym (add-one n))
    ∙ sum_by-map-range_with_len_more (λ x. x) f 0 n n (omega arith)
    ∙ ap (λ (s : ℕ). s + f n) (sum_range n f)

module _ (p : List ℕ) (i j : ℕ) where
  abbrev common : ℕ → ℕ
  common k = one (bit p i k && bit p j k)

  -- the ones of the four words are the bits in common
  pub both_ones_law : ((k : ℕ) → get_or p k 0 < 2 ^ 64) → sum_list (map (λ w. ones (common_word p i j w)) (range_with_len 0 4)) ≡ sum 256 common
  both_ones_law h =
      omega (
        arith,
        word 0,
        word 1,
        word 2,
        word 3,
        sum_add 192 64 common,
        sum_add 128 64 common,
        sum_add 64 64 common,
        sum_ext 64 common (λ k. common (0 + k)) (λ k l. ap common (omega arith)),
      )
    where
      word : (w : ℕ) → ones (common_word p i j w) ≡ sum 64 (λ k. common (w * 64 + k))
      word w =
          ones_sum 64 (common_word p i j w) (and_lt 64 _ _ (h (i * 4 + w)) (h (j * 4 + w)))
          ∙ sum_ext 64 (λ d. one (digit (common_word p i j w) d)) (λ k. common (w * 64 + k)) (λ d l. ap one (sym (common_law p i j w d l)))

-- a row has in common with itself what it holds
pub row_ones_law : (p : List ℕ) (i : ℕ) → sum 256 (λ k. one (bit p i k && bit p i k)) ≡ row_ones p i
unfolding row_ones
row_ones_law p i = sum_ext 256 (λ k. one (bit p i k && bit p i k)) (λ k. one (bit p i k)) (λ k l. ap one (and_self (bit p i k)))

-- rows have at most 256 bits each
pub rows_most : (p : List ℕ) (m : ℕ) → sum m (row_ones p) ≤ 256 * m
unfolding row_ones
rows_most p m = omega (arith, sum_times m 256 (row_ones p) (λ i _. count_le 256 (bit p i)))

-- ---- a row filled

-- row i is filled up to j: below j it holds what is stored, from j on what it was seeded with
abbrev pub Part : (ℕ → ℕ → Bool) → List ℕ → ℕ → ℕ → Type 0
Part nb p i j = (b : ℕ) → b < 256 → (b < j → bit p i b ≡ stored nb i b) × (j ≤ b → bit p i b ≡ eqb i b || (ltb b i && nb i b))

module _ (nb : ℕ → ℕ → Bool) (p : List ℕ) (i j : ℕ) (hi : i < 256) (hj : j < i)
    (rows : (a : ℕ) → a < i → Done nb p a) (part : Part nb p i j) where
  -- what row i holds at j before the step
  seed : bit p i j ≡ nb i j
  seed = (part j (omega arith)).1 (omega arith) ∙ rw (ne_eqb i j (λ e. omega arith), lt-ltb j i hj)

  -- a bit in common is stored, so (i, j) is
  common_stored : Common p i j → stored nb i j ≡ true
  common_stored c = go (ℕ_discrete c.0 j)
    where
      k : ℕ
      k = c.0

      row_j : (leb k j ≡ true) × (stored nb j k ≡ true)
      row_j = and_out (leb k j) (stored nb j k) (sym (rows j hj k c.1) ∙ c.3)

      below : k ≤ j
      below = leb-true k j row_j.0

      go : Dec (k ≡ j) → stored nb i j ≡ true
      go (yes e) = off_diag nb i j hj ∙ fill_nb nb j i j (sym seed ∙ (ap (bit p i) (sym e) ∙ c.2))
      go (no n) =
          let l : k < j = omega (arith, below) in
          off_diag nb i j hj
          ∙ fill_in nb j i j k l (sym (off_diag nb i k (omega arith)) ∙ sym ((part k c.1).0 l) ∙ c.2) (sym (off_diag nb j k l) ∙ row_j.1)

  -- no bit in common: what is stored at (i, j) is the neighbour
  apart_stored : ((k : ℕ) → k < 256 → bit p i k && bit p j k ≡ false) → bit p i j ≡ stored nb i j
  apart_stored f = seed ∙ same_if (nb i j) (fill nb j i j) (fill_nb nb j i j) (λ e. out (fill_out nb j i j e)) ∙ sym (off_diag nb i j hj)
    where
      out : (nb i j ≡ true) ⊎ Meets nb j i j → nb i j ≡ true
      out (inl e) = e
      out (inr m) =
          let k = m.0 in
          let l : k < j = m.1 in
          let h : k < 256 = omega arith in
          absurd (false≢true (sym (f k h) ∙ ap₂ ◌&&◌ ((part k h).0 l ∙ m.2) (rows j hj k h ∙ ap₂ ◌&&◌ (le-leb k j (omega arith)) m.3)))

  pub step_no : ((k : ℕ) → k < 256 → bit p i k && bit p j k ≡ false) → Part nb p i (j + 1)
  step_no f b h = (λ l. go (ℕ_discrete b j) l, λ l. (part b h).1 (omega arith))
    where
      go : Dec (b ≡ j) → b < j + 1 → bit p i b ≡ stored nb i b
      go (yes e) l = subst (λ (x : ℕ). bit p i x ≡ stored nb i x) (sym e) (apart_stored f)
      go (no n) l = (part b h).0 (omega arith)

  pub step_yes : (q : List ℕ) → Put p q i j → Common p i j → Part nb q i (j + 1)
  step_yes q u c b h = (λ l. go (ℕ_discrete b j) l, λ l. other (omega arith) ∙ (part b h).1 (omega arith))
    where
      other : b ≢ j → bit q i b ≡ bit p i b
      other n = u i b hi h ∙ rw (eq-eqb i i refl, ne_eqb b j n)

      go : Dec (b ≡ j) → b < j + 1 → bit q i b ≡ stored nb i b
      go (yes e) l = u i b hi h ∙ rw (eq-eqb i i refl, eq-eqb b j e) (sym (subst (λ (x : ℕ). stored nb i x ≡ true) (sym e) (common_stored c)))
      go (no n) l = other n ∙ (part b h).0 (omega arith)

pub part_end : (nb : ℕ → ℕ → Bool) (p : List ℕ) (i : ℕ) → Part nb p i i → Done nb p i
part_end nb p i part b h = go (dec_lt b i) (ℕ_discrete i b)
  where
    go : Dec (b < i) → Dec (i ≡ b) → bit p i b ≡ leb b i && stored nb i b
    go (yes l) e = (part b h).0 l ∙ rw (le-leb b i (omega arith))
    go (no l) (yes e) = (part b h).1 (omega arith) ∙ rw (eq-eqb i b e, le-leb b i (omega arith), stored_diag nb i b e)
    go (no l) (no n) = (part b h).1 (omega arith) ∙ rw (ne_eqb i b n, le-ltb b i (omega arith), lt-leb b i (omega arith))

pub other_put : (p₀ p q : List ℕ) (i j : ℕ) → OtherRows p₀ p i → Put p q i j → OtherRows p₀ q i
other_put p₀ p q i j o u a b ha hb n = u a b ha hb ∙ rw (ne_eqb a i n) (o a b ha hb n)

pub done_other : (nb : ℕ → ℕ → Bool) (p₀ p : List ℕ) (i : ℕ) → i < 256 → OtherRows p₀ p i → ((a : ℕ) → a < i → Done nb p₀ a) → (a : ℕ) → a < i → Done nb p a
done_other nb p₀ p i hi o d a l b h = o a b (omega arith) h (λ e. omega arith) ∙ d a l b h
