-- Laws of the rows as lists. Assumes nothing.
use mathlib.Core.Path.{◌≡◌, refl, sym, ap, ap₂, ◌∙◌, subst}
use mathlib.Core.Bool.{Bool, true, false, ◌||◌}
use mathlib.Core.List.{List, [], ◌∷◌, ◌++◌, append_assoc, append-nil}
use Prim.Native.Nat.{ℕ, zero, suc, ◌+◌, ◌-◌, ◌<◌, ◌≤◌}
use native.Mathlib.Omega.{arith}
use native.Mathlib.Decide.{ℕ_discrete}
use lib.ListN.{length, get_or, set, take, drop, length-append}
use lib.Seq.{sets, sets-eq, get_or-set_same, get_or-set_other}
use Rattle.csr.specs.Pattern.{has, row}
use Rattle.base.specs.Numbers.{Below, Rising, cut, find}
use Rattle.base.specs.Sums.{sum, one}
use Rattle.base.proofs.Sums.{sum_ext, sum_more, sum_room}
use Rattle.base.specs.Cat as cats
use Rattle.base.specs.Cat.{cat, pick, Wrote}
use Rattle.std.specs.Prelude.{Option}
use Rattle.std.specs.Bool.{then_some}
use Rattle.base.proofs.Write.{length_cat, cat_next, length_pick, wrote_join, wrote_as, then_written, same_text, cat_split}
use Rattle.transpose.specs.Bins.{Grid}
use Rattle.pair_lists.specs.Kept.{kept, kept_rows, row_ends, Rows}
use Rattle.base.proofs.Bools.{or_nil}
use Rattle.base.proofs.Numbers.{below_more, below_join, below_pick, rising_snoc, cut_part}
use Rattle.csr.proofs.Has.{has_append, has_self, has_other, find_in, find_out, find_one}
use Rattle.lists.proofs.Few.{pairs_256}

-- what there is of an optional x, if the test that made it says t
pub kept_when : {o : Option ℕ} (b t : Bool) (x : ℕ) → o ≡ then_some b x → b ≡ t → cats.kept o ≡ pick t x
kept_when b t x e f = ap cats.kept e ∙ ap (λ (s : Bool). pick s x) f

pub pick_short : (t : Bool) (x : ℕ) → length (pick t x) ≤ 1
pick_short true x = omega arith
pick_short false x = omega arith

-- ---- one row
module _ (h : ℕ → Bool) where
  pub kept_next : (n : ℕ) → kept h (n + 1) ≡ kept h n ++ pick (h n) n
  unfolding kept
  kept_next n = cat_next n (λ k. pick (h k) k)

  pub kept_long : (n : ℕ) → length (kept h n) ≡ sum n (λ k. one (h k))
  unfolding kept
  kept_long n = length_cat n (λ k. pick (h k) k) ∙ sum_ext n (λ k. length (pick (h k) k)) (λ k. one (h k)) (λ k l. length_pick (h k) k)

  pub kept_short : (n : ℕ) → length (kept h n) ≤ n
  unfolding kept cat
  kept_short zero = omega arith
  kept_short (suc n) = omega (arith, kept_short n, length-append (kept h n) (pick (h n) n), pick_short (h n) n)

  pub kept_none : (n e : ℕ) → n ≤ e → has (kept h n) e ≡ false
  unfolding kept cat has
  kept_none zero e l = refl
  kept_none (suc n) e l = has_append (kept h n) (pick (h n) n) e ∙ ap₂ ◌||◌ (kept_none n e (omega arith)) (has_other (h n) n e (λ q. omega arith))

  pub kept_has : (n e : ℕ) → e < n → has (kept h n) e ≡ h e
  unfolding kept cat
  kept_has zero e l = absurd (omega arith)
  kept_has (suc n) e l = go (ℕ_discrete e n) (kept_has n e)
    where
      go : Dec (e ≡ n) → (e < n → has (kept h n) e ≡ h e) → has (kept h n ++ pick (h n) n) e ≡ h e
      go (yes q) ih = rw q (has_append (kept h n) (pick (h n) n) n ∙ ap₂ ◌||◌ (kept_none n n (omega arith)) (has_self (h n) n))
      go (no q) ih = has_append (kept h n) (pick (h n) n) e ∙ ap₂ ◌||◌ (ih (omega arith)) (has_other (h n) n e q) ∙ or_nil (h e)

  -- an entry stands after those below it
  pub kept_find : (n e : ℕ) → e < n → h e ≡ true → find e (kept h n) ≡ sum e (λ k. one (h k))
  unfolding kept cat
  kept_find zero e l q = absurd (omega arith)
  kept_find (suc n) e l q = go (ℕ_discrete e n) (kept_find n e)
    where
      go : Dec (e ≡ n) → (e < n → h e ≡ true → find e (kept h n) ≡ sum e (λ k. one (h k))) → find e (kept h n ++ pick (h n) n) ≡ sum e (λ k. one (h k))
      go (yes r) ih = rw r (find_out (kept h n) (pick (h n) n) n (kept_none n n (omega arith)) ∙ omega (arith, find_one (h n) n (ap h (sym r) ∙ q), kept_long n))
      go (no r) ih = find_in (kept h n) (pick (h n) n) e (kept_has n e (omega arith) ∙ q) ∙ ih (omega arith) q

  pub kept_below : (n : ℕ) → Below n (kept h n)
  unfolding kept cat
  kept_below zero = tt
  kept_below (suc n) = below_join (suc n) (kept h n) (pick (h n) n) (below_more n (suc n) (kept h n) (omega arith) (kept_below n)) (below_pick (h n) n)

  pub kept_in : (n b : ℕ) → n ≤ b → Below b (kept h n)
  kept_in n b l = below_more n b (kept h n) l (kept_below n)

  pub kept_rising : (n : ℕ) → Rising (kept h n)
  unfolding kept cat
  kept_rising zero = tt
  kept_rising (suc n) = go (h n) (kept_rising n)
    where
      go : (t : Bool) → Rising (kept h n) → Rising (kept h n ++ pick t n)
      go true ih = rising_snoc (kept h n) n ih (kept_below n)
      go false ih = subst Rising (sym (append-nil (kept h n))) ih

-- ---- writing a row
pub row_start : (h : ℕ → Bool) (a : List ℕ) (start : ℕ) → Wrote a a start (kept h 0) start
unfolding kept cat
row_start h a start = record { is = refl; next = omega arith }

pub row_next : (h : ℕ → Bool) {a b c : List ℕ} {start at r : ℕ} {x : List ℕ} (k n : ℕ) → n ≡ k + 1 → x ≡ pick (h k) k → Wrote a b start (kept h k) at → Wrote b c at x r → Wrote a c start (kept h n) r
row_next h k n z e p q = rw z (same_text (ap (λ (y : List ℕ). kept h k ++ y) e ∙ sym (kept_next h k)) (then_written p q))

-- ---- all rows
module _ (h : ℕ → ℕ → Bool) where
  pub all_next : (i : ℕ) → kept_rows h (i + 1) ≡ kept_rows h i ++ kept (h i) (i + 1)
  unfolding kept_rows
  all_next i = cat_next i (λ a. kept (h a) (a + 1))

  pub all_short : (i : ℕ) → length (kept_rows h i) ≤ sum i suc
  unfolding kept_rows cat sum
  all_short zero = omega arith
  all_short (suc i) = omega (arith, all_short i, length-append (kept_rows h i) (kept (h i) (i + 1)), kept_short (h i) (i + 1))

  ends_next : (i : ℕ) → row_ends h (i + 1) ≡ row_ends h i ++ (length (kept_rows h (i + 1)) ∷ [])
  unfolding row_ends
  ends_next i = cat_next i (λ a. length (kept_rows h (a + 1)) ∷ [])

  -- the rows before i are written, and their offsets stored
  pub record Listing (lp₀ li₀ lindices lindptr : List ℕ) (at i : ℕ) : Type 0 where
    pub wrote : Wrote li₀ lindices 0 (kept_rows h i) at
    pub ends : Wrote lp₀ lindptr 1 (row_ends h i) (i + 1)
    pub starts : (k : ℕ) → k ≤ i → get_or lindptr k 0 ≡ length (kept_rows h k)

  pub listing_start : (lindices lindptr lp' : List ℕ) → 0 < length lindptr → lp' ≡ set lindptr 0 0 → Listing lp' lindices lindices lp' 0 0
  unfolding kept_rows row_ends cat
  listing_start lindices lindptr lp' l e = record {
    wrote = record { is = refl; next = refl };
    ends = record { is = refl; next = refl };
    starts = λ k b. let z : k ≡ 0 = omega arith in ap₂ (λ (x : List ℕ) (y : ℕ). get_or x y 0) e z ∙ get_or-set_same lindptr 0 0 0 l ∙ ap (λ (y : ℕ). length (kept_rows h y)) (sym z);
  }

  module _ {lp₀ li₀ lindices lindptr : List ℕ} {at i : ℕ} (v : Listing lp₀ li₀ lindices lindptr at i) where
    pub listing_room : (l m : ℕ) → i < m → sum m suc ≤ l → at + i + 1 ≤ l
    listing_room l m b r = omega (arith, v.wrote.next, all_short i, sum_room m i suc b)

    pub listing_small : i ≤ 256 → at ≤ 32896
    listing_small b = omega (arith, v.wrote.next, all_short i, sum_more i 256 suc b, pairs_256)

    pub listing_next : {li' lp' : List ℕ} {r : ℕ} → i + 1 < length lindptr → Wrote lindices li' at (kept (h i) (i + 1)) r → lp' ≡ set lindptr (i + 1) r → Listing lp₀ li₀ li' lp' r (i + 1)
    listing_next {li'} {lp'} {r} l w e = record {
      wrote = u;
      ends =
          wrote_as lp₀ lp' 1 (i + 1 + 1) _ _ (ap (λ (y : ℕ). row_ends h i ++ (y ∷ [])) (u.next ∙ omega arith) ∙ sym (ends_next i))
          (wrote_join lp₀ lindptr lp' 1 (i + 1) (i + 1 + 1) _ _ v.ends (record { is = e; next = refl }));
      starts = λ k b. ap (λ (y : List ℕ). get_or y k 0) e ∙ go k b (ℕ_discrete k (i + 1));
    }
      where
        u : Wrote li₀ li' 0 (kept_rows h (i + 1)) r
        u = wrote_as li₀ li' 0 r _ _ (sym (all_next i)) (wrote_join li₀ lindices li' 0 at r _ _ v.wrote w)

        go : (k : ℕ) → k ≤ i + 1 → Dec (k ≡ i + 1) → get_or (set lindptr (i + 1) r) k 0 ≡ length (kept_rows h k)
        go k b (yes z) = ap (λ (y : ℕ). get_or (set lindptr (i + 1) r) y 0) z ∙ get_or-set_same lindptr (i + 1) r 0 l ∙ omega (arith, u.next) ∙ ap (λ (y : ℕ). length (kept_rows h y)) (sym z)
        go k b (no z) = get_or-set_other lindptr (i + 1) k r 0 z ∙ v.starts k (omega arith)

    pub listing_end : (m : ℕ) → i ≡ m → m ≤ 256 → m < length lindptr → sum m suc ≤ length li₀ → length lindices ≡ length li₀ → length lindices ≤ 65536 → Rows h lindptr lindices m
    unfolding row kept_rows
    listing_end m e b l r len few = record {
      offsets = l;
      few = b;
      starts = λ k q. v.starts k (omega arith);
      rows = rows;
      fits = omega (arith, v.starts m (omega arith), all_short m);
      short = few;
    }
      where
        whole : lindices ≡ kept_rows h m ++ drop (0 + length (kept_rows h m)) li₀
        whole =
            v.wrote.is ∙ ap (λ (k : ℕ). sets li₀ 0 (kept_rows h k)) e
            ∙ sets-eq (kept_rows h m) li₀ 0 (omega (arith, all_short m))

        rows : (k : ℕ) → k < m → row lindptr lindices k ≡ kept (h k) (k + 1)
        rows k q =
            let after = cat (m - suc k) (λ a. kept (h (suc k + a)) (suc k + a + 1)) in
            let tail : List ℕ = drop (0 + length (kept_rows h m)) li₀ in
            ap₂ (λ (x y : ℕ). take (x - y) (drop y lindices)) (v.starts (k + 1) (omega arith)) (v.starts k (omega arith))
            ∙ ap (cut (length (kept_rows h k)) (length (kept_rows h (k + 1))))
            (whole ∙ ap (λ (x : List ℕ). x ++ tail) (cat_split m k (λ a. kept (h a) (a + 1)) q) ∙ append_assoc (kept_rows h k) (kept (h k) (k + 1) ++ after) tail ∙ ap (λ (x : List ℕ). kept_rows h k ++ x) (append_assoc (kept (h k) (k + 1)) after tail))
            ∙ cut_part (kept_rows h k) (kept (h k) (k + 1)) (after ++ tail) (length (kept_rows h k)) (length (kept_rows h (k + 1))) refl (ap length (all_next k) ∙ length-append (kept_rows h k) (kept (h k) (k + 1)))

-- ---- the lists are a grid
module _ (h : ℕ → ℕ → Bool) (lindptr lindices : List ℕ) (m : ℕ) (v : Rows h lindptr lindices m) where
  pub rows_up : (i : ℕ) → i < m → get_or lindptr (i + 1) 0 ≡ get_or lindptr i 0 + length (kept (h i) (i + 1))
  rows_up i l = omega (arith, v.starts (i + 1) (omega arith), v.starts i (omega arith), ap length (all_next h i), length-append (kept_rows h i) (kept (h i) (i + 1)))

  up_to : (i k : ℕ) → i + k ≤ m → get_or lindptr i 0 ≤ get_or lindptr (i + k) 0
  up_to i zero l = let e : i + 0 ≡ i = omega arith in omega (arith, ap (λ (x : ℕ). get_or lindptr x 0) e)
  up_to i (suc k) l = let e : i + suc k ≡ i + k + 1 = omega arith in omega (arith, ap (λ (x : ℕ). get_or lindptr x 0) e, up_to i k (omega arith), rows_up (i + k) (omega arith))

  pub rows_fit : (i : ℕ) → i ≤ m → get_or lindptr i 0 ≤ length lindices
  rows_fit i l = let e : i + (m - i) ≡ m = omega arith in omega (arith, up_to i (m - i) (omega arith), ap (λ (x : ℕ). get_or lindptr x 0) e, v.fits)

  pub rows_grid : Grid lindptr lindices m m
  rows_grid = record {
    csr = record {
      offsets = v.offsets;
      few = v.few;
      order = λ i l. omega (arith, rows_up i l);
      ends = rows_fit;
      rising = λ i l. subst Rising (sym (v.rows i l)) (kept_rising (h i) (i + 1));
    };
    short = v.short;
    wide = omega (arith, v.few);
    within = λ i l. subst (Below m) (sym (v.rows i l)) (kept_in (h i) (i + 1) m (omega arith));
  }
