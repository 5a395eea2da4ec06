-- Cutting a file into records, and putting it together again. Assumes nothing.
use mathlib.Core.Path.{◌≡◌, refl, sym, ap, ap₂, ◌∙◌}
use mathlib.Core.Bool.{Bool, true, false, cond}
use mathlib.Core.List.{List, [], ◌∷◌, ◌++◌, append_assoc}
use Prim.Native.Nat.{ℕ, zero, suc, ◌+◌, ◌-◌, ◌^◌, ◌<◌, ◌≤◌}
use native.Mathlib.Omega.{arith}
use borrow.Author.Tests.{le-leb, lt-leb, leb-true}
use lib.ListN.{length, take, drop, length-append, length-take, length-drop, take-append-drop}
use lib.Seq.{take_at, drop_at, drop-drop}
use Rattle.base.proofs.Bools.{and_in, and_out}
use Rattle.plan_file.specs.Bytes.{bytes_of, number, Bytes}
use Rattle.plan_file.specs.Records.{head_of, record_of, length_at, kind_at, body_at, rest_at, first_at, starts_whole, Cut, short, also, records_up_to, records_of}
use Rattle.plan_file.proofs.Numbers.{kept, length_bytes, bytes_take, bytes_drop, bytes_are, number_under}

pub length_record : (kind : ℕ) (body : List ℕ) → length (record_of kind body) ≡ 6 + length body
unfolding record_of
length_record kind body =
    length-append (head_of (length body) kind) body
    ∙ omega (arith, length-append (bytes_of 4 (2 + length body)) (bytes_of 2 kind), length_bytes 4 (2 + length body), length_bytes 2 kind)

pub rest_length : (s : List ℕ) → length (rest_at s) ≡ length s - 4 - length_at s
rest_length s = length-drop (length_at s) (drop 4 s) ∙ omega (arith, length-drop 4 s)

-- ---- a record at the start of a file is read as it is

module _ (kind : ℕ) (body rest : List ℕ) where
  splits : record_of kind body ++ rest ≡ bytes_of 4 (2 + length body) ++ (bytes_of 2 kind ++ (body ++ rest))
  unfolding record_of
  splits = simp append_assoc

  drop_four : drop 4 (record_of kind body ++ rest) ≡ bytes_of 2 kind ++ (body ++ rest)
  drop_four = ap (drop 4) splits ∙ drop_at (bytes_of 4 (2 + length body)) (bytes_of 2 kind ++ (body ++ rest)) 4 (length_bytes 4 (2 + length body))

  drop_six : drop 6 (record_of kind body ++ rest) ≡ body ++ rest
  drop_six =
      sym (drop-drop 2 4 (record_of kind body ++ rest)) ∙ ap (drop 2) drop_four
      ∙ drop_at (bytes_of 2 kind) (body ++ rest) 2 (length_bytes 2 kind)

  module _ (small : kind < 2 ^ 16) (fits : 2 + length body < 2 ^ 32) where
    pub length_at_lem : length_at (record_of kind body ++ rest) ≡ 2 + length body
    length_at_lem =
        ap (λ (s : List ℕ). number (take 4 s)) splits
        ∙ ap number (take_at (bytes_of 4 (2 + length body)) (bytes_of 2 kind ++ (body ++ rest)) 4 (length_bytes 4 (2 + length body)))
        ∙ kept 4 (2 + length body) fits

    pub kind_at_lem : kind_at (record_of kind body ++ rest) ≡ kind
    kind_at_lem =
        ap (λ (s : List ℕ). number (take 2 s)) drop_four
        ∙ ap number (take_at (bytes_of 2 kind) (body ++ rest) 2 (length_bytes 2 kind))
        ∙ kept 2 kind small

    pub body_at_lem : body_at (record_of kind body ++ rest) ≡ body
    body_at_lem =
        ap₂ (λ (n : ℕ) (s : List ℕ). take (n - 2) s) length_at_lem drop_six
        ∙ take_at body rest (2 + length body - 2) (omega arith)

    pub rest_at_lem : rest_at (record_of kind body ++ rest) ≡ rest
    rest_at_lem =
        ap₂ (λ (n : ℕ) (s : List ℕ). drop n s) length_at_lem drop_four
        ∙ ap (λ (s : List ℕ). drop (2 + length body) s) (sym (append_assoc (bytes_of 2 kind) body rest))
        ∙ drop_at (bytes_of 2 kind ++ body) rest (2 + length body) (length-append (bytes_of 2 kind) body ∙ omega (arith, length_bytes 2 kind))

    pub starts : starts_whole (record_of kind body ++ rest) ≡ true
    unfolding starts_whole
    starts =
        let n = length-append (record_of kind body) rest in
        let l = length_record kind body in
        let e = length_at_lem in
        let a : 4 ≤ length (record_of kind body ++ rest) = omega (arith, n, l) in
        let b : length_at (record_of kind body ++ rest) ≤ length (record_of kind body ++ rest) - 4 = omega (arith, n, l, e) in
        let c : 2 ≤ length_at (record_of kind body ++ rest) = omega (arith, e) in
        and_in _ _ (le-leb _ _ a) (and_in _ _ (le-leb _ _ b) (le-leb _ _ c))

-- ---- a file cut at its first record

pub cut_first : (fuel : ℕ) (s : List ℕ) → 0 < length s
    → records_up_to (suc fuel) s ≡ cond (starts_whole s) (also (first_at s) (records_up_to fuel (rest_at s))) short
unfolding records_up_to
cut_first fuel [] h = absurd (omega arith)
cut_first fuel (b ∷ s) h = refl

pub cut_record : (fuel kind : ℕ) (body rest : List ℕ) → kind < 2 ^ 16 → 2 + length body < 2 ^ 32
    → records_up_to (suc fuel) (record_of kind body ++ rest) ≡ also (record { kind = kind; body = body }) (records_up_to fuel rest)
cut_record fuel kind body rest small fits =
    cut_first fuel (record_of kind body ++ rest) (omega (arith, length-append (record_of kind body) rest, length_record kind body))
    ∙ ap (λ (t : Bool). cond t (also (first_at (record_of kind body ++ rest)) (records_up_to fuel (rest_at (record_of kind body ++ rest)))) short) (starts kind body rest small fits)
    ∙ ap (λ (r : List ℕ). also (first_at (record_of kind body ++ rest)) (records_up_to fuel r)) (rest_at_lem kind body rest small fits)
    ∙ ap₂ (λ (k : ℕ) (b : List ℕ). also (record { kind = k; body = b }) (records_up_to fuel rest)) (kind_at_lem kind body rest small fits) (body_at_lem kind body rest small fits)

-- a file has no more records than bytes
pub more_fuel : (f g : ℕ) (s : List ℕ) → length s ≤ f → length s ≤ g → records_up_to f s ≡ records_up_to g s
unfolding records_up_to
more_fuel zero zero s p q = refl
more_fuel zero (suc g) [] p q = refl
more_fuel zero (suc g) (b ∷ s) p q = absurd (omega arith)
more_fuel (suc f) zero [] p q = refl
more_fuel (suc f) zero (b ∷ s) p q = absurd (omega arith)
more_fuel (suc f) (suc g) [] p q = refl
more_fuel (suc f) (suc g) (b ∷ s) p q =
    let l = rest_length (b ∷ s) in
    ap (λ (c : Cut). cond (starts_whole (b ∷ s)) (also (first_at (b ∷ s)) c) short)
    (more_fuel f g (rest_at (b ∷ s)) (omega (arith, l)) (omega (arith, l)))

fewer : (n : ℕ) (s : List ℕ) → n ≡ length s → 0 < length s → (k : ℕ) × (length s ≡ suc k)
fewer zero s e h = absurd (omega arith)
fewer (suc n) s e h = (n, sym e)

-- a file is its first record, if that is whole, and then the rest
pub records_first : (s : List ℕ) → 0 < length s → records_of s ≡ cond (starts_whole s) (also (first_at s) (records_of (rest_at s))) short
records_first s h =
    let f = fewer (length s) s refl h in
    ap (λ (n : ℕ). records_up_to n s) f.1
    ∙ cut_first f.0 s h
    ∙ ap (λ (c : Cut). cond (starts_whole s) (also (first_at s) c) short)
    (more_fuel f.0 (length (rest_at s)) (rest_at s) (omega (arith, f.1, rest_length s)) (omega arith))

-- ---- a record that is not there

pub no_length : (s : List ℕ) → length s < 4 → starts_whole s ≡ false
unfolding starts_whole
no_length s h = rw (lt-leb 4 (length s) h)

pub no_room : (s : List ℕ) → 4 ≤ length s → length s - 4 < length_at s → starts_whole s ≡ false
unfolding starts_whole
no_room s h l = rw (le-leb 4 (length s) h, lt-leb (length_at s) (length s - 4) l)

-- ---- a whole record at the start of a file is written as it was

pub record Starts (s : List ℕ) : Type 0 where
  pub room : length_at s ≤ length s - 4
  pub long : 4 ≤ length s
  pub kinded : 2 ≤ length_at s

pub starts_out : (s : List ℕ) → starts_whole s ≡ true → Starts s
unfolding starts_whole
starts_out s e =
    let a = and_out _ _ e in
    let b = and_out _ _ a.1 in
    record { room = leb-true _ _ b.0; long = leb-true _ _ a.0; kinded = leb-true _ _ b.1 }

pub body_length : (s : List ℕ) → Starts s → length (body_at s) ≡ length_at s - 2
body_length s w = length-take (length_at s - 2) (drop 6 s) ∙ omega (arith, length-drop 6 s, w.room, w.long, w.kinded)

module _ (s : List ℕ) (h : Bytes s) (w : Starts s) where
  pub length_below : length_at s < 2 ^ 32
  length_below = number_under 4 (take 4 s) (bytes_take 4 s h) (length-take 4 s ∙ omega (arith, w.long))

  pub body_fits : 2 + length (body_at s) < 2 ^ 32
  body_fits = omega (arith, body_length s w, length_below, w.kinded)

  kind_long : length (take 2 (drop 4 s)) ≡ 2
  kind_long = length-take 2 (drop 4 s) ∙ omega (arith, length-drop 4 s, w.room, w.long, w.kinded)

  pub kind_small : kind_at s < 2 ^ 16
  kind_small = number_under 2 (take 2 (drop 4 s)) (bytes_take 2 (drop 4 s) (bytes_drop 4 s h)) kind_long

  pub together : s ≡ record_of (kind_at s) (body_at s) ++ rest_at s
  together =
      sym (take-append-drop 4 s)
      ∙ ap₂ ◌++◌ head tail
      ∙ sym (splits (kind_at s) (body_at s) (rest_at s))
    where
      head : take 4 s ≡ bytes_of 4 (2 + length (body_at s))
      head =
          sym (bytes_are 4 (take 4 s) (bytes_take 4 s h) (length-take 4 s ∙ omega (arith, w.long)))
          ∙ ap (bytes_of 4) (omega (arith, body_length s w, w.kinded))

      sums : 6 + (length_at s - 2) ≡ 4 + length_at s
      sums = omega (arith, w.kinded)

      after : drop 2 (drop 4 s) ≡ body_at s ++ rest_at s
      after =
          drop-drop 2 4 s ∙ sym (take-append-drop (length_at s - 2) (drop 6 s))
          ∙ ap (λ (r : List ℕ). body_at s ++ r)
          (drop-drop (length_at s - 2) 6 s ∙ ap (λ (n : ℕ). drop n s) sums ∙ sym (drop-drop (length_at s) 4 s))

      tail : drop 4 s ≡ bytes_of 2 (kind_at s) ++ (body_at s ++ rest_at s)
      tail =
          sym (take-append-drop 2 (drop 4 s))
          ∙ ap₂ ◌++◌ (sym (bytes_are 2 (take 2 (drop 4 s)) (bytes_take 2 (drop 4 s) (bytes_drop 4 s h)) kind_long)) after

  pub bytes_body : Bytes (body_at s)
  bytes_body = bytes_take (length_at s - 2) (drop 6 s) (bytes_drop 6 s h)

  pub bytes_rest : Bytes (rest_at s)
  bytes_rest = bytes_drop (length_at s) (drop 4 s) (bytes_drop 4 s h)
