-- WHICH FILES GET A YES AT 14 TO 16, and the lists that they give. Assumes nothing.
use mathlib.Core.Path.{◌≡◌, refl, sym, ap, ap₂, ◌∙◌, subst}
use mathlib.Core.Logic.{◌↔◌}
use mathlib.Core.Bool.{Bool, true, false, cond, false≢true}
use mathlib.Core.List.{List, [], ◌∷◌, ◌++◌}
use Prim.Native.Nat.{ℕ, zero, suc, ◌+◌, ◌-◌, ◌^◌, ◌<◌, ◌≤◌}
use native.Mathlib.Omega.{arith}
use borrow.Author.Tests.{eq-eqb, eqb-true}
use lib.Dec.{eqb}
use lib.ListN.{length, length-append}
use Rattle.base.proofs.Bools.{and_in, and_out}
use Rattle.csr.specs.Verdict.{Verdict, passed, refused, ask}
use Rattle.plan_file.specs.Bytes.{Bytes, words}
use Rattle.plan_file.specs.Records.{Entry, record_of, kind_at, body_at, rest_at, first_at, starts_whole, Cut, short, whole, also, records_up_to, records_of}
use Rattle.plan_file.specs.declared.Meaning.{Meaning}
use Rattle.plan_file.specs.declared.Meaning.TheVariants.{Listed, Note, Neither}
use Rattle.plan_file.specs.Tables.{Table}
use Rattle.plan_file.specs.Verdicts.{whole_body, whole_bodies, is_next, after, in_order, same, is_matrixs, are_matrixs, asked, file_verdict, Around, ended, noted, held, Filed, Sound, Fitting, given, given_by, given_cut, lists_in, lists_from}
use Rattle.plan_file.proofs.Numbers.{length_words, numbers_in_words, words_in_numbers, whole_words}
use Rattle.plan_file.proofs.Parse.{length_record, cut_record, Starts, starts_out, body_fits, kind_small, together, bytes_body, bytes_rest}

-- ---- lists compared

pub same_out : (xs ys : List ℕ) → same xs ys ≡ true → xs ≡ ys
unfolding same
same_out [] [] e = refl
same_out [] (y ∷ ys) e = absurd (false≢true e)
same_out (x ∷ xs) [] e = absurd (false≢true e)
same_out (x ∷ xs) (y ∷ ys) e =
    let b = and_out (eqb x y) (same xs ys) e in
    ap₂ ◌∷◌ (eqb-true x y b.0) (same_out xs ys b.1)

pub same_in : (xs : List ℕ) → same xs xs ≡ true
unfolding same
same_in [] = refl
same_in (x ∷ xs) = and_in (eqb x x) (same xs xs) (eq-eqb x x refl) (same_in xs)

-- ---- a yes, record by record

module _ (t : Table) (lists : ℕ → List ℕ) where
  -- what the three questions ask of one record, where list `next` is the next
  pub record Head (m : Meaning) (body : List ℕ) (next : ℕ) : Type 0 where
    pub whole14 : whole_body m (length body) ≡ true
    pub next15 : is_next m next ≡ true
    pub same16 : is_matrixs lists m body ≡ true

  pub record Asks (rs : List Entry) (next : ℕ) : Type 0 where
    pub all14 : whole_bodies t rs ≡ true
    pub all15 : in_order t next rs ≡ true
    pub all16 : are_matrixs t lists rs ≡ true

  abbrev pub Yes : Cut → ℕ → Type 0
  Yes short next = ⊥
  Yes (whole rs) next = Asks rs next

  yes_in : (r : Entry) (c : Cut) (next : ℕ) → Head (t r.kind) r.body next → Yes c (after (t r.kind) next) → Yes (also r c) next
  unfolding whole_bodies in_order are_matrixs
  yes_in r short next h y = y
  yes_in r (whole rs) next h y = record {
    all14 = and_in _ _ h.whole14 y.all14;
    all15 = and_in _ _ h.next15 y.all15;
    all16 = and_in _ _ h.same16 y.all16;
  }

  yes_out : (r : Entry) (c : Cut) (next : ℕ) → Yes (also r c) next → Head (t r.kind) r.body next × Yes c (after (t r.kind) next)
  unfolding whole_bodies in_order are_matrixs
  yes_out r short next y = absurd y
  yes_out r (whole rs) next y =
      let a = and_out (whole_body (t r.kind) (length r.body)) (whole_bodies t rs) y.all14 in
      let b = and_out (is_next (t r.kind) next) (in_order t (after (t r.kind) next) rs) y.all15 in
      let c = and_out (is_matrixs lists (t r.kind) r.body) (are_matrixs t lists rs) y.all16 in
      (record { whole14 = a.0; next15 = b.0; same16 = c.0 }, record { all14 = a.1; all15 = b.1; all16 = c.1 })

  -- the verdict is a yes exactly when all three are
  never : (q : ℕ) → refused q 0 0 ≡ passed → ⊥
  never q e = let z : ◌≡◌ {A = ℕ} 0 1 = cc in omega arith

  ask_out : (b : Bool) (v : Verdict) (q : ℕ) → ask b v (refused q 0 0) ≡ passed → (b ≡ true) × (v ≡ passed)
  ask_out true v q e = (refl, e)
  ask_out false v q e = absurd (never q e)

  asked_out : (c : Cut) → asked t lists c ≡ passed → Yes c 1
  asked_out short e = never 14 e
  asked_out (whole rs) e =
      let a = ask_out (whole_bodies t rs) _ 14 e in
      let b = ask_out (in_order t 1 rs) _ 15 a.1 in
      let c = ask_out (are_matrixs t lists rs) _ 16 b.1 in
      record { all14 = a.0; all15 = b.0; all16 = c.0 }

  asked_in : (c : Cut) → Yes c 1 → asked t lists c ≡ passed
  asked_in short y = absurd y
  asked_in (whole rs) y = rw (y.all14, y.all15, y.all16)

  -- ---- a file with the records gets a yes

  cut_none : (fuel next : ℕ) → next ≡ 17 → Yes (records_up_to fuel []) next
  unfolding records_up_to whole_bodies in_order are_matrixs
  cut_none zero next e = record { all14 = refl; all15 = eq-eqb next 17 e; all16 = refl }
  cut_none (suc fuel) next e = record { all14 = refl; all15 = eq-eqb next 17 e; all16 = refl }

  -- one record more
  cut_one : (fuel next kind : ℕ) (body rest : List ℕ) → kind < 2 ^ 16 → 2 + length body < 2 ^ 32 → Head (t kind) body next
      → length (record_of kind body ++ rest) ≤ fuel → ((f : ℕ) → length rest ≤ f → Yes (records_up_to f rest) (after (t kind) next))
      → Yes (records_up_to fuel (record_of kind body ++ rest)) next
  cut_one zero next kind body rest small fits h l ih = absurd (omega (arith, length-append (record_of kind body) rest, length_record kind body))
  cut_one (suc fuel) next kind body rest small fits h l ih =
      subst (λ (c : Cut). Yes c next) (sym (cut_record fuel kind body rest small fits))
      (yes_in (record { kind = kind; body = body }) (records_up_to fuel rest) next h
      (ih fuel (omega (arith, length-append (record_of kind body) rest, length_record kind body))))

  module _ (sound : Sound t) where
    module _ (fitting : Fitting t lists) where
      around_yes : {next : ℕ} {s : List ℕ} → Around t lists next s → (fuel : ℕ) → length s ≤ fuel → Yes (records_up_to fuel s) next
      around_yes ended fuel l = cut_none fuel 17 refl
      around_yes (noted {next = next} {file = s} kind body high small fits a) fuel l =
          let e = sound.notes kind high in
          cut_one fuel next kind body s small fits (rw e (record { whole14 = refl; next15 = refl; same16 = refl })) l
          (λ f m. rw e (around_yes a f m))
      around_yes (held {next = next} {file = s} kind w e a) fuel l =
          cut_one fuel next kind (words w (lists next)) s (sound.small kind next w e)
          (omega (arith, fitting.size kind next w e, length_words w (lists next)))
          (rw e (record {
            whole14 = eq-eqb _ 0 (whole_words w (lists next));
            next15 = eq-eqb next next refl;
            same16 = rw (numbers_in_words w (lists next) (sound.wide kind next w e) (fitting.below kind next w e)) (same_in (lists next));
          }))
          l
          (λ f m. rw e (around_yes a f m))

      pub filed_passes : (file : List ℕ) → Filed t lists file → file_verdict t lists file ≡ passed
      unfolding file_verdict
      filed_passes file p = asked_in (records_of file) (around_yes p (length file) (omega arith))

    -- ---- and only such a file does

    place : (s : List ℕ) (next : ℕ) (m : Meaning) → Bytes s → Starts s → t (kind_at s) ≡ m → Head m (body_at s) next
        → Around t lists (after m next) (rest_at s) → Around t lists next (record_of (kind_at s) (body_at s) ++ rest_at s)
    place s next (Listed k w) b st e h a =
        let q : k ≡ next = eqb-true k next h.next15 in
        let is : body_at s ≡ words w (lists next) =
        sym (words_in_numbers w (body_at s) (bytes_body s b st) (eqb-true _ 0 h.whole14))
        ∙ ap (words w) (same_out _ _ h.same16 ∙ ap lists q) in
        subst (λ (body : List ℕ). Around t lists next (record_of (kind_at s) body ++ rest_at s)) (sym is)
        (held (kind_at s) w (e ∙ ap (λ (n : ℕ). Listed n w) q) a)
    place s next Note b st e h a = noted (kind_at s) (body_at s) (sound.only (kind_at s) e) (kind_small s b st) (body_fits s b st) a
    place s next Neither b st e h a = absurd (false≢true h.next15)

    yes_around : (fuel : ℕ) (s : List ℕ) (next : ℕ) → Bytes s → Yes (records_up_to fuel s) next → Around t lists next s
    unfolding records_up_to in_order
    yes_around zero [] next b y = subst (λ (n : ℕ). Around t lists n []) (sym (eqb-true next 17 y.all15)) ended
    yes_around zero (x ∷ s) next b y = absurd y
    yes_around (suc fuel) [] next b y = subst (λ (n : ℕ). Around t lists n []) (sym (eqb-true next 17 y.all15)) ended
    yes_around (suc fuel) (x ∷ s) next b y = go (starts_whole (x ∷ s)) refl y (yes_around fuel (rest_at (x ∷ s)) (after (t (kind_at (x ∷ s))) next))
      where
        go : (w : Bool) → starts_whole (x ∷ s) ≡ w → Yes (cond w (also (first_at (x ∷ s)) (records_up_to fuel (rest_at (x ∷ s)))) short) next
            → (Bytes (rest_at (x ∷ s)) → Yes (records_up_to fuel (rest_at (x ∷ s))) (after (t (kind_at (x ∷ s))) next) → Around t lists (after (t (kind_at (x ∷ s))) next) (rest_at (x ∷ s)))
            → Around t lists next (x ∷ s)
        go false e y ih = absurd y
        go true e y ih =
            let st = starts_out (x ∷ s) e in
            let o = yes_out (first_at (x ∷ s)) (records_up_to fuel (rest_at (x ∷ s))) next y in
            subst (Around t lists next) (sym (together (x ∷ s) b st))
            (place (x ∷ s) next (t (kind_at (x ∷ s))) b st refl o.0 (ih (bytes_rest (x ∷ s) b st) o.1))

    pub passes_filed : (file : List ℕ) → Bytes file → file_verdict t lists file ≡ passed → Filed t lists file
    unfolding file_verdict
    passes_filed file b e = yes_around (length file) file 1 b (asked_out (records_of file) e)

    -- A FILE GETS A YES EXACTLY WHEN IT IS THE MATRIX'S RECORDS IN ORDER, with whole notes around them
    pub passes_iff : (file : List ℕ) → Bytes file → Fitting t lists → Filed t lists file ↔ (file_verdict t lists file ≡ passed)
    passes_iff file b fitting = (filed_passes fitting file, passes_filed file b)

  -- ---- NO FILE GIVES OTHER LISTS

  pub record Gives (more : List (List ℕ)) (next : ℕ) : Type 0 where
    pub within : next ≤ 17
    pub are : more ≡ lists_from lists next (17 - next)

  gives_one : (m : Meaning) (body : List ℕ) (next : ℕ) (more : List (List ℕ)) → Head m body next → Gives more (after m next) → Gives (given m body more) next
  unfolding lists_from
  gives_one (Listed k w) body next more h g =
      let q : k ≡ next = eqb-true k next h.next15 in
      let n : 17 - next ≡ suc (17 - suc next) = omega (arith, g.within) in
      record {
        within = omega (arith, g.within);
        are = ap₂ ◌∷◌ (same_out _ _ h.same16 ∙ ap lists q) g.are ∙ sym (ap (lists_from lists next) n);
      }
  gives_one Note body next more h g = g
  gives_one Neither body next more h g = absurd (false≢true h.next15)

  gives : (rs : List Entry) (next : ℕ) → Asks rs next → Gives (given_by t rs) next
  unfolding in_order given_by lists_from
  gives [] next y =
      let e : next ≡ 17 = eqb-true next 17 y.all15 in
      let z : 17 - next ≡ 0 = omega arith in
      record { within = omega arith; are = sym (ap (lists_from lists next) z) }
  gives (r ∷ rs) next y =
      let o = yes_out r (whole rs) next y in
      gives_one (t r.kind) r.body next (given_by t rs) o.0 (gives rs (after (t r.kind) next) o.1)

  pub passes_gives : (file : List ℕ) → file_verdict t lists file ≡ passed → lists_in t file ≡ lists_from lists 1 16
  unfolding file_verdict lists_in
  passes_gives file e = go (records_of file) (asked_out (records_of file) e)
    where
      go : (c : Cut) → Yes c 1 → given_cut t c ≡ lists_from lists 1 16
      go short y = absurd y
      go (whole rs) y = (gives rs 1 y).are
