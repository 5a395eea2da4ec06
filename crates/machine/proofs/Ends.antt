-- `outcome` ends as document 01 says, and a larger limit keeps an acceptance and a no at 11. Assumes nothing.
use mathlib.Core.Path.{◌≡◌, refl, sym, ap, ◌∙◌, subst}
use mathlib.Core.Logic.{◌≢◌}
use mathlib.Core.Bool.{Bool, true, false, cond, not, ◌||◌, true≢false, false≢true}
use Prim.Native.Nat.{ℕ, zero, suc, ◌+◌, ◌≤◌, ◌<◌}
use native.Mathlib.Decide.{dec_lt}
use native.Mathlib.Omega.{arith}
use lib.Dec.{eqb}
use borrow.Author.Tests.{ne_eqb, eq-eqb, eqb-true, lt-ltb, ltb-true}
use Rattle.lanes.specs.Lists.{first}
use Rattle.machine.specs.Machine.{Status, spoilt, done, steps}
use Rattle.machine.specs.Outcome.{Outcome, accepted, no_at11, no_at12, is_spoilt, is_done, lowest_spoilt, lowest_undone, some_spoilt, all_done, outcome, tests_made}
use Rattle.machine.specs.Ends.{AllDone, SpoiltAt, Finished, Ruined, Ends}
use Rattle.lanes.proofs.Lists.{first_le, first_none, first_hit, first_under, first_larger}
use Rattle.base.proofs.Bools.{or_none}

is_spoilt_lem : (t : Status) → is_spoilt t ≡ true → t ≡ spoilt
is_spoilt_lem spoilt e = refl
is_spoilt_lem done e = absurd (false≢true e)
is_spoilt_lem (steps v) e = absurd (false≢true e)

is_done_lem : (t : Status) → not (is_done t) ≡ false → t ≡ done
is_done_lem spoilt e = absurd (true≢false e)
is_done_lem done e = refl
is_done_lem (steps v) e = absurd (true≢false e)

pub both : (t : Status) → t ≡ done → t ≡ spoilt → ⊥
both t d s = let z : ◌≡◌ {A = ℕ} 0 1 = cc in omega arith

or_true : (a b : Bool) → a || b ≡ true → a ≡ false → b ≡ true
or_true true b e f = absurd (true≢false f)
or_true false b e f = e

module _ (K : ℕ) (says : ℕ → ℕ → Status) where
  -- ---- a test that yields a spoilt lane

  pub some_yes : (k : ℕ) → some_spoilt K says k ≡ true
      → SpoiltAt K says k (lowest_spoilt K says k) × ((i : ℕ) → SpoiltAt K says k i → lowest_spoilt K says k ≤ i)
  unfolding some_spoilt lowest_spoilt
  some_yes k e =
      let p : ℕ → Bool = (λ l. is_spoilt (says l k)) in
      let h : first K p < K = ltb-true (first K p) K e in
      ((h, is_spoilt_lem (says (first K p) k) (first_hit p K h)), λ i s. first_under p K i s.0 (ap is_spoilt s.1))

  pub some_no : (k : ℕ) → some_spoilt K says k ≡ false → (l : ℕ) → SpoiltAt K says k l → ⊥
  unfolding some_spoilt lowest_spoilt
  some_no k e l s =
      let p : ℕ → Bool = (λ i. is_spoilt (says i k)) in
      let u : first K p ≤ l = first_under p K l s.0 (ap is_spoilt s.1) in
      true≢false (sym (lt-ltb (first K p) K (omega (arith, u, s.0))) ∙ e)

  -- ---- a test that yields all lanes done

  pub all_yes : (k : ℕ) → all_done K says k ≡ true → AllDone K says k
  unfolding all_done lowest_undone
  all_yes k e l h =
      let p : ℕ → Bool = (λ i. not (is_done (says i k))) in
      let z : first K p ≡ K = eqb-true (first K p) K e in
      is_done_lem (says l k) (first_none p K l (omega arith))

  pub all_no : (k : ℕ) → all_done K says k ≡ false → AllDone K says k → ⊥
  unfolding all_done lowest_undone
  all_no k e a = go (dec_lt (first K p) K)
    where
      p : ℕ → Bool
      p i = not (is_done (says i k))

      go : Dec (first K p < K) → ⊥
      go (yes h) = true≢false (sym (first_hit p K h) ∙ ap (λ (t : Status). not (is_done t)) (a (first K p) h))
      go (no h) = true≢false (sym (eq-eqb (first K p) K (omega (arith, first_le p K))) ∙ e)

  -- ---- the first test that stops

  stops : ℕ → Bool
  stops i = some_spoilt K says (i + 1) || all_done K says (i + 1)

  -- the test after j stops it, where t says that j is the limit
  abbrev ended : ℕ → ℕ → Bool → Outcome
  ended N j t = cond t (no_at12 N) (cond (some_spoilt K says (j + 1)) (no_at11 (j + 1) (lowest_spoilt K says (j + 1))) (accepted (j + 1)))

  outcome_is : (N : ℕ) (t : Bool) → eqb (first N stops) N ≡ t → outcome K says N ≡ ended N (first N stops) t
  unfolding outcome stops
  outcome_is N t e = ap (ended N (first N stops)) e

  -- test k is not before the one that stops: neither was found
  quiet : (N j : ℕ) → 1 ≤ j → j < first N stops + 1 → ((l : ℕ) → SpoiltAt K says j l → ⊥) × (AllDone K says j → ⊥)
  unfolding stops
  quiet N zero h l = absurd (omega arith)
  quiet N (suc i) h l =
      let e : stops i ≡ false = first_none stops N i (omega arith) in
      let s = or_none (some_spoilt K says (i + 1)) (all_done K says (i + 1)) e in
      let z : i + 1 ≡ suc i = omega arith in
      (some_no (suc i) (subst (λ (k : ℕ). some_spoilt K says k ≡ false) z s.0), all_no (suc i) (subst (λ (k : ℕ). all_done K says k ≡ false) z s.1))

  -- how it ended, with what is known there
  data Found (N : ℕ) (o : Outcome) : Type 0 where
    finished : (k : ℕ) → o ≡ accepted k → Finished K says N k → ((j : ℕ) → 1 ≤ j → j < k → AllDone K says j → ⊥) → Found N o
    ruined : (k l : ℕ) → o ≡ no_at11 k l → Ruined K says N k → SpoiltAt K says k l → ((i : ℕ) → SpoiltAt K says k i → l ≤ i)
        → ((j : ℕ) → 1 ≤ j → j < k → (i : ℕ) → SpoiltAt K says j i → ⊥) → Found N o
    spent : o ≡ no_at12 N → ((j : ℕ) → 1 ≤ j → j ≤ N → (l : ℕ) → SpoiltAt K says j l → ⊥) → ((j : ℕ) → 1 ≤ j → j ≤ N → AllDone K says j → ⊥) → Found N o

  found : (N : ℕ) → Found N (outcome K says N)
  found N = go (dec_lt (first N stops) N)
    where
      j : ℕ
      j = first N stops

      q : (i : ℕ) → 1 ≤ i → i < j + 1 → ((l : ℕ) → SpoiltAt K says i l → ⊥) × (AllDone K says i → ⊥)
      q = quiet N

      here : (t : Bool) → some_spoilt K says (j + 1) ≡ t → j < N → outcome K says N ≡ cond t (no_at11 (j + 1) (lowest_spoilt K says (j + 1))) (accepted (j + 1)) → Found N (outcome K says N)
      here true e h o =
          let s = some_yes (j + 1) e in
          ruined (j + 1) (lowest_spoilt K says (j + 1)) o
          (record { from = omega arith; up_to = omega arith; some = (lowest_spoilt K says (j + 1), s.0); before = λ i a b. (q i a b).1 })
          s.0 s.1 (λ i a b. (q i a b).0)
      here false e h o =
          let a : all_done K says (j + 1) ≡ true = or_true (some_spoilt K says (j + 1)) (all_done K says (j + 1)) (unfold stops in first_hit stops N h) e in
          finished (j + 1) o
          (record { from = omega arith; up_to = omega arith; all = all_yes (j + 1) a; before = λ i a b. (q i a b).0 })
          (λ i a b. (q i a b).1)

      go : Dec (first N stops < N) → Found N (outcome K says N)
      go (yes h) =
          here (some_spoilt K says (j + 1)) refl h
          (outcome_is N false (ne_eqb j N (λ e. omega arith)))
      go (no h) =
          let z : j ≡ N = omega (arith, first_le stops N) in
          spent
          (outcome_is N true (eq-eqb j N z))
          (λ i a b. (q i a (omega arith)).0) (λ i a b. (q i a (omega arith)).1)

  -- one test finishes and another ruins: not so
  clash : (N k j : ℕ) → Finished K says N k → Ruined K says N j → ⊥
  clash N k j f r = go (dec_lt j k) (dec_lt k j)
    where
      go : Dec (j < k) → Dec (k < j) → ⊥
      go (yes h) d = f.before j r.from h r.some.0 r.some.1
      go (no h) (yes l) = r.before k f.from l f.all
      go (no h) (no l) =
          let z : j ≡ k = omega arith in
          let s = r.some in
          both (says s.0 k) (f.all s.0 s.1.0) (subst (λ (t : ℕ). says s.0 t ≡ spoilt) z s.1.1)

  -- an earlier one finishes
  earliest : (N k j : ℕ) → ((i : ℕ) → 1 ≤ i → i < k → AllDone K says i → ⊥) → Finished K says N j → k ≤ j
  earliest N k j h f = go (dec_lt j k)
    where
      go : Dec (j < k) → k ≤ j
      go (yes l) = absurd (h j f.from l f.all)
      go (no l) = omega arith

  earliest_bad : (N k j : ℕ) → ((i : ℕ) → 1 ≤ i → i < k → (l : ℕ) → SpoiltAt K says i l → ⊥) → Ruined K says N j → k ≤ j
  earliest_bad N k j h r = go (dec_lt j k)
    where
      go : Dec (j < k) → k ≤ j
      go (yes l) = absurd (h j r.from l r.some.0 r.some.1)
      go (no l) = omega arith

  apart : (o : Outcome) (k j l : ℕ) → o ≡ accepted k → o ≡ no_at11 j l → ⊥
  apart o k j l p q = let z : ◌≡◌ {A = ℕ} 0 1 = cc in omega arith

  apart_12 : (o : Outcome) (k N : ℕ) → o ≡ accepted k → o ≡ no_at12 N → ⊥
  apart_12 o k N p q = let z : ◌≡◌ {A = ℕ} 0 1 = cc in omega arith

  apart_11 : (o : Outcome) (k l N : ℕ) → o ≡ no_at11 k l → o ≡ no_at12 N → ⊥
  apart_11 o k l N p q = let z : ◌≡◌ {A = ℕ} 0 1 = cc in omega arith

  ends_of : (N : ℕ) (o : Outcome) → Found N o → Ends K says N o
  ends_of N o (finished k e f q) = record {
    accepted_when = (λ _. (k, f), λ _. (k, e));
    reported = λ i p. let z : k ≡ i = cc in (subst (Finished K says N) z f, λ j g. rw (← z) (earliest N k j q g));
    at_11_when = (λ p. absurd (apart o k p.0 p.1 e p.2), λ r. absurd (clash N k r.0 f r.1));
    named = λ i l p. absurd (apart o k i l e p);
    otherwise = (λ n. absurd (n.0 k f), λ p. absurd (apart_12 o k N e p));
  }
  ends_of N o (ruined k l e r s low q) = record {
    accepted_when = (λ p. absurd (apart o p.0 k l p.1 e), λ f. absurd (clash N f.0 k f.1 r));
    reported = λ i p. absurd (apart o i k l p e);
    at_11_when = (λ _. (k, r), λ _. (k, l, e));
    named = λ i n p.
        let z : k ≡ i = cc in
        let y : l ≡ n = cc in
        (subst (Ruined K says N) z r, λ j g. rw (← z) (earliest_bad N k j q g), rw (← z, ← y) s, rw (← z, ← y) low);
    otherwise = (λ n. absurd (n.1 k r), λ p. absurd (apart_11 o k l N e p));
  }
  ends_of N o (spent e s a) = record {
    accepted_when = (λ p. absurd (apart_12 o p.0 N p.1 e), λ f. absurd (a f.0 f.1.from f.1.up_to f.1.all));
    reported = λ i p. absurd (apart_12 o i N p e);
    at_11_when = (λ p. absurd (apart_11 o p.0 p.1 N p.2 e), λ r. absurd (s r.0 r.1.from r.1.up_to r.1.some.0 r.1.some.1));
    named = λ i l p. absurd (apart_11 o i l N p e);
    otherwise = (λ _. e, λ _. (λ k f. a k f.from f.up_to f.all, λ k r. s k r.from r.up_to r.some.0 r.some.1));
  }

  -- THE OUTCOME ENDS AS IT SHOULD
  pub ends : (N : ℕ) → Ends K says N (outcome K says N)
  ends N = ends_of N (outcome K says N) (found N)

  -- AND NOTHING ELSE ENDS SO
  pub ends_once : (N : ℕ) (o : Outcome) → Ends K says N o → o ≡ outcome K says N
  ends_once N o d = go (found N)
    where
      go : Found N (outcome K says N) → o ≡ outcome K says N
      go (finished k e f q) =
          let a = d.accepted_when.1 (k, f) in
          let r = d.reported a.0 a.1 in
          let z : a.0 ≡ k = omega (arith, r.1 k f, earliest N k a.0 q r.0) in
          a.1 ∙ ap accepted z ∙ sym e
      go (ruined k l e r s low q) =
          let a = d.at_11_when.1 (k, r) in
          let w = d.named a.0 a.1 a.2 in
          let z : a.0 ≡ k = omega (arith, w.1 k r, earliest_bad N k a.0 q w.0) in
          let y : a.1 ≡ l = omega (arith, w.3 l (subst (λ (j : ℕ). SpoiltAt K says j l) (sym z) s), low a.1 (subst (λ (j : ℕ). SpoiltAt K says j a.1) z w.2)) in
          a.2 ∙ ap (λ (j : ℕ). no_at11 j a.1) z ∙ ap (no_at11 k) y ∙ sym e
      go (spent e s a) =
          d.otherwise.0 (λ k f. a k f.from f.up_to f.all, λ k r. s k r.from r.up_to r.some.0 r.some.1) ∙ sym e

  stopped : (N : ℕ) → outcome K says N ≢ no_at12 N → first N stops < N
  stopped N n = go (dec_lt (first N stops) N)
    where
      go : Dec (first N stops < N) → first N stops < N
      go (yes h) = h
      go (no h) = absurd (n (outcome_is N true (eq-eqb (first N stops) N (omega (arith, first_le stops N)))))

  -- UNDER A LARGER LIMIT an acceptance and a no at 11 stay the same
  pub larger : (N N' : ℕ) → N ≤ N' → outcome K says N ≢ no_at12 N → outcome K says N' ≡ outcome K says N
  larger N N' h n =
      let l : first N stops < N = stopped N n in
      let z : first N' stops ≡ first N stops = first_larger stops N N' h l in
      outcome_is N' false (ne_eqb (first N' stops) N' (λ e. omega arith))
      ∙ ap (λ (j : ℕ). ended N j false) z
      ∙ sym (outcome_is N false (ne_eqb (first N stops) N (λ e. omega arith)))

  -- ---- for a loop over the tests: what it has to know where it stops

  -- tests 1 to k - 1 found no spoilt lane, and not all done
  abbrev pub Quiet : ℕ → Type 0
  Quiet k = (j : ℕ) → 1 ≤ j → j < k → (some_spoilt K says j ≡ false) × (all_done K says j ≡ false)

  made_is : (N : ℕ) (t : Bool) → eqb (first N stops) N ≡ t → tests_made K says N ≡ cond t N (first N stops + 1)
  unfolding tests_made stops
  made_is N t e = ap (λ (b : Bool). cond b N (first N stops + 1)) e

  stops_no : (k i : ℕ) → Quiet k → i + 1 < k → stops i ≡ false
  unfolding stops
  stops_no k i q h = let s = q (i + 1) (omega arith) h in rw s.0 s.1

  first_is : (N i : ℕ) → i < N → Quiet (i + 1) → stops i ≡ true → first N stops ≡ i
  first_is N i h q e = go (dec_lt (first N stops) i)
    where
      u : first N stops ≤ i
      u = first_under stops N i h e

      go : Dec (first N stops < i) → first N stops ≡ i
      go (yes l) = absurd (true≢false (sym (first_hit stops N (omega arith)) ∙ stops_no (i + 1) (first N stops) q (omega arith)))
      go (no l) = omega (arith, u)

  spoilt_stops : (i : ℕ) → some_spoilt K says (i + 1) ≡ true → stops i ≡ true
  unfolding stops
  spoilt_stops i e = rw e refl

  done_stops : (i : ℕ) → some_spoilt K says (i + 1) ≡ false → all_done K says (i + 1) ≡ true → stops i ≡ true
  unfolding stops
  done_stops i e a = rw e a

  -- it stops at a spoilt lane
  pub stop_spoilt : (N i : ℕ) → i < N → Quiet (i + 1) → some_spoilt K says (i + 1) ≡ true
      → (outcome K says N ≡ no_at11 (i + 1) (lowest_spoilt K says (i + 1))) × (tests_made K says N ≡ i + 1)
  stop_spoilt N i h q e =
      let z : first N stops ≡ i = first_is N i h q (spoilt_stops i e) in
      let b : eqb (first N stops) N ≡ false = ne_eqb (first N stops) N (λ w. omega arith) in (
        outcome_is N false b ∙ ap (λ (j : ℕ). ended N j false) z ∙ ap (λ (t : Bool). cond t (no_at11 (i + 1) (lowest_spoilt K says (i + 1))) (accepted (i + 1))) e,
        made_is N false b ∙ ap (λ (j : ℕ). j + 1) z,
      )

  -- it stops with all lanes done
  pub stop_done : (N i : ℕ) → i < N → Quiet (i + 1) → some_spoilt K says (i + 1) ≡ false → all_done K says (i + 1) ≡ true
      → (outcome K says N ≡ accepted (i + 1)) × (tests_made K says N ≡ i + 1)
  stop_done N i h q e a =
      let z : first N stops ≡ i = first_is N i h q (done_stops i e a) in
      let b : eqb (first N stops) N ≡ false = ne_eqb (first N stops) N (λ w. omega arith) in (
        outcome_is N false b ∙ ap (λ (j : ℕ). ended N j false) z ∙ ap (λ (t : Bool). cond t (no_at11 (i + 1) (lowest_spoilt K says (i + 1))) (accepted (i + 1))) e,
        made_is N false b ∙ ap (λ (j : ℕ). j + 1) z,
      )

  -- it has made all its tests
  pub stop_spent : (N : ℕ) → Quiet (N + 1) → (outcome K says N ≡ no_at12 N) × (tests_made K says N ≡ N)
  stop_spent N q = go (dec_lt (first N stops) N)
    where
      go : Dec (first N stops < N) → (outcome K says N ≡ no_at12 N) × (tests_made K says N ≡ N)
      go (yes l) = absurd (true≢false (sym (first_hit stops N l) ∙ stops_no (N + 1) (first N stops) q (omega arith)))
      go (no l) =
          let b : eqb (first N stops) N ≡ true = eq-eqb (first N stops) N (omega (arith, first_le stops N)) in
          (outcome_is N true b, made_is N true b)

  -- an acceptance reports the last test made
  pub made_accepted : (N k : ℕ) → outcome K says N ≡ accepted k → tests_made K says N ≡ k
  made_accepted N k e = go (eqb (first N stops) N) refl
    where
      here : (t : Bool) → cond t (no_at11 (first N stops + 1) (lowest_spoilt K says (first N stops + 1))) (accepted (first N stops + 1)) ≡ accepted k → first N stops + 1 ≡ k
      here true z = absurd (apart (accepted k) k (first N stops + 1) (lowest_spoilt K says (first N stops + 1)) refl (sym z))
      here false z = cc

      go : (t : Bool) → eqb (first N stops) N ≡ t → tests_made K says N ≡ k
      go true b = absurd (apart_12 (outcome K says N) k N e (outcome_is N true b))
      go false b = made_is N false b ∙ here (some_spoilt K says (first N stops + 1)) (sym (outcome_is N false b) ∙ e)

  -- a smaller limit makes the first of the same tests
  pub made_within : (N j : ℕ) → 1 ≤ j → j ≤ tests_made K says N → tests_made K says j ≡ j
  made_within N j h b = go (dec_lt (first j stops) j)
    where
      most : (t : Bool) → eqb (first N stops) N ≡ t → tests_made K says N ≤ first N stops + 1
      most true e = omega (arith, made_is N true e, eqb-true (first N stops) N e)
      most false e = omega (arith, made_is N false e)

      after : Dec (first j stops < first N stops) → first j stops < j → first N stops ≤ first j stops
      after (yes l) g = absurd (true≢false (sym (first_hit stops j g) ∙ first_none stops N (first j stops) l))
      after (no l) g = omega arith

      go : Dec (first j stops < j) → tests_made K says j ≡ j
      go (yes g) =
          made_is j false (ne_eqb (first j stops) j (λ e. omega arith))
          ∙ omega (arith, after (dec_lt (first j stops) (first N stops)) g, most (eqb (first N stops) N) refl)
      go (no g) = made_is j true (eq-eqb (first j stops) j (omega (arith, first_le stops j)))
