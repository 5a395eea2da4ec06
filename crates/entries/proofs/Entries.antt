-- What an entry of w lanes stores, and what reading it gives. Assumes nothing.
use mathlib.Core.Path.{◌≡◌, refl, sym, ap, ◌∙◌}
use mathlib.Core.List.{List, [], ◌∷◌}
use Prim.Native.Nat.{ℕ, zero, suc, ◌+◌, ◌-◌, ◌*◌, ◌/◌, ◌≤◌}
use native.Mathlib.Nat.{add-zero, add_assoc}
use native.Mathlib.Omega.{arith}
use Rattle.std.proofs.Common.{append_assoc, ◌++◌, take}
use lib.ListN.{set, length, drop}
use borrow.Rule.Slice.PartMut.{put_mid}
use Rattle.std.proofs.lemmas.List.Edits.{sets-eq}
use lib.Seq.{set-set, drop-drop}
use lib.Ieee.{Float}
use Rattle.lanes.specs.Lists.{at}
use Rattle.lanes.specs.Lanes.{lanes, cell, put, put_to, On}
use Rattle.lanes.proofs.Quads.{lane_of, few_lanes, ◌▹◌}

-- ---- what an entry of one, two, three or four lanes stores

pub put_four : (ws : List Float) (k : ℕ) (v : List Float)
    → put 4 ws k v ≡ set (set (set (set ws (4 * k) (at v 0)) (4 * k + 1) (at v 1)) (4 * k + 2) (at v 2)) (4 * k + 3) (at v 3)
unfolding put_to
put_four ws k v = rw add-zero

-- a copy over four places stores four lanes
pub put_copy : (ws : List Float) (k : ℕ) (v : List Float) → length v ≡ 4 → 4 * k + 4 ≤ length ws
    → put_mid (4 * k) (4 * k + 4 - 4 * k) ws v ≡ put 4 ws k v
put_copy ws k [] e h = absurd (omega arith)
put_copy ws k (a ∷ []) e h = absurd (omega arith)
put_copy ws k (a ∷ b ∷ []) e h = absurd (omega arith)
put_copy ws k (a ∷ b ∷ c ∷ []) e h = absurd (omega arith)
put_copy ws k (a ∷ b ∷ c ∷ d ∷ []) e h =
    let v : List Float = a ∷ b ∷ c ∷ d ∷ [] in
    let n : 4 * k + 4 - 4 * k ≡ 4 = omega arith in
    let i1 : 4 * k + 1 ≡ suc (4 * k) = omega arith in
    let i2 : 4 * k + 2 ≡ suc (suc (4 * k)) = omega arith in
    let i3 : 4 * k + 3 ≡ suc (suc (suc (4 * k))) = omega arith in
    let stores : set (set (set (set ws (4 * k) a) (suc (4 * k)) b) (suc (suc (4 * k))) c) (suc (suc (suc (4 * k)))) d
    ≡ set (set (set (set ws (4 * k) a) (4 * k + 1) b) (4 * k + 2) c) (4 * k + 3) d = cc in
    let left : put_mid (4 * k) 4 ws v ≡ (take (4 * k) ws ++ v) ++ drop (4 * k + 4) ws = simp (append_assoc, drop-drop) in
    ap (λ (m : ℕ). put_mid (4 * k) m ws v) n ∙ left ∙ sym (sets-eq v ws (4 * k) h) ∙ stores ∙ sym (put_four ws k v)
put_copy ws k (a ∷ b ∷ c ∷ d ∷ f ∷ l) e h = absurd (omega arith)

-- three stores are those of three lanes; where there are fewer, the last is stored again
pub put_few : (w : ℕ) (ws : List Float) (k : ℕ) (v : List Float) → 1 ≤ w → w ≤ 3
    → set (set (set ws (w * k) (at v 0)) (w * k + w / 2) (at v (w / 2))) (w * k + (w - 1)) (at v (w - 1)) ≡ put w ws k v
unfolding put_to
put_few zero ws k v a b = absurd (omega arith)
put_few (suc zero) ws k v a b = rw (add-zero, set-set, set-set) refl
put_few (suc (suc zero)) ws k v a b = rw (add-zero, set-set) refl
put_few (suc (suc (suc zero))) ws k v a b = rw add-zero refl
put_few (suc (suc (suc (suc w)))) ws k v a b = absurd (omega arith)

pub put_at : {w n : ℕ} (ws : List Float) {new : List Float} (k : ℕ) (v : List Float) → w ≡ n → new ≡ put n ws k v → new ≡ put w ws k v
put_at ws k v e h = rw e h

-- ---- entries of w lanes

-- what the functions that read an entry leave
pub four_cells : (w : ℕ) (ws : List Float) (k : ℕ) {r : List Float} → w ≡ 4 → r ≡ lanes (λ t. at ws (4 * k + t)) → On w r (cell w ws k)
four_cells w ws k e h = record { lane = λ t b. lane_of (λ t. at ws (4 * k + t)) h t (omega arith) ∙ ap (λ (n : ℕ). at ws (n * k + t)) (sym e) }

pub four_on : (w : ℕ) (ws : List Float) (p : ℕ) {r : List Float} → w ≡ 4 → r ≡ lanes (λ t. at ws (p + t)) → On w r (λ t. at ws (p + t))
four_on w ws p e h = record { lane = λ t b. lane_of (λ t. at ws (p + t)) h t (omega arith) }

-- fewer than four, the last repeated
pub few_on : (w : ℕ) (ws : List Float) (p : ℕ) {r : List Float} → 1 ≤ w → w ≤ 3 → r ≡ at ws p ∷ at ws (p + w / 2) ∷ at ws (p + (w - 1)) ∷ at ws (p + (w - 1)) ∷ [] → On w r (λ t. at ws (p + t))
few_on w ws p a b e = rw e (record { lane = few_lanes (λ t. at (at ws p ∷ at ws (p + w / 2) ∷ at ws (p + (w - 1)) ∷ at ws (p + (w - 1)) ∷ []) t ≡ at ws (p + t)) w (omega arith) (λ h. rw add-zero refl) (λ h. ap (λ (k : ℕ). at ws (p + k)) (omega arith)) (λ h. ap (λ (k : ℕ). at ws (p + k)) (omega arith)) (λ h. absurd (omega arith)) })

pub from_lane : (K k f : ℕ) (ws : List Float) {w : ℕ} {r : List Float} → On w r (λ t. at ws (K * k + f + t)) → On w r (λ t. cell K ws k (f + t))
from_lane K k f ws e = e ▹ (λ t b. ap (at ws) (add_assoc (K * k) f t))
