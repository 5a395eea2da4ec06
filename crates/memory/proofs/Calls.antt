-- A block's lanes in its lists and in its working memory. Assumes nothing.
use mathlib.Core.Path.{◌≡◌, sym, ap, ◌∙◌}
use mathlib.Core.List.{List}
use Prim.Native.Nat.{ℕ, ◌+◌, ◌-◌, ◌*◌, ◌≤◌, ◌<◌}
use native.Mathlib.Nat.{mul-add, mul-suc, mul-le-mul_left}
use native.Mathlib.Omega.{arith}
use lib.ListN.{length, drop, length-drop}
use lib.Seq.{length-take-le, get_or-take, get_or-drop}
use lib.Ieee.{Float, nan}
use Rattle.base.specs.Numbers.{cut}
use Rattle.lanes.specs.Lists.{at, lane}
use Rattle.lanes.specs.Region.{reg}
use Rattle.lanes.proofs.Lists.{vec_same}
use Rattle.lanes.proofs.Regions.{reg_at}
use Rattle.machine.specs.Machine.{Settings}
use Rattle.machine.specs.Outcome.{interleaved, lane_data}
use Rattle.machine.proofs.Lanes.{interleaved_at, interleaved_is}
use Rattle.layout.specs.declared.Block.{Block}
use Rattle.layout.specs.declared.Plan.{Plan}
use Rattle.memory.specs.Planned.{data_in}
use Rattle.memory.specs.Calls.{lanes_of, call_in}

-- ---- the working memory

-- the n entries from entry o are the region's lanes interleaved
pub region_is : (K : ℕ) (ws : List Float) (o n : ℕ) → 1 ≤ K → K * (o + n) ≤ length ws → cut (K * o) (K * (o + n)) ws ≡ interleaved K n (λ l e. at (reg K ws o n l) e)
region_is K ws o n p h =
    interleaved_is K n (λ l e. at (reg K ws o n l) e) (cut (K * o) (K * (o + n)) ws) p
    (length-take-le (K * (o + n) - K * o) (drop (K * o) ws) (simp length-drop (omega (arith, mul-add K o n))) ∙ omega (arith, mul-add K o n))
    (λ l e a b.
    let z : K * o + (K * e + l) ≡ K * (o + e) + l = omega (arith, mul-add K o e) in
    get_or-take (K * (o + n) - K * o) (drop (K * o) ws) (K * e + l) nan (omega (arith, mul-add K o n, mul-suc K e, mul-le-mul_left K b))
    ∙ get_or-drop (K * o) ws (K * e + l) nan
    ∙ ap (at ws) z
    ∙ sym (reg_at K ws o n l e b))

-- ---- a block's lanes of b, c and the tolerances

module _ (block : Block) (w k : ℕ) (v : List Float) where
  lanes_at : (l e : ℕ) → l < w → e < k → at (lanes_of block w k v) (w * e + l) ≡ at v (block.total * e + (block.first + l))
  unfolding lanes_of
  lanes_at l e h b = interleaved_at w k (λ j i. at v (block.total * i + (block.first + j))) l e h b

  lanes_lane : (l : ℕ) → l < w → lane w k l (lanes_of block w k v) ≡ lane block.total k (block.first + l) v
  unfolding lane
  lanes_lane l h = vec_same k (λ e. at (lanes_of block w k v) (w * e + l)) (λ e. at v (block.total * e + (block.first + l))) (λ e b. lanes_at l e h b)

-- a block of all the lanes
pub lanes_all : (K k : ℕ) (v : List Float) → 1 ≤ K → length v ≡ K * k → lanes_of (record { total = K; first = 0 }) K k v ≡ v
unfolding lanes_of
lanes_all K k v o s = sym (interleaved_is K k (λ l e. at v (K * e + (0 + l))) v o s (λ l e h b. ap (λ (j : ℕ). at v (K * e + j)) (omega arith)))

-- lane l of the block is fed what lane first + l of the call is
pub data_in_lem : (H : Settings) (p : Plan) (block : Block) (w : ℕ) (off cols : List ℕ) (vals b c tol : List Float) (l : ℕ) → l < w
    → lane_data (call_in H p block w off cols vals b c tol) l ≡ data_in p block b c tol l
data_in_lem H p block w off cols vals b c tol l h =
    λ i. record {
      b = lanes_lane block w p.m b l h i;
      c = lanes_lane block w p.n c l h i;
      primal = tolerance 0 l (block.first + l) (omega arith) (omega arith) (omega arith) i;
      dual = tolerance 1 (w + l) (block.total + (block.first + l)) (omega arith) (omega arith) (omega arith) i;
      gap = tolerance 2 (2 * w + l) (2 * block.total + (block.first + l)) (omega arith) (omega arith) (omega arith) i;
    }
  where
    tolerance : (e p q : ℕ) → e < 3 → p ≡ w * e + l → q ≡ block.total * e + (block.first + l) → at (lanes_of block w 3 tol) p ≡ at tol q
    tolerance e p q a f g = rw (f, g) (lanes_at block w 3 tol l e h a)
