-- The order of the boxes: each position stands in it once, so that a loop through it fills a state; and with the published masks
-- what a box gives and what the next one takes never lie under one mask.
-- Assumes nothing.
use mathlib.Core.Path.{◌≡◌, refl, sym, ap, ◌∙◌}
use mathlib.Core.Bool.{Bool, true, false, not, ◌||◌}
use mathlib.Core.List.{List}
use Prim.Native.Nat.{ℕ, ◌+◌, ◌%◌, ◌≤◌, ◌<◌}
use native.Mathlib.Nat.{add-zero}
use native.Mathlib.Omega.{arith}
use native.Mathlib.Decide.{ℕ_discrete}
use lib.Dec.{T, eqb, leb, ltb, lit<, lit≤}
use lib.ListN.{length, set, length-set}
use lib.Seq.{get_or-set_same, get_or-set_other}
use mir.Facts.{and_yes, eqb_no}
use Rattle.aes.specs.Byte.{table, place, below}
use Rattle.aes.specs.State.{at, state}
use Rattle.aes.specs.Reply.{taken}
use Rattle.aes.proofs.Listed.{Inverted, place-below, place_right, place_only}
use Rattle.aes.proofs.Fill.{filled_all}
use Rattle.aes.proofs.Below.{under}
use Rattle.masks.specs.Mask.{published, one, mask}
use Rattle.masks.specs.Order.{box_order, between}
use Rattle.masks.proofs.Counted.{mask_one}

-- computed: a permutation of the sixteen positions
permuted : Inverted (λ p. p) 16 (table (at box_order) 16)
unfolding box_order table place
permuted = (refl, refl, refl)

pub order_below : (k : ℕ) → k < 16 → at box_order k < 16
unfolding box_order below
order_below k h = lit< (under (λ k. ltb (at box_order k) 16) 16 tt k h)

-- each position has its place in the order, and one place alone
pub order_place : (p : ℕ) → p < 16 → (place p box_order < 16) × (at box_order (place p box_order) ≡ p)
unfolding box_order table
order_place p h = (place-below (at box_order) (λ p. p) 16 permuted p h, place_right (at box_order) (λ p. p) 16 permuted p h)

pub order_once : (k : ℕ) → k < 16 → place (at box_order k) box_order ≡ k
unfolding box_order table
order_once k h = place_only (at box_order) (λ p. p) 16 permuted k h

-- r has sixteen entries, and those at the first k positions of the order are f's
pub record Called (f : ℕ → ℕ) (k : ℕ) (r : List ℕ) : Type 0 where
  pub room : length r ≡ 16
  pub so_far : (j : ℕ) → j < k → at r (at box_order j) ≡ f (at box_order j)

pub called_more : {f : ℕ → ℕ} {k : ℕ} {r : List ℕ} → Called f k r → k < 16 → (i v : ℕ) → i ≡ at box_order k → v ≡ f i → Called f (k + 1) (set r i v)
called_more {f} {k} {r} c h i v ei ev = record { room = length-set r i v ∙ c.room; so_far = at_j }
  where
    lt : i < 16
    lt = rw ei (order_below k h)

    before : (j : ℕ) → j < k + 1 → (at box_order j ≡ i → ⊥) → j < k
    before j hj e = elim (ℕ_discrete j k) [ yes q ↦ absurd (e (rw q (sym ei))) | no q ↦ omega arith ]

    at_j : (j : ℕ) → j < k + 1 → at (set r i v) (at box_order j) ≡ f (at box_order j)
    at_j j hj =
        elim (ℕ_discrete (at box_order j) i) [
          | yes e ↦ rw e (get_or-set_same r i v 0 (rw c.room lt) ∙ ev)
          | no e ↦ get_or-set_other r i (at box_order j) v 0 e ∙ c.so_far j (before j hj e)
        ]

pub called_all : {f : ℕ → ℕ} {k : ℕ} {r : List ℕ} → Called f k r → 16 ≤ k → r ≡ state f
called_all {f} {k} {r} c h = filled_all (record { room = c.room; within = lit≤ tt; so_far = at_i }) (lit≤ tt)
  where
    at_i : (i : ℕ) → i < 16 → at r i ≡ f i
    at_i i lt = let p = order_place i lt in rw p.1 at (c.so_far (place i box_order) (omega arith))

-- computed: with the published masks the mask between two boxes is never 00, whatever the step is that is taken
between_test : T (below 16 (λ d. not (taken d) || below 16 (λ j. below 15 (λ k. not (eqb (between box_order (mask published (one j) 0) (mask published (one j) d) k) 0)))))
unfolding box_order published mask below table
between_test = tt

met : (a b : Bool) → T a → T (not a || b) → T b
met true b t u = u
met false b t u = absurd t

pub lucky : (o n d k : ℕ) → T (taken d) → k < 15 → between box_order (mask published (one o) n) (mask published (one o) (n + d)) k ≡ 0 → ⊥
lucky o n d k t h =
    let j : ℕ = (o + n) % 16 in
    let small : d ≤ 15 = lit≤ (and_yes (eqb d 1 || leb 4 d) (leb d 15) t).1 in
    let row = under _ 16 (met (taken d) _ t (under _ 16 between_test d (omega (arith, small)))) j (omega arith) in
    let taken_is : mask published (one o) n ≡ mask published (one j) 0 = ap (mask published (one o)) (sym (add-zero n)) ∙ mask_one published o n 0 in
    rw (taken_is, mask_one published o n d) (eqb_no (under _ 15 row k h))
