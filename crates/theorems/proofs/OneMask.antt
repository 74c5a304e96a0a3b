-- Where one mask covers a byte, whatever the points are, what is written there is balanced if the mask table is.
-- Assumes nothing.
use mathlib.Core.Path.{◌≡◌, ap, ◌∙◌}
use mathlib.Core.List.{List}
use Prim.Native.Nat.{ℕ, ◌+◌, ◌*◌, ◌/◌, ◌%◌, ◌<◌}
use native.Mathlib.Omega.{arith}
use Rattle.aes.specs.Byte.{◌⊕◌, table}
use Rattle.aes.specs.State.{at, cell, ahead, behind, shift_rows, inv_shift_rows}
use Rattle.aes.proofs.Listed.{table_at}
use Rattle.masks.specs.Mask.{advanced}
use Rattle.masks.proofs.Counted.{label_on}
use Rattle.masks.specs.MaskTable.{stepping}
use Rattle.theorems.specs.Balance.{Balanced}
use Rattle.theorems.proofs.Relation.{mask_entry}
use Rattle.theorems.proofs.Balancing.{balanced_same, balanced_xor, balanced_turn}

-- on byte i at point p, whose masks are told over any sequence, lies the byte at a place of the mask of a round
pub record OneMask {P : Type 0} (mask : (ℕ → List ℕ) → P → List ℕ) (p : P) (i : ℕ) : Type 0 where
  pub round : ℕ
  pub place : ℕ
  pub within : place < 16
  pub same : (K : ℕ → List ℕ) → at (mask K p) i ≡ at (K round) place

-- so its label is as far on from a record at all sixteen records that are on from it
pub one_balance : {P : Type 0} {mask : (ℕ → List ℕ) → P → List ℕ} {p : P} {i : ℕ} (M : List ℕ) → Balanced (at M) → (v : List ℕ) (d : ℕ) → OneMask mask p i
    → (f : ℕ → ℕ) (c : ℕ) → ((o : ℕ) → o < 16 → f o ≡ c ⊕ at (mask (stepping M (advanced v o) d) p) i) → Balanced f
one_balance M b v d u f c e =
    let k : ℕ = d * u.round in
    let a : ℕ = at v u.place in
    balanced_same f (λ o. c ⊕ at M ((o + (a + k)) % 16))
    (λ o h. e o h
    ∙ ap (λ (x : ℕ). c ⊕ x) (u.same (stepping M (advanced v o) d) ∙ mask_entry M (advanced v o) k u.place u.within ∙ ap (at M) (label_on v o k u.place u.within ∙ far a o k)))
    (balanced_xor c (λ o. at M ((o + (a + k)) % 16)) (balanced_turn (at M) b (a + k)))
  where
    far : (a o k : ℕ) → (a + (o + k)) % 16 ≡ (o + (a + k)) % 16
    far a o k = omega arith

-- the mask of round r as it is, or moved by SHIFTROWS or INVSHIFTROWS
left : ℕ → ℕ
left i = i % 4 + 4 * ahead (i % 4) (i / 4)

right : ℕ → ℕ
right i = i % 4 + 4 * behind (i % 4) (i / 4)

left_lt : (i : ℕ) → left i < 16
unfolding left
left_lt i = omega arith

right_lt : (i : ℕ) → right i < 16
unfolding right
right_lt i = omega arith

left_at : (s : List ℕ) (i : ℕ) → i < 16 → at (shift_rows s) i ≡ at s (left i)
unfolding shift_rows left table
left_at s = table_at (λ i. cell s (i % 4) (ahead (i % 4) (i / 4))) 16

right_at : (s : List ℕ) (i : ℕ) → i < 16 → at (inv_shift_rows s) i ≡ at s (right i)
unfolding inv_shift_rows right table
right_at s = table_at (λ i. cell s (i % 4) (behind (i % 4) (i / 4))) 16

byte : (i : ℕ) {s t : List ℕ} → s ≡ t → at s i ≡ at t i
byte i e = ap (λ (s : List ℕ). at s i) e

module _ {P : Type 0} {mask : (ℕ → List ℕ) → P → List ℕ} {p : P} {i : ℕ} (r : ℕ) (h : i < 16) where
  pub own : ((K : ℕ → List ℕ) → mask K p ≡ K r) → OneMask mask p i
  own e = record { round = r; place = i; within = h; same = λ K. byte i (e K) }

  pub moved_left : ((K : ℕ → List ℕ) → mask K p ≡ shift_rows (K r)) → OneMask mask p i
  moved_left e = record { round = r; place = left i; within = left_lt i; same = λ K. byte i (e K) ∙ left_at (K r) i h }

  pub moved_right : ((K : ℕ → List ℕ) → mask K p ≡ inv_shift_rows (K r)) → OneMask mask p i
  moved_right e = record { round = r; place = right i; within = right_lt i; same = λ K. byte i (e K) ∙ right_at (K r) i h }
