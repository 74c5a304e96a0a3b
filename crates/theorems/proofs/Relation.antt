-- The relation: the states of a masked run are those of the plain run, each under the mask of its point.
-- Assumes nothing.
use mathlib.Core.Path.{◌≡◌, refl, ap, fun_ext, ◌∙◌}
use mathlib.Core.List.{List, [], map}
use Prim.Native.Nat.{ℕ, suc, ◌+◌, ◌*◌, ◌%◌, ◌<◌}
use native.Mathlib.Nat.{mul-zero, mul-suc}
use native.Mathlib.Omega.{arith}
use lib.ListN.{length, get_or}
use Rattle.aes.specs.Byte.{◌⊕◌, table}
use Rattle.aes.specs.Box.{s_box}
use Rattle.aes.specs.State.{at, state, sub_bytes, add_round_key}
use Rattle.aes.specs.Record.{Point, block, keyed, boxed, shifted, mixed, compensated, closed, uncovered, points, run, plain, plain_record, cipher_at}
use Rattle.aes.proofs.Listed.{table_at, table_same}
use Rattle.theorems.proofs.PlainRecord.{record_is}
use Rattle.masks.specs.Mask.{◌⊞◌, label, mask, masked_box, compensation}
use Rattle.runs.specs.Run.{covered, masked_record}
use Rattle.masks.specs.MaskTable.{stepping, mask_at}
use Rattle.theorems.specs.Summed.{summed}
use Rattle.theorems.proofs.Cover.{at-summed, map_at}
use Rattle.theorems.proofs.AnyMasks.{covered_by, relation_any}

pub plain_at : (w b : List ℕ) (nr q : ℕ) → q < length (points nr) → get_or (plain_record nr w b) q [] ≡ cipher_at w b (get_or (points nr) q block)
plain_at w b nr q h = rw (record_is w b nr) (map_at (cipher_at w b) (points nr) q block h)

pub mask_entry : (M v : List ℕ) (k i : ℕ) → i < 16 → at (mask M v k) i ≡ at M (label v k i)
unfolding mask table
mask_entry M v k = table_at (λ i. at M (label v k i)) 16

-- the labels of a box, and of the bytes that it takes and gives
next : (v : List ℕ) (i k d : ℕ) → (label v k i + d) % 16 ≡ label v (k + d) i
next v i k d = omega arith

same : (v : List ℕ) (i k : ℕ) → label v k i % 16 ≡ label v k i
same v i k = omega arith

-- the box over byte i takes it from the mask of round r to that of the next
label_at : (S : ℕ → ℕ) (M v : List ℕ) (d r x i : ℕ) → i < 16 → masked_box S M d (label v (d * r) i) x ≡ S (x ⊕ at (stepping M v d r) i) ⊕ at (stepping M v d (suc r)) i
unfolding masked_box
label_at S M v d r x i h =
    rw (mask_entry M v (d * r) i h, mask_entry M v (d * suc r) i h, mul-suc, same v i (d * r), next v i (d * r) d)

-- so the boxes of a round do what S does to each byte, or its inverse
pub boxes_are : (S : ℕ → ℕ) (M v : List ℕ) (d r : ℕ) (s : List ℕ)
    → state (λ i. masked_box S M d (label v (d * r) i) (at s i)) ≡ state (λ i. S (at s i ⊕ at (stepping M v d r) i) ⊕ at (stepping M v d (suc r)) i)
unfolding table
boxes_are S M v d r s =
    table_same (λ i. masked_box S M d (label v (d * r) i) (at s i)) (λ i. S (at s i ⊕ at (stepping M v d r) i) ⊕ at (stepping M v d (suc r)) i) 16
    (λ i h. label_at S M v d r (at s i) i h)

module _ (M v : List ℕ) (d : ℕ) where
  covered_is : (w : List ℕ) (p : Point) (s : List ℕ) → covered M v d w p s ≡ covered_by (stepping M v d) w p s
  unfolding covered covered_by compensation sub_bytes add_round_key
  covered_is w block s = rw mul-zero
  covered_is w (keyed r) s = refl
  covered_is w (boxed r) s = boxes_are s_box M v d r s
  covered_is w (shifted r) s = refl
  covered_is w (mixed r) s = refl
  covered_is w (compensated r) s = refl
  covered_is w (closed r) s = refl
  covered_is w (uncovered r) s = refl

  module _ (w : List ℕ) (nr : ℕ) (b : List ℕ) where
    -- the states of a masked run are those of the plain run, each under the mask of its point
    pub relation : masked_record nr M v d w b ≡ summed (plain_record nr w b) (map (mask_at M v d) (points nr))
    unfolding masked_record
    relation =
        ap (λ (f : Point → List ℕ → List ℕ). run f b (points nr)) (fun_ext (λ p. fun_ext (λ s. covered_is w p s)))
        ∙ relation_any (stepping M v d) w nr b

    -- so state q is plain state q under the mask of point q; and that of CIPHER
    pub relation_at : (q : ℕ) → q < length (points nr)
        → get_or (masked_record nr M v d w b) q [] ≡ get_or (plain_record nr w b) q [] ⊞ mask_at M v d (get_or (points nr) q block)
    unfolding plain_record
    relation_at q h = rw relation (at-summed (plain w) (mask_at M v d) block (points nr) b q h)

    pub relation_cipher : (q : ℕ) → q < length (points nr)
        → get_or (masked_record nr M v d w b) q [] ≡ cipher_at w b (get_or (points nr) q block) ⊞ mask_at M v d (get_or (points nr) q block)
    relation_cipher q h = relation_at q h ∙ rw (plain_at w b nr q h)
