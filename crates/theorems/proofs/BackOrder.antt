-- The order of the boxes in a decryption: what a box gives, xored with what the next one called takes, stays covered there too, in the
-- states that record_masked_decryption writes.
-- Assumes nothing.
use mathlib.Core.Path.{◌≡◌, refl}
use mathlib.Core.Bool.{true}
use mathlib.Core.List.{List}
use Prim.Native.Nat.{ℕ, ◌+◌, ◌*◌, ◌<◌}
use lib.Dec.{T}
use lib.ListN.{length}
use Rattle.aes.specs.Byte.{◌⊕◌}
use Rattle.aes.specs.State.{at}
use Rattle.aes.specs.Key.{rounds_of}
use Rattle.aes.specs.Reply.{scheduled, taken}
use Rattle.aes.proofs.Schedule.{some_rounds}
use Rattle.masks.specs.Mask.{published, one}
use Rattle.masks.specs.Order.{box_order}
use Rattle.masks.proofs.Ordered.{order_below}
use Rattle.runs.specs.Back.{block, corrected, unboxed, back_points}
use Rattle.masked.specs.Calls.{block_at, record_masked_decryption_of}
use Rattle.masks.specs.MaskTable.{mask_by}
use Rattle.theorems.specs.BackTable.{mask_back_by, mask_back_at, inv_cipher_at}
use Rattle.theorems.specs.Neighbours.{between_recorded, between_bare_back, between_masks, between_masks_back}
use Rattle.theorems.specs.Ways.{Offsets}
use Rattle.theorems.proofs.Records.{one_offsets}
use Rattle.theorems.proofs.BackStates.{back_state}
use Rattle.theorems.proofs.BoxOrder.{between-points, never_bare}
use Rattle.theorems.proofs.RecordStates.{published-length}
use Rattle.theorems.proofs.RoundPoints.{back_length, corrected_at, unboxed_at, within_back}

-- the boxes of a round have the labels that they have in an encryption, and so the same masks between them
pub same_masks : (order M v : List ℕ) (d r k : ℕ) → between_masks_back order M v d r k ≡ between_masks order M v d r k
unfolding mask_by mask_back_by
same_masks order M v d r k = refl

module _ (w b states : List ℕ) (lw : scheduled (length w) ≡ true) (lb : length b ≡ 16) (ls : length states ≡ 16 * (6 * rounds_of w + 1)) (d : ℕ) (t : T (taken d))
    (r k : ℕ) (hr : r < rounds_of w) (hk : k < 15) where
  -- any order of the boxes, any masks: the xor of the two bytes of INVCIPHER, under the xor of their masks
  pub between_back : (order : List ℕ) → ((k : ℕ) → k < 16 → at order k < 16) → (M v : List ℕ) → length M ≡ 16 → Offsets v
      → between_recorded order (record_masked_decryption_of w b M v d states).1 (6 * r + 3) k ≡ between_bare_back order (rounds_of w) w b r k ⊕ between_masks_back order M v d r k
  between_back order positions M v lm hv =
      between-points order positions (inv_cipher_at (rounds_of w) w b) (mask_back_at M v d) block (back_points (rounds_of w)) (λ q. block_at q (record_masked_decryption_of w b M v d states).1)
      (λ q h. back_state w b states lw lb ls M lm v hv d t q (rw (back_length (rounds_of w) (some_rounds (length w) lw).0) at h)) (6 * r + 3) (within_back (rounds_of w) r hr) (corrected r) (unboxed r)
      (corrected_at (rounds_of w) r hr) (unboxed_at (rounds_of w) r hr) k hk

  -- In the order that every masked run reads, with the published masks and at the record of one offset, that mask is never 00.
  pub even_first_back : (o : ℕ) →
      (between_recorded box_order (record_masked_decryption_of w b published (one o) d states).1 (6 * r + 3) k ≡ between_bare_back box_order (rounds_of w) w b r k ⊕ between_masks_back box_order published (one o) d r k)
      × (between_masks_back box_order published (one o) d r k ≡ 0 → ⊥)
  even_first_back o = (between_back box_order order_below published (one o) published-length (one_offsets o), rw (same_masks box_order published (one o) d r k) (never_bare o d r k t hk))
