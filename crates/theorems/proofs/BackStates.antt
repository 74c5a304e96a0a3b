-- What record_masked_decryption writes, state by state: that of INVCIPHER at each point, under the mask of the point.
-- Assumes nothing.
use mathlib.Core.Path.{◌≡◌, sym, ◌∙◌}
use mathlib.Core.Bool.{true}
use mathlib.Core.List.{List, [], map}
use Prim.Native.Nat.{ℕ, ◌+◌, ◌*◌, ◌<◌}
use native.Mathlib.Omega.{arith}
use borrow.Author.Tests.{eq-eqb}
use lib.Dec.{T}
use lib.ListN.{length, get_or}
use Rattle.aes.specs.Byte.{◌⊕◌}
use Rattle.aes.specs.State.{at}
use Rattle.aes.specs.Key.{rounds_of}
use Rattle.aes.specs.Cipher.{inv_cipher}
use Rattle.aes.specs.Reply.{scheduled, taken}
use Rattle.aes.specs.Calls.{decrypt_of}
use Rattle.aes.proofs.Replies.{is_true}
use Rattle.aes.proofs.Schedule.{some_rounds}
use Rattle.masks.specs.Mask.{◌⊞◌}
use Rattle.runs.specs.Back.{block, back_points, masked_back_record}
use Rattle.theorems.specs.Ways.{Offsets}
use Rattle.masked.specs.Calls.{block_at, record_masked_decryption_of}
use Rattle.theorems.specs.BackTable.{mask_back_by, mask_back_at, plain_back_record, inv_cipher_at}
use Rattle.theorems.proofs.RoundPoints.{back_length, back_end}
use Rattle.theorems.proofs.States.{Sizes, summed_sizes, state_in, byte_in}
use Rattle.theorems.proofs.CallLaws.{inv_cipher_size}
use Rattle.theorems.proofs.BackRelation.{back_relation, back_relation_at, back_relation_cipher}
use Rattle.theorems.proofs.Result.{add_none}
use Rattle.theorems.proofs.Records.{low_offsets}

back_sizes : (M v : List ℕ) (d nr : ℕ) (w b : List ℕ) → Sizes (masked_back_record nr M v d w b)
back_sizes M v d nr w b = rw (back_relation M v d nr w b) (summed_sizes (plain_back_record nr w b) (map (mask_back_at M v d) (back_points nr)))

module _ (w b states : List ℕ) (lw : scheduled (length w) ≡ true) (lb : length b ≡ 16) (ls : length states ≡ 16 * (6 * rounds_of w + 1)) (M : List ℕ) (lm : length M ≡ 16) (v : List ℕ)
    (hv : Offsets v) (d : ℕ) (t : T (taken d)) where
  -- the rounds that the schedule is for, and the states that they have
  pos : 0 < rounds_of w
  pos = (some_rounds (length w) lw).0

  within : (q : ℕ) → q < 6 * rounds_of w + 1 → q < length (back_points (rounds_of w))
  within q h = rw (back_length (rounds_of w) pos) h

  -- what the call writes is the record of the masked decryption
  back_states : (q : ℕ) → block_at q (record_masked_decryption_of w b M v d states).1 ≡ get_or (masked_back_record (rounds_of w) M v d w b) q []
  back_states q =
      simp (lw, eq-eqb (length b) 16 lb, eq-eqb (length M) 16 lm, eq-eqb (length v) 16 hv.0, low_offsets v hv, is_true (taken d) t, eq-eqb (length states) (16 * (6 * rounds_of w + 1)) ls)
      (state_in (masked_back_record (rounds_of w) M v d w b) (back_sizes M v d (rounds_of w) w b) q)

  -- so its state q is that of the plain decryption, and of INVCIPHER, under the mask that the mask table has there
  pub back_state_plain : (q : ℕ) → q < 6 * rounds_of w + 1
      → block_at q (record_masked_decryption_of w b M v d states).1 ≡ get_or (plain_back_record (rounds_of w) w b) q [] ⊞ mask_back_at M v d (get_or (back_points (rounds_of w)) q block)
  back_state_plain q hq = back_states q ∙ back_relation_at M v d (rounds_of w) w b q (within q hq)

  pub back_state : (q : ℕ) → q < 6 * rounds_of w + 1
      → block_at q (record_masked_decryption_of w b M v d states).1 ≡ inv_cipher_at (rounds_of w) w b (get_or (back_points (rounds_of w)) q block) ⊞ mask_back_at M v d (get_or (back_points (rounds_of w)) q block)
  back_state q hq = back_states q ∙ back_relation_cipher M v d (rounds_of w) w b q (within q hq)

  -- the last is what decrypt writes
  pub back_last : (out : List ℕ) → length out ≡ 16 → block_at (6 * rounds_of w) (record_masked_decryption_of w b M v d states).1 ≡ (decrypt_of w b out).1
  unfolding mask_back_by inv_cipher_at
  back_last out lo =
      let plain : (decrypt_of w b out).1 ≡ inv_cipher (rounds_of w) w b = simp (lw, eq-eqb (length b) 16 lb, eq-eqb (length out) 16 lo) in
      back_state (6 * rounds_of w) (omega arith) ∙ rw (back_end (rounds_of w) pos) (add_none (inv_cipher (rounds_of w) w b) (inv_cipher_size (rounds_of w) w b) ∙ sym plain)

  pub back_byte : (q i : ℕ) → q < 6 * rounds_of w + 1 → i < 16
      → at (record_masked_decryption_of w b M v d states).1 (16 * q + i) ≡ at (inv_cipher_at (rounds_of w) w b (get_or (back_points (rounds_of w)) q block)) i ⊕ at (mask_back_at M v d (get_or (back_points (rounds_of w)) q block)) i
  back_byte q i hq hi = byte_in (record_masked_decryption_of w b M v d states).1 _ _ q i hi (back_state q hq)
