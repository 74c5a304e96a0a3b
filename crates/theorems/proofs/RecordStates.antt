-- What the recorded calls write, state by state: that of CIPHER at each point, and with masks under the mask of the point.
-- Assumes nothing.
use mathlib.Core.Path.{◌≡◌, refl, sym, ap, ◌∙◌}
use mathlib.Core.Bool.{true}
use mathlib.Core.List.{List, [], map}
use Prim.Native.Nat.{ℕ, suc, ◌+◌, ◌-◌, ◌*◌, ◌<◌}
use native.Mathlib.Omega.{arith}
use native.Mathlib.Decide.{ℕ_discrete}
use borrow.Author.Tests.{eq-eqb, ne_eqb}
use lib.Dec.{T}
use lib.ListN.{length, get_or}
use Rattle.aes.specs.Byte.{◌⊕◌}
use Rattle.aes.specs.State.{at}
use Rattle.aes.specs.Record.{block, uncovered, points, plain, plain_record, cipher_at}
use Rattle.aes.specs.Key.{rounds_of}
use Rattle.aes.specs.Cipher.{cipher}
use Rattle.aes.specs.Reply.{scheduled, taken}
use Rattle.aes.specs.Calls.{encrypt_of, record_plain_of}
use Rattle.aes.proofs.Schedule.{some_rounds}
use Rattle.aes.proofs.PlainRun.{plain_sized}
use Rattle.aes.proofs.Replies.{is_true}
use Rattle.masks.specs.Mask.{◌⊞◌, published}
use Rattle.runs.specs.Run.{masked_record}
use Rattle.theorems.specs.Ways.{Offsets}
use Rattle.masked.specs.Calls.{block_at, record_masked_of}
use Rattle.masks.specs.MaskTable.{bare, mask_by, mask_at}
use Rattle.theorems.proofs.RoundPoints.{run_length, run_end}
use Rattle.theorems.proofs.States.{Sizes, run_sizes, summed_sizes, state_in, byte_in}
use Rattle.theorems.proofs.CallLaws.{cipher_size}
use Rattle.theorems.proofs.Relation.{plain_at, relation, relation_cipher}
use Rattle.theorems.proofs.Result.{add_none, zero_masks}
use Rattle.theorems.proofs.Records.{low_offsets}

masked_sizes : (M v : List ℕ) (d : ℕ) (w : List ℕ) (nr : ℕ) (b : List ℕ) → Sizes (masked_record nr M v d w b)
masked_sizes M v d w nr b = rw (relation M v d w nr b) (summed_sizes (plain_record nr w b) (map (mask_at M v d) (points nr)))

pub published-length : length published ≡ 16
unfolding published
published-length = refl

module _ (w b states : List ℕ) (lw : scheduled (length w) ≡ true) (lb : length b ≡ 16) (ls : length states ≡ 16 * (5 * rounds_of w + 1)) where
  -- the rounds that the schedule is for, and the states that they have
  pos : 0 < rounds_of w
  pos = (some_rounds (length w) lw).0

  within : (q : ℕ) → q < 5 * rounds_of w + 1 → q < length (points (rounds_of w))
  within q h = rw (run_length (rounds_of w) pos) h

  -- state q of what record_plain writes is that of CIPHER
  pub plain-state : (q : ℕ) → q < 5 * rounds_of w + 1 → block_at q (record_plain_of w b states).1 ≡ cipher_at w b (get_or (points (rounds_of w)) q block)
  unfolding plain_record
  plain-state q hq =
      simp (lw, eq-eqb (length b) 16 lb, eq-eqb (length states) (16 * (5 * rounds_of w + 1)) ls)
      (state_in (plain_record (rounds_of w) w b) (run_sizes (plain w) (plain_sized w) (points (rounds_of w)) b lb) q ∙ plain_at w b (rounds_of w) q (within q hq))

  -- the last is what encrypt writes
  cipher_is : (out : List ℕ) → length out ≡ 16 → (encrypt_of w b out).1 ≡ cipher_at w b (uncovered (rounds_of w - 1))
  unfolding cipher_at
  cipher_is out lo =
      let e : rounds_of w ≡ suc (rounds_of w - 1) = omega (arith, pos) in
      simp (lw, eq-eqb (length b) 16 lb, eq-eqb (length out) 16 lo) (ap (λ (n : ℕ). cipher n w b) e)

  last-state : 5 * rounds_of w < 5 * rounds_of w + 1
  last-state = omega arith

  pub plain-last : (out : List ℕ) → length out ≡ 16 → block_at (5 * rounds_of w) (record_plain_of w b states).1 ≡ (encrypt_of w b out).1
  plain-last out lo = plain-state (5 * rounds_of w) last-state ∙ rw (run_end (rounds_of w) pos) (sym (cipher_is out lo))

  module _ (M : List ℕ) (lm : length M ≡ 16) (v : List ℕ) (hv : Offsets v) (d : ℕ) (t : T (taken d)) where
    -- and what record_masked writes is the masked record
    pub masked_states : (q : ℕ) → block_at q (record_masked_of w b M v d states).1 ≡ get_or (masked_record (rounds_of w) M v d w b) q []
    masked_states q =
        simp (lw, eq-eqb (length b) 16 lb, eq-eqb (length M) 16 lm, eq-eqb (length v) 16 hv.0, low_offsets v hv, is_true (taken d) t, eq-eqb (length states) (16 * (5 * rounds_of w + 1)) ls)
        (state_in (masked_record (rounds_of w) M v d w b) (masked_sizes M v d w (rounds_of w) b) q)

    -- so its state q is that of CIPHER under the mask that the mask table has there
    pub masked_state : (q : ℕ) → q < 5 * rounds_of w + 1
        → block_at q (record_masked_of w b M v d states).1 ≡ cipher_at w b (get_or (points (rounds_of w)) q block) ⊞ mask_at M v d (get_or (points (rounds_of w)) q block)
    masked_state q hq = masked_states q ∙ relation_cipher M v d w (rounds_of w) b q (within q hq)

    pub masked_last : (out : List ℕ) → length out ≡ 16 → block_at (5 * rounds_of w) (record_masked_of w b M v d states).1 ≡ (encrypt_of w b out).1
    unfolding mask_by cipher_at
    masked_last out lo =
        masked_state (5 * rounds_of w) last-state
        ∙ rw (run_end (rounds_of w) pos) (add_none (cipher (suc (rounds_of w - 1)) w b) (cipher_size (suc (rounds_of w - 1)) w b) ∙ sym (cipher_is out lo))

    pub record_byte : (q i : ℕ) → q < 5 * rounds_of w + 1 → i < 16
        → at (record_masked_of w b M v d states).1 (16 * q + i) ≡ at (cipher_at w b (get_or (points (rounds_of w)) q block)) i ⊕ at (mask_at M v d (get_or (points (rounds_of w)) q block)) i
    record_byte q i hq hi = byte_in (record_masked_of w b M v d states).1 _ _ q i hi (masked_state q hq)

-- with sixteen masks 00 record_masked answers as record_plain does, and writes what it writes
pub zero_record : (w b states v : List ℕ) (d : ℕ) → Offsets v → T (taken d) → record_masked_of w b bare v d states ≡ record_plain_of w b states
zero_record w b states v d hv t =
    elim (ℕ_discrete (length b) 16) [
      | yes e ↦ simp (eq-eqb (length v) 16 hv.0, low_offsets v hv, is_true (taken d) t, zero_masks v d w (rounds_of w) b e)
      | no e ↦ simp (ne_eqb (length b) 16 e)
    ]
