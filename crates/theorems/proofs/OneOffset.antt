-- One offset o is the record o, o+1 .. o+15: what is proved of every record, said of one offset, with no proof of its own.
-- Assumes nothing.
use mathlib.Core.Path.{◌≡◌, sym, subst}
use mathlib.Core.Bool.{true}
use mathlib.Core.List.{List}
use Prim.Native.Nat.{ℕ, ◌+◌, ◌*◌, ◌<◌}
use lib.Dec.{T}
use lib.ListN.{length, get_or}
use Rattle.aes.specs.State.{at}
use Rattle.aes.specs.Key.{rounds_of}
use Rattle.aes.specs.Record.{block, points, cipher_at}
use Rattle.aes.specs.Reply.{scheduled, taken}
use Rattle.aes.specs.Calls.{encrypt_of, decrypt_of}
use Rattle.masks.specs.Mask.{◌⊞◌, one}
use Rattle.masks.proofs.Counted.{one_on}
use Rattle.runs.specs.Back.{back_points}
use Rattle.runs.specs.Back as back
use Rattle.masked.specs.Calls.{block_at, encrypt_published_of, encrypt_masked_of, record_masked_of, decrypt_published_of, decrypt_masked_of, record_masked_decryption_of}
use Rattle.beside.specs.Fitness.{fitness_of}
use Rattle.masks.specs.MaskTable.{mask_at}
use Rattle.theorems.specs.BackTable.{mask_back_at, inv_cipher_at}
use Rattle.theorems.specs.Balance.{Balanced, single, single_back}
use Rattle.theorems.proofs.Records.{one_offsets}
use Rattle.theorems.proofs.Result.{encrypt_published_is, encrypt_masked_is}
use Rattle.theorems.proofs.BackResult.{decrypt_published_is, decrypt_masked_is}
use Rattle.theorems.proofs.RecordStates.{masked_state}
use Rattle.theorems.proofs.BackStates.{back_state}
use Rattle.theorems.proofs.RecordBalance.{fit_balance}
use Rattle.theorems.proofs.BackBalance.{back_balance}

-- the result
module _ (w b out : List ℕ) (o d : ℕ) (t : T (taken d)) where
  pub encrypt_published_one : encrypt_published_of w b out (one o) d 0 ≡ encrypt_of w b out
  encrypt_published_one = encrypt_published_is w b out (one o) d (one_offsets o) t

  pub decrypt_published_one : decrypt_published_of w b out (one o) d ≡ decrypt_of w b out
  decrypt_published_one = decrypt_published_is w b out (one o) d (one_offsets o) t

  module _ (M : List ℕ) (lm : length M ≡ 16) where
    pub encrypt_masked_one : encrypt_masked_of w b out M (one o) d 0 ≡ encrypt_of w b out
    encrypt_masked_one = encrypt_masked_is w b out M (one o) d lm (one_offsets o) t

    pub decrypt_masked_one : decrypt_masked_of w b out M (one o) d ≡ decrypt_of w b out
    decrypt_masked_one = decrypt_masked_is w b out M (one o) d lm (one_offsets o) t

module _ (w b states : List ℕ) (lw : scheduled (length w) ≡ true) (lb : length b ≡ 16) (d : ℕ) (t : T (taken d)) (M : List ℕ) where
  -- the relation
  pub masked_state_one : length states ≡ 16 * (5 * rounds_of w + 1) → length M ≡ 16 → (o q : ℕ) → q < 5 * rounds_of w + 1
      → block_at q (record_masked_of w b M (one o) d states).1 ≡ cipher_at w b (get_or (points (rounds_of w)) q block) ⊞ mask_at M (one o) d (get_or (points (rounds_of w)) q block)
  masked_state_one ls lm o = masked_state w b states lw lb ls M lm (one o) (one_offsets o) d t

  pub back_state_one : length states ≡ 16 * (6 * rounds_of w + 1) → length M ≡ 16 → (o q : ℕ) → q < 6 * rounds_of w + 1
      → block_at q (record_masked_decryption_of w b M (one o) d states).1 ≡ inv_cipher_at (rounds_of w) w b (get_or (back_points (rounds_of w)) q back.block) ⊞ mask_back_at M (one o) d (get_or (back_points (rounds_of w)) q back.block)
  back_state_one ls lm o = back_state w b states lw lb ls M lm (one o) (one_offsets o) d t

  -- the balance, over the sixteen offsets
  pub fit_balance_one : (fitness_of M).1 ≡ 1 → length states ≡ 16 * (5 * rounds_of w + 1) → (q i : ℕ) → q < 5 * rounds_of w + 1 → T (single (get_or (points (rounds_of w)) q block)) → i < 16
      → Balanced (λ o. at (record_masked_of w b M (one o) d states).1 (16 * q + i))
  fit_balance_one fit ls q i hq s hi =
      subst Balanced (λ j o. at (record_masked_of w b M (sym (one_on o) j) d states).1 (16 * q + i)) (fit_balance M fit (one 0) d t w b states lw lb ls q i hq s hi)

  pub back_balance_one : (fitness_of M).1 ≡ 1 → length states ≡ 16 * (6 * rounds_of w + 1) → (q i : ℕ) → q < 6 * rounds_of w + 1 → T (single_back (get_or (back_points (rounds_of w)) q back.block)) → i < 16
      → Balanced (λ o. at (record_masked_decryption_of w b M (one o) d states).1 (16 * q + i))
  back_balance_one fit ls q i hq s hi =
      subst Balanced (λ j o. at (record_masked_decryption_of w b M (sym (one_on o) j) d states).1 (16 * q + i)) (back_balance M fit (one 0) d t w b states lw lb ls q i hq s hi)
