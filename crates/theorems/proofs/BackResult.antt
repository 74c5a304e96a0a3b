-- What a masked decryption ends with: INVCIPHER of FIPS 197, whatever masks, offsets and step are.
-- Assumes nothing.
use mathlib.Core.Path.{◌≡◌}
use mathlib.Core.List.{List, ◌∷◌, ◌++◌, map}
use Prim.Native.Nat.{ℕ, ◌-◌, ◌*◌}
use borrow.Author.Tests.{eq-eqb}
use lib.Dec.{T}
use lib.ListN.{length}
use Rattle.aes.specs.Key.{rounds_of}
use Rattle.aes.specs.Cipher.{inv_cipher}
use Rattle.aes.specs.Record.{run, last}
use Rattle.aes.specs.Reply.{taken}
use Rattle.aes.specs.Calls.{decrypt_of}
use Rattle.aes.proofs.Replies.{is_true}
use Rattle.masks.specs.Mask.{published, ◌⊞◌, mask}
use Rattle.runs.specs.Back.{block, keyed, closing, sixes, back_points, masked_inv_cipher}
use Rattle.theorems.specs.Ways.{Offsets}
use Rattle.masked.specs.Calls.{decrypt_masked_of, decrypt_published_of}
use Rattle.masks.specs.MaskTable.{bare}
use Rattle.theorems.specs.Summed.{summed}
use Rattle.theorems.specs.BackTable.{mask_back_by, mask_back_at, plain_back, plain_back_record}
use Rattle.theorems.proofs.CallLaws.{inv_cipher_size}
use Rattle.theorems.proofs.Cover.{last-map, last-summed}
use Rattle.theorems.proofs.PlainBack.{back_record_last}
use Rattle.theorems.proofs.BackRelation.{back_relation}
use Rattle.theorems.proofs.Result.{add_none}
use Rattle.theorems.proofs.Records.{low_offsets}

-- no mask lies on the finished block
last-mask : (M v : List ℕ) (d nr : ℕ) (m : List ℕ) → last m (map (mask_back_at M v d) (back_points nr)) ≡ bare
unfolding back_points last mask_back_by
last-mask M v d nr m = last-map (mask_back_at M v d) (block ∷ keyed 0 ∷ sixes (nr - 1)) (closing (nr - 1)) m

last-state : (M v : List ℕ) (d nr : ℕ) (w b : List ℕ)
    → last b (summed (plain_back_record nr w b) (map (mask_back_at M v d) (back_points nr))) ≡ last b (plain_back_record nr w b) ⊞ last b (map (mask_back_at M v d) (back_points nr))
unfolding back_points run summed last plain_back plain_back_record mask_back_by
last-state M v d nr w b = last-summed (plain_back nr w) (mask_back_at M v d) (keyed 0 ∷ (sixes (nr - 1) ++ closing (nr - 1))) (mask M v (d * 0)) b

pub masked_inv_cipher_lem : (M v : List ℕ) (d : ℕ) (w : List ℕ) (nr : ℕ) (b : List ℕ) → masked_inv_cipher nr M v d w b ≡ inv_cipher nr w b
unfolding masked_inv_cipher
masked_inv_cipher_lem M v d w nr b =
    rw (back_relation M v d nr w b, last-state M v d nr w b, back_record_last nr w b, last-mask M v d nr b)
    (add_none (inv_cipher nr w b) (inv_cipher_size nr w b))

-- At the calls: whatever the masks, the offsets and the step are, they write what the plain call writes.
pub decrypt_masked_is : (w b out M v : List ℕ) (d : ℕ) → length M ≡ 16 → Offsets v → T (taken d) → decrypt_masked_of w b out M v d ≡ decrypt_of w b out
decrypt_masked_is w b out M v d lm h t =
    simp (eq-eqb (length M) 16 lm, eq-eqb (length v) 16 h.0, low_offsets v h, is_true (taken d) t, masked_inv_cipher_lem M v d w (rounds_of w) b)

pub decrypt_published_is : (w b out v : List ℕ) (d : ℕ) → Offsets v → T (taken d) → decrypt_published_of w b out v d ≡ decrypt_of w b out
decrypt_published_is w b out v d h t = simp (eq-eqb (length v) 16 h.0, low_offsets v h, is_true (taken d) t, masked_inv_cipher_lem published v d w (rounds_of w) b)
