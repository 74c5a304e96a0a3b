-- Which mask lies on the state at each recorded point of a masked decryption, and the plain decryption at these points: step by step,
-- and as the states of INVCIPHER.
-- Assumes nothing.
use Rattle.std.specs.Prelude.{List, ℕ, zero, suc, ◌-◌}
use Rattle.aes.specs.State.{inv_sub_bytes, inv_shift_rows, inv_mix_columns, add_round_key}
use Rattle.aes.specs.Key.{round_key}
use Rattle.aes.specs.Cipher.{inv_cipher}
use Rattle.aes.specs.Record.{run}
use Rattle.runs.specs.Back.{Back, block, keyed, unshifted, corrected, unboxed, unmixed, restored, uncovered, back_points}
use Rattle.masks.specs.MaskTable.{bare, stepping}

-- the mask at each point over any sequence K of masks, and over that of a run, as for an encryption
unfoldable pub mask_back_by : (ℕ → List ℕ) → Back → List ℕ
mask_back_by K block = K 0
mask_back_by K (keyed r) = K r
mask_back_by K (unshifted r) = inv_shift_rows (K r)
mask_back_by K (corrected r) = K r
mask_back_by K (unboxed r) = K (suc r)
mask_back_by K (unmixed r) = inv_mix_columns (K (suc r))
mask_back_by K (restored r) = K (suc r)
mask_back_by K (uncovered r) = bare

abbrev pub mask_back_at : List ℕ → List ℕ → ℕ → Back → List ℕ
mask_back_at M v d = mask_back_by (stepping M v d)

-- INVCIPHER, which skips covering, corrections and uncovering: there the state is the input, or that of the point before
unfoldable pub plain_back : ℕ → List ℕ → Back → List ℕ → List ℕ
plain_back nr w block s = s
plain_back nr w (keyed r) s = add_round_key s (round_key w (nr - r))
plain_back nr w (unshifted r) s = inv_shift_rows s
plain_back nr w (corrected r) s = s
plain_back nr w (unboxed r) s = inv_sub_bytes s
plain_back nr w (unmixed r) s = inv_mix_columns s
plain_back nr w (restored r) s = s
plain_back nr w (uncovered r) s = s

unfoldable pub plain_back_record : ℕ → List ℕ → List ℕ → List (List ℕ)
plain_back_record nr w input = run (plain_back nr w) input (back_points nr)

-- the state after key nr and r rounds of INVCIPHER, which go from nr - 1 down: with it the next round begins
unfoldable pub inv_begun : ℕ → List ℕ → List ℕ → ℕ → List ℕ
inv_begun nr w input zero = add_round_key input (round_key w nr)
inv_begun nr w input (suc r) = inv_mix_columns (add_round_key (inv_sub_bytes (inv_shift_rows (inv_begun nr w input r))) (round_key w (nr - suc r)))

-- the state of INVCIPHER at each point
unfoldable pub inv_cipher_at : ℕ → List ℕ → List ℕ → Back → List ℕ
inv_cipher_at nr w input block = input
inv_cipher_at nr w input (keyed zero) = inv_begun nr w input 0
inv_cipher_at nr w input (keyed (suc r)) = add_round_key (inv_sub_bytes (inv_shift_rows (inv_begun nr w input r))) (round_key w (nr - suc r))
inv_cipher_at nr w input (unshifted r) = inv_shift_rows (inv_begun nr w input r)
inv_cipher_at nr w input (corrected r) = inv_shift_rows (inv_begun nr w input r)
inv_cipher_at nr w input (unboxed r) = inv_sub_bytes (inv_shift_rows (inv_begun nr w input r))
inv_cipher_at nr w input (unmixed r) = inv_begun nr w input (suc r)
inv_cipher_at nr w input (restored r) = inv_begun nr w input (suc r)
inv_cipher_at nr w input (uncovered r) = inv_cipher nr w input
