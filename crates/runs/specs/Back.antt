-- The masked decryption: what it does to the covered state at each recorded point.
-- Assumes nothing.
use Rattle.std.specs.Prelude.{List, [], ◌∷◌, ◌++◌, ℕ, zero, suc, ◌-◌, ◌*◌}
use Rattle.aes.specs.Box.{inv_s_box}
use Rattle.aes.specs.State.{at, state, inv_shift_rows, inv_mix_columns}
use Rattle.aes.specs.Key.{round_key}
use Rattle.aes.specs.Record.{run, last}
use Rattle.masks.specs.Mask.{◌⊞◌, label, mask, masked_box, after_rows, after_columns}

-- the points at which a state is recorded, each with its round, counted from 0; keyed r is after key nr - r
pub data Back : Type 0 where
  block : Back
  keyed unshifted corrected unboxed unmixed restored uncovered : ℕ → Back

-- a whole round, and the last one, which has no INVMIXCOLUMNS
abbrev pub six : ℕ → List Back
six r = unshifted r ∷ corrected r ∷ unboxed r ∷ keyed (suc r) ∷ unmixed r ∷ restored r ∷ []

abbrev pub closing : ℕ → List Back
closing r = unshifted r ∷ corrected r ∷ unboxed r ∷ keyed (suc r) ∷ uncovered r ∷ []

unfoldable pub sixes : ℕ → List Back
sixes zero = []
sixes (suc n) = sixes n ++ six n

-- the points of a decryption of nr rounds: 85 for 14
unfoldable pub back_points : ℕ → List Back
back_points nr = (block ∷ keyed 0 ∷ sixes (nr - 1)) ++ closing (nr - 1)

-- at the offsets v over the masks M, whose labels advance by d from round to round, and the schedule w
unfoldable pub uncovering : ℕ → List ℕ → List ℕ → ℕ → List ℕ → Back → List ℕ → List ℕ
uncovering nr M v d w block s = s ⊞ mask M v 0
uncovering nr M v d w (keyed r) s = s ⊞ round_key w (nr - r)
uncovering nr M v d w (unshifted r) s = inv_shift_rows s
uncovering nr M v d w (corrected r) s = s ⊞ after_rows (mask M v (d * r))
uncovering nr M v d w (unboxed r) s = state (λ i. masked_box inv_s_box M d (label v (d * r) i) (at s i))
uncovering nr M v d w (unmixed r) s = inv_mix_columns s
uncovering nr M v d w (restored r) s = s ⊞ after_columns (mask M v (d * suc r))
uncovering nr M v d w (uncovered r) s = s ⊞ mask M v (d * suc r)

-- the recorded states of a decryption of nr rounds, and the block that it ends with
unfoldable pub masked_back_record : ℕ → List ℕ → List ℕ → ℕ → List ℕ → List ℕ → List (List ℕ)
masked_back_record nr M v d w input = run (uncovering nr M v d w) input (back_points nr)

unfoldable pub masked_inv_cipher : ℕ → List ℕ → List ℕ → ℕ → List ℕ → List ℕ → List ℕ
masked_inv_cipher nr M v d w input = last input (masked_back_record nr M v d w input)
