-- The masked run: what it does to the covered state at each recorded point.
-- Assumes nothing.
use Rattle.std.specs.Prelude.{List, ℕ, suc, ◌*◌}
use Rattle.aes.specs.Box.{s_box}
use Rattle.aes.specs.State.{at, state, shift_rows, mix_columns}
use Rattle.aes.specs.Key.{round_key}
use Rattle.aes.specs.Record.{Point, block, keyed, boxed, shifted, mixed, compensated, closed, uncovered, points, run, last}
use Rattle.masks.specs.Mask.{◌⊞◌, label, mask, masked_box, compensation}

-- at the offsets v over the masks M, whose labels advance by d from round to round, and the schedule w
unfoldable pub covered : List ℕ → List ℕ → ℕ → List ℕ → Point → List ℕ → List ℕ
covered M v d w block s = s ⊞ mask M v 0
covered M v d w (keyed r) s = s ⊞ round_key w r
covered M v d w (boxed r) s = state (λ i. masked_box s_box M d (label v (d * r) i) (at s i))
covered M v d w (shifted r) s = shift_rows s
covered M v d w (mixed r) s = mix_columns s
covered M v d w (compensated r) s = s ⊞ compensation (mask M v (d * suc r))
covered M v d w (closed r) s = s ⊞ round_key w (suc r)
covered M v d w (uncovered r) s = s ⊞ shift_rows (mask M v (d * suc r))

-- the recorded states of a run of nr rounds, and the block that it ends with
unfoldable pub masked_record : ℕ → List ℕ → List ℕ → ℕ → List ℕ → List ℕ → List (List ℕ)
masked_record nr M v d w input = run (covered M v d w) input (points nr)

unfoldable pub masked_cipher : ℕ → List ℕ → List ℕ → ℕ → List ℕ → List ℕ → List ℕ
masked_cipher nr M v d w input = last input (masked_record nr M v d w input)
