-- The test over the sixteen constants.
-- Assumes nothing.
use mathlib.Core.Path.{refl}
use Rattle.aes.specs.State.{inv_shift_rows, add_round_key}
use Rattle.masks.specs.Mask.{published, mask, in_row, after_rows, constants}
use Rattle.stores.proofs.constants.after_rows.Goals as goal

pub returns : goal.returns
unfolding inv_shift_rows add_round_key published mask in_row after_rows constants
returns c = refl
