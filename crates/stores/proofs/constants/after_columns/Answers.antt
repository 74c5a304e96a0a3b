-- The test over the sixteen constants.
-- Assumes nothing.
use mathlib.Core.Path.{refl}
use Rattle.aes.specs.Field.{x_times, times, ◌•◌}
use Rattle.aes.specs.State.{dot, inv_mix_columns, add_round_key}
use Rattle.masks.specs.Mask.{published, mask, in_row, after_columns, constants}
use Rattle.stores.proofs.constants.after_columns.Goals as goal

pub returns : goal.returns
unfolding x_times times ◌•◌ dot inv_mix_columns add_round_key published mask in_row after_columns constants
returns c = refl
