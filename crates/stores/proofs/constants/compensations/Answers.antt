-- The test over the sixteen constants.
-- Assumes nothing.
use mathlib.Core.Path.{refl}
use Rattle.aes.specs.Field.{x_times, times, ◌•◌}
use Rattle.aes.specs.State.{shift_rows, dot, mix_columns, add_round_key}
use Rattle.masks.specs.Mask.{published, mask, in_row, compensation, constants}
use Rattle.stores.proofs.constants.compensations.Goals as goal

pub returns : goal.returns
unfolding x_times times ◌•◌ dot shift_rows mix_columns add_round_key published mask in_row compensation constants
returns c = refl
