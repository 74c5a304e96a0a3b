-- The test over the seven round constants.
-- Assumes nothing.
use mathlib.Core.Path.{refl}
use Rattle.aes.specs.Byte.{table}
use Rattle.aes.specs.Field.{x_times, times, ◌•◌, raise}
use Rattle.aes.proofs.tables.round_constants.Goals as goal

pub returns : goal.returns
unfolding table raise ◌•◌ times x_times
returns c = refl
