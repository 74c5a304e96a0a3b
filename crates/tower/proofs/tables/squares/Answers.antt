-- The stored table is the formula's, entry by entry.
-- Assumes nothing.
use mathlib.Core.Path.{refl}
use Rattle.aes.specs.Byte.{table}
use Rattle.tower.specs.Tower.{times_by, double_half, constant, ◌⊗◌}
use Rattle.tower.proofs.tables.squares.Goals as goal

pub returns : goal.returns
unfolding table times_by double_half constant ◌⊗◌
returns c =
    refl
