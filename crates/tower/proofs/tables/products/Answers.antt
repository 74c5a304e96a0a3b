-- The stored table is the formula's, entry by entry.
-- Assumes nothing.
use mathlib.Core.Path.{refl}
use Rattle.aes.specs.Byte.{table}
use Rattle.tower.specs.Tower.{times_by, double_half, ◌⊗◌}
use Rattle.tower.proofs.tables.products.Goals as goal

pub returns : goal.returns
unfolding table times_by double_half ◌⊗◌
returns c =
    refl
