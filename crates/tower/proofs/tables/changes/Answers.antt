-- The stored constants are the formula's, label by label.
-- Assumes nothing.
use mathlib.Core.Path.{refl}
use Rattle.aes.specs.Byte.{from_bits, table}
use Rattle.aes.specs.Box.{affine}
use Rattle.masks.specs.Mask.{published}
use Rattle.tower.specs.Tower.{linear}
use Rattle.tower.proofs.tables.changes.Goals as goal

pub returns : goal.returns
unfolding table published linear affine from_bits
returns c =
    refl
