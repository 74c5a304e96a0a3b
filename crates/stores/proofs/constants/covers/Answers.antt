-- The test over the masks of sixteen labels.
-- Assumes nothing.
use mathlib.Core.Path.{refl}
use Rattle.masks.specs.Mask.{published, mask, in_row, covers_of}
use Rattle.stores.proofs.constants.covers.Goals as goal

pub returns : goal.returns
unfolding published mask in_row covers_of
returns c = refl
