-- The masks as document 002 prints them.
-- Assumes nothing.
use mathlib.Core.Path.{refl}
use Rattle.masks.specs.Mask.{published}
use Rattle.masks.proofs.constants.published.Goals as goal

pub returns : goal.returns
unfolding published
returns c = refl
