-- The test over the places of sixteen labels.
-- Assumes nothing.
use mathlib.Core.Path.{refl}
use Rattle.aes.specs.Byte.{table}
use Rattle.masks.specs.Mask.{in_row}
use Rattle.masks.specs.Order.{boxes_at, places_of}
use Rattle.masks.proofs.places.first_places.Goals as goal

pub returns : goal.returns
unfolding table in_row boxes_at places_of
returns c = refl
