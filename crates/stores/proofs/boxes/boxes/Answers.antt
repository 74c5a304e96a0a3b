-- The test over the whole store.
-- Assumes nothing.
use mathlib.Core.Path.{sym}
use Rattle.aes.specs.Byte.{table}
use Rattle.aes.proofs.Boxes.{boxes}
use Rattle.masks.specs.Mask.{published, in_row}
use Rattle.stores.proofs.Store.{looked_up, published_boxes}
use Rattle.stores.proofs.boxes.boxes.Goals as goal

pub returns : goal.returns
unfolding boxes table published in_row looked_up
returns c = sym published_boxes
