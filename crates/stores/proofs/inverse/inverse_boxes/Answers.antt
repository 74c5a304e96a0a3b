-- The test over the whole store.
-- Assumes nothing.
use mathlib.Core.Path.{sym}
use Rattle.aes.specs.Byte.{table}
use Rattle.masks.specs.Mask.{published, in_row}
use Rattle.stores.proofs.Store.{looked_up, inv_boxes, published_inverse_boxes}
use Rattle.stores.proofs.inverse.inverse_boxes.Goals as goal

pub returns : goal.returns
unfolding inv_boxes table published in_row looked_up
returns c = sym published_inverse_boxes
