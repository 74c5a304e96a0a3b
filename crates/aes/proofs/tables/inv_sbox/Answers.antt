-- The test over the whole inverse S-box.
-- Assumes nothing.
use mathlib.Core.Path.{sym}
use Rattle.aes.proofs.Boxes.{boxes, inv_boxes_are}
use Rattle.aes.proofs.tables.inv_sbox.Goals as goal

pub returns : goal.returns
unfolding boxes
returns c = sym inv_boxes_are
