-- The test over the whole S-box.
-- Assumes nothing.
use mathlib.Core.Path.{sym}
use Rattle.aes.proofs.Boxes.{boxes, boxes_are}
use Rattle.aes.proofs.tables.sbox.Goals as goal

pub returns : goal.returns
unfolding boxes
returns c = sym boxes_are
