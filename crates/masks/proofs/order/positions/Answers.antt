-- The list as document 002 prints it.
-- Assumes nothing.
use mathlib.Core.Path.{refl}
use Rattle.masks.specs.Order.{box_order}
use Rattle.masks.proofs.order.positions.Goals as goal

pub returns : goal.returns
unfolding box_order
returns c = refl
