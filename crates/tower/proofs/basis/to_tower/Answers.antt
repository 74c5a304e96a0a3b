-- What the bits bring.
-- Assumes nothing.
use Rattle.tower.specs.Tower.{to_tower}
use Rattle.tower.proofs.basis.to_tower.Goals as goal

pub returns : goal.returns
unfolding to_tower
returns c = c.brought.ensures
