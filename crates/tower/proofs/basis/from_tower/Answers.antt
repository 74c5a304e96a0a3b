-- What the bits bring.
-- Assumes nothing.
use Rattle.tower.specs.Tower.{from_tower}
use Rattle.tower.proofs.basis.from_tower.Goals as goal

pub returns : goal.returns
unfolding from_tower
returns c = c.brought.ensures
