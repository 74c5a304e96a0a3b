-- One look-up.
-- Assumes nothing.
use Rattle.tower.specs.Tower.{tm}
use Rattle.tower.proofs.Halves.{tm_half}
use Rattle.tower.proofs.Looked.{looked}
use Rattle.tower.proofs.tables.Tables.product.Goals as goal

pub returns : goal.returns
returns c = let a = c.args in looked tm _ _ _ _ a.self.as_named.2 a.x.is_half a.y.is_half c.entry-value.ensures

pub invariant_of-result : goal.invariant_of-result
invariant_of-result c =
    let a = c.args in
    record { is_half = rw (looked tm _ _ _ _ a.self.as_named.2 a.x.is_half a.y.is_half c.entry-value.ensures) (tm_half _ _ a.x.is_half a.y.is_half) }
