-- One look-up.
-- Assumes nothing.
use Rattle.tower.specs.Tower.{td2}
use Rattle.tower.proofs.Halves.{td2_half}
use Rattle.tower.proofs.Looked.{looked}
use Rattle.tower.proofs.tables.Tables.sum.Goals as goal

pub returns : goal.returns
returns c = let a = c.args in looked td2 _ _ _ _ a.self.as_named.1 a.x.is_half a.y.is_half c.entry-value.ensures

pub invariant_of-result : goal.invariant_of-result
invariant_of-result c =
    let a = c.args in
    record { is_half = rw (looked td2 _ _ _ _ a.self.as_named.1 a.x.is_half a.y.is_half c.entry-value.ensures) (td2_half _ _ a.x.is_half a.y.is_half) }
