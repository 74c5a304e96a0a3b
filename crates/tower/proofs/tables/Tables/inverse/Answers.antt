-- One look-up.
-- Assumes nothing.
use Rattle.tower.specs.Tower.{tinv}
use Rattle.tower.proofs.Halves.{tinv_half}
use Rattle.tower.proofs.Looked.{looked}
use Rattle.tower.proofs.tables.Tables.inverse.Goals as goal

pub returns : goal.returns
returns c = let a = c.args in looked tinv _ _ _ _ a.self.as_named.3 a.x.is_half a.m.is_half c.entry-value.ensures

pub invariant_of-result : goal.invariant_of-result
invariant_of-result c =
    let a = c.args in
    record { is_half = rw (looked tinv _ _ _ _ a.self.as_named.3 a.x.is_half a.m.is_half c.entry-value.ensures) (tinv_half _ _ a.x.is_half a.m.is_half) }
