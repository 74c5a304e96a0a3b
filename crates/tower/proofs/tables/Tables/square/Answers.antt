-- One look-up.
-- Assumes nothing.
use Rattle.tower.specs.Tower.{td1}
use Rattle.tower.proofs.Halves.{td1_half}
use Rattle.tower.proofs.Looked.{looked}
use Rattle.tower.proofs.tables.Tables.square.Goals as goal

pub returns : goal.returns
returns c = let a = c.args in looked td1 _ _ _ _ a.self.as_named.0 a.x.is_half a.m.is_half c.entry-value.ensures

pub invariant_of-result : goal.invariant_of-result
invariant_of-result c =
    let a = c.args in
    record { is_half = rw (looked td1 _ _ _ _ a.self.as_named.0 a.x.is_half a.m.is_half c.entry-value.ensures) (td1_half _ _ a.x.is_half a.m.is_half) }
