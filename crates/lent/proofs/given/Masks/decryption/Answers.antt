-- Masks have sixteen bytes.
-- Assumes nothing.
use Rattle.lent.proofs.Owned.{field_bytes}
use Rattle.lent.proofs.given.Masks.decryption.Goals as goal

pub invariant_of-result-clause-whole : goal.invariant_of-result-clause-whole
invariant_of-result-clause-whole c = field_bytes {xs = c.args.self.bytes} c.well_formed.0.1.1.0
