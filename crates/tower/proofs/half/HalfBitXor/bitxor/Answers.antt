-- Halves stay halves.
-- Assumes nothing.
use Rattle.tower.proofs.Halves.{half_xor}
use Rattle.tower.proofs.half.HalfBitXor.bitxor.Goals as goal

pub invariant_of-result : goal.invariant_of-result
invariant_of-result c = record { is_half = half_xor _ _ c.args.self.is_half c.args.other.is_half }
