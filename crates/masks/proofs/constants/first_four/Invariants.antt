-- Each turn fills one constant more.
-- Assumes nothing.
use Rattle.aes.specs.Held.{Holds}
use Rattle.masks.specs.Mask.{one, mask, in_row}
use Rattle.masks.specs.Kinds.{constant_of}
use Rattle.masks.proofs.constants.first_four.Given as goal

abbrev pub invariant-loop-n : goal.invariant-loop-n
invariant-loop-n l = Holds 256 (in_row (λ k. constant_of l.kind (mask l.fn.masks (one 0) k)) l.n) l.r
