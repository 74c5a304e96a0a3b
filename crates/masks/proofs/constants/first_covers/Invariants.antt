-- Each turn fills one row more.
-- Assumes nothing.
use Rattle.aes.specs.Held.{Holds}
use Rattle.masks.specs.Mask.{one, mask, in_row}
use Rattle.masks.proofs.constants.first_covers.Given as goal

abbrev pub invariant-loop-n : goal.invariant-loop-n
invariant-loop-n l = Holds 256 (in_row (mask l.fn.masks (one 0)) l.n) l.r
