-- Each turn fills one more byte.
-- Assumes nothing.
use Prim.Native.Nat.{◌-◌, ◌%◌}
use Rattle.aes.specs.State.{at}
use Rattle.aes.proofs.Fill.{Filled}
use Rattle.masks.proofs.constants.twice.Given as goal

abbrev pub invariant-loop-i : goal.invariant-loop-i
invariant-loop-i l = Filled (λ j. at l.masks (j % 16)) 32 l.i l.r

abbrev pub decreases-loop-i : goal.decreases-loop-i
decreases-loop-i l = 32 - l.i
