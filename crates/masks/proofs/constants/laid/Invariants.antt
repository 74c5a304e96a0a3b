-- Each turn fills one more byte.
-- Assumes nothing.
use Rattle.aes.specs.State.{at}
use Rattle.aes.proofs.Fill.{Filled}
use Rattle.masks.proofs.constants.laid.Given as goal

abbrev pub invariant-loop-i : goal.invariant-loop-i
invariant-loop-i l = Filled (at l.c) 16 l.i l.part
