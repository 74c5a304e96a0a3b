-- Each turn copies one more byte.
-- Assumes nothing.
use lib.ListN.{length}
use Rattle.aes.specs.State.{at}
use Rattle.aes.proofs.Fill.{Filled}
use Rattle.cbc.proofs.chain.copy.Given as goal

abbrev pub invariant-loop-i : goal.invariant-loop-i
invariant-loop-i l = Filled (at l.from) (length l.from) l.i l.to
