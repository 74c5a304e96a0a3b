-- Each turn writes one more byte.
-- Assumes nothing.
use Rattle.aes.specs.State.{at}
use Rattle.aes.proofs.Fill.{Filled}
use Rattle.aes.proofs.key.put_word.Given as goal

abbrev pub invariant-loop-i : goal.invariant-loop-i
invariant-loop-i l = Filled (at l.b) 4 l.i l.lent
