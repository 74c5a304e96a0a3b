-- Each turn fills one more byte.
-- Assumes nothing.
use Rattle.aes.specs.State.{at}
use Rattle.aes.proofs.Fill.{Filled}
use Rattle.aes.proofs.state.substitute.Given as goal

abbrev pub invariant-loop-i : goal.invariant-loop-i
invariant-loop-i l = Filled (λ k. at l.lent (at l.s k)) 16 l.i l.r
