-- Each turn fills one more byte.
-- Assumes nothing.
use Prim.Native.Nat.{◌*◌, ◌%◌}
use Rattle.aes.specs.State.{at}
use Rattle.aes.proofs.Fill.{Filled}
use Rattle.aes.proofs.state.moved.Given as goal

abbrev pub invariant-loop-i : goal.invariant-loop-i
invariant-loop-i l = Filled (λ k. at l.s (l.step * k % 16)) 16 l.i l.r
