-- Each turn fills one more byte.
-- Assumes nothing.
use Prim.Native.Nat.{◌+◌, ◌*◌}
use Rattle.aes.specs.State.{at}
use Rattle.aes.proofs.Fill.{Filled}
use Rattle.lent.proofs.blocks.sixteen.Given as goal

abbrev pub invariant-loop-i : goal.invariant-loop-i
invariant-loop-i l = Filled (λ k. at l.lent (16 * l.n + k)) 16 l.i l.r
