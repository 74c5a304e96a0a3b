-- Each turn fills one more byte.
-- Assumes nothing.
use Prim.Native.Nat.{◌+◌, ◌*◌}
use Rattle.aes.specs.State.{at}
use Rattle.aes.proofs.Fill.{Filled}
use Rattle.masks.proofs.constants.cover.Given as goal

abbrev pub invariant-loop-i : goal.invariant-loop-i
invariant-loop-i l = Filled (λ i. at l.covers (16 * l.n + i)) 16 l.i l.m
