-- What the rounds left would make of the state is what they all would have made of the first.
-- Assumes nothing.
use mathlib.Core.Path.{◌≡◌}
use Prim.Native.Nat.{◌-◌}
use Rattle.aes.specs.Cipher.{inv_rounds}
use Rattle.aes.proofs.cipher.decrypted.Given as goal

abbrev pub invariant-loop-r : goal.invariant-loop-r
invariant-loop-r l = inv_rounds l.w.bytes.now l.s (l.w.rounds - l.r) ≡ inv_rounds l.w.bytes.now l.initial.s (l.w.rounds - 1)
