-- Before round r, the rounds below it are done.
-- Assumes nothing.
use mathlib.Core.Path.{◌≡◌}
use Prim.Native.Nat.{◌-◌}
use Rattle.aes.specs.Cipher.{rounds}
use Rattle.aes.proofs.cipher.encrypted.Given as goal

abbrev pub invariant-loop-r : goal.invariant-loop-r
invariant-loop-r l = l.s ≡ rounds l.w.bytes.now l.initial.s (l.r - 1)
