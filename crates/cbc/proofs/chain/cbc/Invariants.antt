-- After k turns the first k blocks stand in the output, and the last block of ciphertext is at hand.
-- Assumes nothing.
use mathlib.Core.Path.{◌≡◌}
use Prim.Native.Nat.{◌*◌}
use Rattle.aes.specs.Held.{Holds}
use Rattle.masks.specs.Mask.{in_row}
use Rattle.cbc.proofs.Links.{last, made}
use Rattle.cbc.proofs.chain.cbc.Given as goal

abbrev pub invariant-loop-k : goal.invariant-loop-k
invariant-loop-k l =
    (l.last ≡ last l.back l.schedule l.initial.last l.input l.k) × Holds (16 * l.n) (in_row (made l.back l.schedule l.initial.last l.input) l.k) l.output
