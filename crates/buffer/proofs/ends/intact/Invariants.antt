-- After each byte it is told of all up to it.
-- Assumes nothing.
use mathlib.Core.Path.{◌≡◌}
use lib.Dec.{eqb}
use lib.ListN.{get_or}
use Rattle.aes.specs.Byte.{below}
use Rattle.buffer.proofs.ends.intact.Given as goal

abbrev pub invariant-loop-byte : goal.invariant-loop-byte
invariant-loop-byte l = l.same ≡ below l.byte-index (λ k. eqb (get_or l.register k 0) 0xa6)
