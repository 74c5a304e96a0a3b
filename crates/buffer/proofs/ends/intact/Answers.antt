-- After each byte it is told of all up to it.
-- Assumes nothing.
use mathlib.Core.Path.{refl}
use native.Mathlib.Numerals.{add-one}
use Rattle.aes.specs.Byte.{below}
use Rattle.std.proofs.Math.Bool.{and_comm}
use Rattle.buffer.proofs.ends.intact.Goals as goal

pub loop-byte-init : goal.loop-byte-init
unfolding below
loop-byte-init c = refl

pub loop-byte-preserved : goal.loop-byte-preserved
unfolding below
loop-byte-preserved c = rw (add-one, c.loop-byte.invariant) (search and_comm)
