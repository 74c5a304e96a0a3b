-- After j turns it is told of the first j pipes.
-- Assumes nothing.
use mathlib.Core.Path.{refl}
use native.Mathlib.Numerals.{add-one}
use Rattle.aes.specs.Byte.{below}
use Rattle.std.proofs.Math.Bool.{and_comm}
use Rattle.packet.proofs.pipes.Pipes.is_new.Goals as goal

pub loop-j-init : goal.loop-j-init
unfolding below
loop-j-init c = refl

pub loop-j-preserved : goal.loop-j-preserved
unfolding below
loop-j-preserved c = rw (add-one c.loop-j.j, c.loop-j.invariant, c.pid_at.ensures, c.pid_at-own.ensures) (search and_comm)
