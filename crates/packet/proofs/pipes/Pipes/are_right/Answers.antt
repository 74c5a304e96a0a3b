-- After k turns it is told of the first k pipes.
-- Assumes nothing.
use mathlib.Core.Path.{refl}
use native.Mathlib.Numerals.{add-one}
use Rattle.aes.specs.Byte.{below}
use Rattle.std.proofs.Math.Bool.{and_comm}
use Rattle.packet.proofs.pipes.Pipes.are_right.Goals as goal

pub loop-k-init : goal.loop-k-init
unfolding below
loop-k-init c = (refl, refl)

pub loop-k-preserved : goal.loop-k-preserved
unfolding below
loop-k-preserved c =
    let l = c.loop-k in (
      rw (add-one, l.invariant.0, c.assignable-assigned.ensures, c.pid_at.ensures) (search and_comm),
      rw (add-one, l.invariant.1, c.is_new-single.ensures) (search and_comm),
    )
