-- After k turns it is told of the first k pipes.
-- Assumes nothing.
use mathlib.Core.Path.{◌≡◌}
use mathlib.Core.Bool.{not}
use lib.Dec.{eqb}
use Rattle.aes.specs.Byte.{below}
use Rattle.packet.specs.Packet.{pid_at}
use Rattle.packet.specs.Pid.{assignable}
use Rattle.packet.proofs.pipes.Pipes.are_right.Given as goal

abbrev pub invariant-loop-k : goal.invariant-loop-k
invariant-loop-k l =
    (l.assigned ≡ below l.k (λ i. assignable (pid_at l.self.bytes.now i)))
    × (l.single ≡ below l.k (λ i. below i (λ j. not (eqb (pid_at l.self.bytes.now j) (pid_at l.self.bytes.now i)))))
