-- After j turns it is told of the first j pipes.
-- Assumes nothing.
use mathlib.Core.Path.{◌≡◌}
use mathlib.Core.Bool.{not}
use lib.Dec.{eqb}
use Rattle.aes.specs.Byte.{below}
use Rattle.packet.specs.Packet.{pid_at}
use Rattle.packet.proofs.pipes.Pipes.is_new.Given as goal

abbrev pub invariant-loop-j : goal.invariant-loop-j
invariant-loop-j l = l.new ≡ below l.j (λ i. not (eqb (pid_at l.self.bytes.now i) (pid_at l.self.bytes.now l.k)))
