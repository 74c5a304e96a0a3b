-- After k turns it is none of the first k pipes.
-- Assumes nothing.
use mathlib.Core.Path.{◌≡◌}
use Prim.Native.Nat.{◌+◌, ◌-◌}
use Rattle.aes.specs.Byte.{listed, table, place}
use Rattle.packet.specs.Packet.{pid_at}
use Rattle.packet.proofs.pipes.Pipes.pipe_of.Given as goal

abbrev pub invariant-loop-k : goal.invariant-loop-k
invariant-loop-k l = place l.pid (table (pid_at l.self.bytes.now) 7) ≡ l.k + place l.pid (listed (pid_at l.self.bytes.now) l.k (7 - l.k))
