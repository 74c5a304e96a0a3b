-- Byte 3 of the copy is set.
-- Assumes nothing.
use native.Mathlib.Omega.{arith}
use Rattle.packet.proofs.Splice.{set_bits}
use Rattle.packet.proofs.header.Packet.marked.Goals as goal

pub returns : goal.returns
returns c =
    let p = c.args.self.now in
    rw c.copy.ensures (set_bits c.args.bits p.bytes.now (omega (arith, p.whole)))
