-- Sixteen bytes from the place of the key on.
-- Assumes nothing.
use mathlib.Core.Path.{◌≡◌, ◌∙◌}
use Prim.Native.Nat.{◌+◌, ◌*◌, ◌-◌}
use native.Mathlib.Omega.{arith}
use Rattle.aes.specs.Key.{round_key}
use Rattle.aes.proofs.Fill.{part_listed}
use Rattle.aes.proofs.size.Schedule.key.Goals as goal

pub returns : goal.returns
unfolding round_key
returns c =
    let a = 16 * c.args.r in
    let size : a + 16 - a ≡ 16 = omega arith in
    c.block.ensures ∙ rw size (part_listed c.args.self.now.bytes.now a 16 (omega arith))
