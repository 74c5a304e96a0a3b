-- In the row of the label.
-- Assumes nothing.
use mathlib.Core.Path.{sym}
use Prim.Native.Nat.{◌+◌, ◌*◌, ◌%◌}
use Rattle.aes.specs.Byte.{table}
use Rattle.aes.specs.State.{at}
use Rattle.aes.specs.Key.{round_key}
use Rattle.aes.proofs.Listed.{table_at}
use Rattle.masks.proofs.label.Label.over.Goals as goal

pub returns : goal.returns
unfolding round_key table
returns c =
    let a = c.args in
    sym (table_at (λ i. at a.places.now (16 * (a.self.0 % 16) + i)) 16 a.p.0 c.requires)
