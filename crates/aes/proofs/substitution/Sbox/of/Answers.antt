-- The entry at a byte.
-- Assumes nothing.
use mathlib.Core.Path.{◌∙◌}
use native.Mathlib.Omega.{arith}
use Rattle.aes.specs.Box.{s_box}
use Rattle.aes.proofs.Listed.{table_at}
use Rattle.aes.proofs.substitution.Sbox.of.Goals as goal

pub returns : goal.returns
returns c = c.entry.ensures ∙ rw c.args.self.now.stored (table_at s_box 256 c.args.b (omega arith))
