-- Over its table the substitution is SUBBYTES.
-- Assumes nothing.
use mathlib.Core.Path.{◌∙◌}
use Rattle.aes.proofs.Given.{array_bytes}
use Rattle.aes.proofs.Steps.{sub_lent}
use Rattle.aes.proofs.substitution.Sbox.sub_bytes.Goals as goal

pub returns : goal.returns
returns c = c.substitute.ensures ∙ rw c.args.self.now.stored (sub_lent c.args.s (array_bytes c.well_formed.1.0))
