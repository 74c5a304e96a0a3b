-- The entry at b - 1 is the logarithm of b.
-- Assumes nothing.
use borrow.Author.Rules.{rules}
use Rattle.aes.proofs.Powers.{logarithm-at}
use Rattle.aes.proofs.field.logarithm_in.Goals as goal

pub returns : goal.returns
returns c = rw c.requires.1 (logarithm-at c.args.b (search rules) (search rules))
