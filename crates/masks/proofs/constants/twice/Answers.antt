-- Each turn fills one more byte.
-- Assumes nothing.
use borrow.Author.Rules.{rules}
use Rattle.aes.specs.Byte.{table}
use Rattle.aes.proofs.Fill.{filled_all}
use Rattle.masks.proofs.constants.twice.Goals as goal

pub returns : goal.returns
unfolding table
returns c =
    filled_all c.loop-i.invariant (search rules)
