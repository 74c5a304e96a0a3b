-- Each turn fills one more byte.
-- Assumes nothing.
use borrow.Author.Rules.{rules}
use Rattle.aes.specs.Key.{round_key}
use Rattle.aes.proofs.Fill.{filled_all}
use Rattle.lent.proofs.blocks.sixteen.Goals as goal

pub returns : goal.returns
unfolding round_key
returns c =
    filled_all c.loop-i.invariant (search rules)
