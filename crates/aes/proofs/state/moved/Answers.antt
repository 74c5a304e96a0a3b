-- Each turn fills one more byte.
-- Assumes nothing.
use borrow.Author.Rules.{rules}
use Rattle.aes.proofs.Fill.{filled_all}
use Rattle.aes.proofs.state.moved.Goals as goal

pub returns : goal.returns
returns c =
    filled_all c.loop-i.invariant (search rules)
