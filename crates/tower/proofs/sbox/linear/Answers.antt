-- Moves, and both bytes of what they make.
-- Assumes nothing.
use borrow.Author.Rules.{rules}
use Rattle.tower.proofs.Looked.{by_turns}
use Rattle.tower.proofs.sbox.linear.Goals as goal

pub returns : goal.returns
returns c =
    by_turns c.args.b (search rules)
