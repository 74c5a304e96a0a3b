-- Turned by eight bits.
-- Assumes nothing.
use borrow.Author.Rules.{rules}
use Rattle.aes.proofs.Words.{word-turned}
use Rattle.aes.proofs.word.rot_word.Goals as goal

pub returns : goal.returns
returns c = word-turned c.args.x (search rules)
