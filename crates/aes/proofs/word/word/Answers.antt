-- The number of four bytes.
-- Assumes nothing.
use borrow.Author.Rules.{rules}
use Rattle.aes.proofs.Words.{word_of_lem}
use Rattle.aes.proofs.word.word.Goals as goal

pub returns : goal.returns
returns c = word_of_lem c.args.a c.args.b c.args.c c.args.d (search rules) (search rules) (search rules) (search rules)
