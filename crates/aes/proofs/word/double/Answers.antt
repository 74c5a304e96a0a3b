-- The bits moved, and 1b for each bit 7.
-- Assumes nothing.
use Rattle.aes.proofs.Words.{word-doubled}
use Rattle.aes.proofs.word.double.Goals as goal

pub returns : goal.returns
returns c =
    word-doubled c.args.x
